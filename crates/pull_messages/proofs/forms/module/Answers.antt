use Rattle.std.proofs.Common.{◌++◌, codes, refl}
use Rattle.std.proofs.lemmas.Result.{err_from_is_err_and}
use Rattle.pull_messages.specs.declared.target_kinds.Target.TheVariants.{Module}
use Rattle.pull_messages.specs.Stops.{StopsAt, EndsAt, IsWord, IsAnyQuoted, IsModuleForm}
use Rattle.pull_messages.proofs.FormLaws.{left_exit, finished_bad, joined, module_free, module_first, module_second, module_third, module_fourth, module_fifth}
use Rattle.pull_messages.proofs.forms.module.Goals as goal

pub returns-in_err-rest-clause-bad : goal.returns-in_err-rest-clause-bad
returns-in_err-rest-clause-bad c =
    let p = err_from_is_err_and c.from_residual.result c.from_residual.ensures.1 in
    let chars = c.args.chars.now in
    left_exit c.from_residual.result p.0 c.in_err-rest.field-0.0 (StopsAt (IsWord (codes "/PSDSCPullServer.svc/Modules(ModuleName=")) chars) (EndsAt IsModuleForm chars) p.1 p.2
    (module_first chars) c.in_err-rest.ensures.stop

pub returns-in_err-name-clause-bad : goal.returns-in_err-name-clause-bad
returns-in_err-name-clause-bad c =
    let p = err_from_is_err_and c.from_residual-in_err-name.result c.from_residual-in_err-name.ensures.1 in
    let chars = c.args.chars.now in
    let a = c.in_ok-rest.ensures.taken in
    left_exit c.from_residual-in_err-name.result p.0 c.in_err-name.field-0.0 (StopsAt (IsAnyQuoted 44) c.in_ok-rest.rest.now) (EndsAt IsModuleForm chars) p.1 p.2
    (λ n stops. module_second chars a.0 c.in_ok-rest.rest.now n a.1 a.2 stops) c.in_err-name.ensures.stop

pub returns-in_err-rest-2-clause-bad : goal.returns-in_err-rest-2-clause-bad
returns-in_err-rest-2-clause-bad c =
    let p = err_from_is_err_and c.from_residual-in_err-rest-2.result c.from_residual-in_err-rest-2.ensures.1 in
    let chars = c.args.chars.now in
    let a = c.in_ok-rest.ensures.taken in
    let b = c.in_ok-name.ensures.taken in
    left_exit c.from_residual-in_err-rest-2.result p.0 c.in_err-rest-2.field-0.0 (StopsAt (IsWord (codes "ModuleVersion=")) c.in_ok-name.rest.now) (EndsAt IsModuleForm chars) p.1 p.2
    (λ n stops. module_third chars a.0 c.in_ok-rest.rest.now b.0 c.in_ok-name.rest.now n a.1 a.2 b.1 (c.in_ok-name.name, b.2) stops) c.in_err-rest-2.ensures.stop

pub returns-in_err-version-clause-bad : goal.returns-in_err-version-clause-bad
returns-in_err-version-clause-bad c =
    let p = err_from_is_err_and c.from_residual-in_err-version.result c.from_residual-in_err-version.ensures.1 in
    let chars = c.args.chars.now in
    let a = c.in_ok-rest.ensures.taken in
    let b = c.in_ok-name.ensures.taken in
    let d = c.in_ok-rest-2.ensures.taken in
    left_exit c.from_residual-in_err-version.result p.0 c.in_err-version.field-0.0 (StopsAt (IsAnyQuoted 41) c.in_ok-rest-2.rest.now) (EndsAt IsModuleForm chars) p.1 p.2
    (λ n stops. module_fourth chars a.0 c.in_ok-rest.rest.now b.0 c.in_ok-name.rest.now d.0 c.in_ok-rest-2.rest.now n a.1 a.2 b.1 (c.in_ok-name.name, b.2) d.1 d.2 stops)
    c.in_err-version.ensures.stop

pub returns-in_err-rest-3-clause-bad : goal.returns-in_err-rest-3-clause-bad
returns-in_err-rest-3-clause-bad c =
    let p = err_from_is_err_and c.from_residual-in_err-rest-3.result c.from_residual-in_err-rest-3.ensures.1 in
    let chars = c.args.chars.now in
    let a = c.in_ok-rest.ensures.taken in
    let b = c.in_ok-name.ensures.taken in
    let d = c.in_ok-rest-2.ensures.taken in
    let v = c.in_ok-version.ensures.taken in
    left_exit c.from_residual-in_err-rest-3.result p.0 c.in_err-rest-3.field-0.0 (StopsAt (IsWord (codes "/ModuleContent")) c.in_ok-version.rest.now) (EndsAt IsModuleForm chars) p.1 p.2
    (λ n stops. module_fifth chars a.0 c.in_ok-rest.rest.now b.0 c.in_ok-name.rest.now d.0 c.in_ok-rest-2.rest.now v.0 c.in_ok-version.rest.now n
    a.1 a.2 b.1 (c.in_ok-name.name, b.2) d.1 d.2 v.1 (c.in_ok-version.version, v.2) stops)
    c.in_err-rest-3.ensures.stop

pub returns-clause-bad : goal.returns-clause-bad
returns-clause-bad c =
    let a = c.in_ok-rest.ensures.taken in
    let b = c.in_ok-name.ensures.taken in
    let d = c.in_ok-rest-2.ensures.taken in
    let v = c.in_ok-version.ensures.taken in
    let e = c.in_ok-rest-3.ensures.taken in
    let r1 = c.in_ok-rest.rest.now in
    let r2 = c.in_ok-name.rest.now in
    let r3 = c.in_ok-rest-2.rest.now in
    let r4 = c.in_ok-version.rest.now in
    let r5 = c.in_ok-rest-3.rest.now in
    finished_bad IsModuleForm c.finished.result (Module c.in_ok-name.name c.in_ok-version.version) c.args.chars.now (a.0 ++ (b.0 ++ (d.0 ++ (v.0 ++ e.0)))) r5 module_free
    c.finished.ensures
    (joined _ a.0 r1 (b.0 ++ (d.0 ++ (v.0 ++ e.0))) r5 a.1 (joined _ b.0 r2 (d.0 ++ (v.0 ++ e.0)) r5 b.1 (joined _ d.0 r3 (v.0 ++ e.0) r5 d.1 (joined _ v.0 r4 e.0 r5 v.1 e.1)))) (
      a.0,
      b.0 ++ (d.0 ++ (v.0 ++ e.0)),
      refl,
      a.2,
      (
        b.0,
        d.0 ++ (v.0 ++ e.0),
        refl,
        (c.in_ok-name.name, b.2),
        (d.0, v.0 ++ e.0, refl, d.2, (v.0, e.0, refl, (c.in_ok-version.version, v.2), e.2)),
      ),
    )
