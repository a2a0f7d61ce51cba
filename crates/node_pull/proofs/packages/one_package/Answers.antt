use Rattle.std.proofs.Common.{◌∙◌, refl}
use Rattle.node_pull.specs.declared.error.PullFault.TheVariants.{Memory}
use Rattle.node_pull.specs.Packages.{no_memory, not_given}
use Rattle.http_frames.proofs.PassedOn.{passed_on}
use Rattle.node_pull.proofs.PackageRows.{added, ended_looking, lacks, not_put, there}
use Rattle.node_pull.proofs.packages.one_package.Goals as goal

pub returns-in_err-name-clause-one : goal.returns-in_err-name-clause-one
returns-in_err-name-clause-one g c = rw (passed_on Memory c.from_residual.result c.from_residual.ensures.1) (no_memory _ _ _ refl)

pub returns-in_err-version-clause-one : goal.returns-in_err-version-clause-one
returns-in_err-version-clause-one g c = rw (passed_on Memory c.from_residual-in_err-version.result c.from_residual-in_err-version.ensures.1) (no_memory _ _ _ refl)

pub returns-in-Ok-true-clause-one : goal.returns-in-Ok-true-clause-one
returns-in-Ok-true-clause-one g c =
    there g.M.Machine.packages g.M.Resources.faults c.args.server.now c.args.wanted.now _ c.args.machine.now c.package_has.new.self c.deref.result.now c.deref-2.result.now c.in-Ok-true.field-0
    c.in-Ok-true.field-0-test (c.deref.ensures ∙ c.in_ok-name.ensures) (c.deref-2.ensures ∙ c.in_ok-version.ensures) c.in-Ok-true.ensures.answer c.in-Ok-true.ensures.same

pub returns-in-Err-clause-one : goal.returns-in-Err-clause-one
returns-in-Err-clause-one g c =
    rw c.host_error.ensures
    (ended_looking g.M.Machine.packages g.M.Resources.faults c.args.server.now c.args.wanted.now c.in-Err.error _ c.args.machine.now c.package_has.new.self c.in-Err.ensures.cause.failed
    c.in-Err.ensures.same)

pub returns-in-Ok-package_put-clause-one : goal.returns-in-Ok-package_put-clause-one
returns-in-Ok-package_put-clause-one g c =
    added g.M.Machine.packages g.M.Resources.faults c.args.server.now c.args.wanted.now _ _ c.args.machine.now c.package_has.new.self c.package_put.new.self
    c.deref-in-Ok.result.now c.deref-in-Ok-2.result.now c.deref-in-Ok-3.result.now c.in-Ok.body.items
    (c.deref-in-Ok.ensures ∙ c.in_ok-name.ensures) (c.deref-in-Ok-2.ensures ∙ c.in_ok-version.ensures) c.deref-in-Ok-3.ensures.value
    (lacks g.M.Machine.packages g.M.Resources.faults c.args.server.now c.args.wanted.now c.args.machine.now c.deref.result.now c.deref-2.result.now c.in-Ok-false.field-0
    c.in-Ok-false.field-0-test (c.deref.ensures ∙ c.in_ok-name.ensures) (c.deref-2.ensures ∙ c.in_ok-version.ensures) c.in-Ok-false.ensures.answer)
    c.in-Ok-false.ensures.same c.in-Ok.ensures.asks c.in-Ok-package_put.ensures.added

pub returns-in-Ok-clause-one : goal.returns-in-Ok-clause-one
returns-in-Ok-clause-one g c =
    rw c.host_error-in-Err-package_put.ensures
    (not_put g.M.Machine.packages g.M.Resources.faults c.args.server.now c.args.wanted.now c.in-Err-package_put.error _ _ c.args.machine.now c.package_has.new.self c.package_put.new.self
    c.deref-in-Ok.result.now c.deref-in-Ok-2.result.now c.deref-in-Ok-3.result.now c.in-Ok.body.items
    (c.deref-in-Ok.ensures ∙ c.in_ok-name.ensures) (c.deref-in-Ok-2.ensures ∙ c.in_ok-version.ensures) c.deref-in-Ok-3.ensures.value
    (lacks g.M.Machine.packages g.M.Resources.faults c.args.server.now c.args.wanted.now c.args.machine.now c.deref.result.now c.deref-2.result.now c.in-Ok-false.field-0
    c.in-Ok-false.field-0-test (c.deref.ensures ∙ c.in_ok-name.ensures) (c.deref-2.ensures ∙ c.in_ok-version.ensures) c.in-Ok-false.ensures.answer)
    c.in-Ok-false.ensures.same c.in-Ok.ensures.asks c.in-Ok-false.ensures.cause.later c.in-Err-package_put.ensures.cause.failed c.in-Err-package_put.ensures.whole)

pub returns-clause-one : goal.returns-clause-one
returns-clause-one g c =
    rw c.error_of.ensures
    (not_given _ _ _ _ c.in-Err-fetch_module.error
    (lacks g.M.Machine.packages g.M.Resources.faults c.args.server.now c.args.wanted.now c.args.machine.now c.deref.result.now c.deref-2.result.now c.in-Ok-false.field-0
    c.in-Ok-false.field-0-test (c.deref.ensures ∙ c.in_ok-name.ensures) (c.deref-2.ensures ∙ c.in_ok-version.ensures) c.in-Ok-false.ensures.answer)
    c.in-Ok-false.ensures.same c.in-Err-fetch_module.ensures.asks)
