use Rattle.std.proofs.Common.{codes, Result, sym, subst}
use Rattle.pull_messages.specs.declared.parts.Stop.{Stop}
use Rattle.pull_messages.specs.declared.target_kinds.Target.{Target}
use Rattle.pull_messages.specs.Stops.{EndsAt, IfLeft, IsAgentForm, IsContentForm, IsModuleForm, IsAnyTarget}
use Rattle.pull_messages.proofs.FormLaws.{better_bad, if_left, AnyForm, any_in, any_out}
use Rattle.pull_messages.proofs.Languages.{Either, ends_same}
use Rattle.pull_messages.proofs.forms.spelled_target.Goals as goal

pub returns-clause-bad : goal.returns-clause-bad
returns-clause-bad c =
    let chars = c.args.chars.now in
    let module_or = Either IsContentForm IsModuleForm in
    let report_or = Either (IsAgentForm (codes "')/SendReport")) module_or in
    let action_or = Either (IsAgentForm (codes "')/GetDscAction")) report_or in
    let last = better_bad IsContentForm IsModuleForm chars c.content-content.result c.module-module.result c.content-content.ensures.bad c.module-module.ensures.bad in
    let third = better_bad (IsAgentForm (codes "')/SendReport")) module_or chars c.send_report-send_report.result c.better.result c.send_report-send_report.ensures.bad
    (subst (λ (r : Result Target Stop). IfLeft r (EndsAt module_or chars)) (sym c.better.ensures) last) in
    let second = better_bad (IsAgentForm (codes "')/GetDscAction")) report_or chars c.action-action.result c.better-2.result c.action-action.ensures.bad
    (subst (λ (r : Result Target Stop). IfLeft r (EndsAt report_or chars)) (sym c.better-2.ensures) third) in
    let first = better_bad (IsAgentForm (codes "')")) action_or chars c.node-node.result c.better-3.result c.node-node.ensures.bad
    (subst (λ (r : Result Target Stop). IfLeft r (EndsAt action_or chars)) (sym c.better-3.ensures) second) in
    if_left c.better-4.result (EndsAt AnyForm chars) (EndsAt IsAnyTarget chars) (λ n ends. ends_same AnyForm IsAnyTarget chars n any_out any_in ends)
    (subst (λ (r : Result Target Stop). IfLeft r (EndsAt AnyForm chars)) (sym c.better-4.ensures) first)
