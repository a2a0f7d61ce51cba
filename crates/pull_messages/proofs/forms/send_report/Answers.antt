use Rattle.std.proofs.Common.{ℕ, List, codes}
use Rattle.std.proofs.lemmas.Result.{err_from_is_err_and}
use Rattle.pull_messages.specs.declared.target_kinds.Target.TheVariants.{SendReport}
use Rattle.pull_messages.specs.Stops.{StopsAt, EndsAt, IsAgentForm}
use Rattle.pull_messages.proofs.FormLaws.{left_exit, agent_form_free, agent_form_in, finished_bad}
use Rattle.pull_messages.proofs.Languages.{ends_of_stop}
use Rattle.pull_messages.proofs.forms.send_report.Goals as goal

abbrev end : List ℕ
end = codes "')/SendReport"

pub returns-in_err-id-clause-bad : goal.returns-in_err-id-clause-bad
returns-in_err-id-clause-bad c =
    let p = err_from_is_err_and c.from_residual.result c.from_residual.ensures.1 in
    let chars = c.args.chars.now in
    left_exit c.from_residual.result p.0 c.in_err-id.field-0.0 (StopsAt (IsAgentForm end) chars) (EndsAt (IsAgentForm end) chars) p.1 p.2
    (λ n stops. ends_of_stop (IsAgentForm end) chars n (agent_form_free end) stops) c.in_err-id.ensures.stop

pub returns-clause-bad : goal.returns-clause-bad
returns-clause-bad c =
    let form = c.in_ok-id.ensures.taken in
    finished_bad (IsAgentForm end) c.finished.result (SendReport c.in_ok-id.id) c.args.chars.now form.0 c.in_ok-id.rest.now (agent_form_free end)
    c.finished.ensures form.1 (agent_form_in c.in_ok-id.id end form.0 form.2)
