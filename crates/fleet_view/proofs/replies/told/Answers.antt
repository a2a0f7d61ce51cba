use Rattle.std.proofs.Common.{sym, ◌∙◌, ap}
use Rattle.std.proofs.lemmas.Result.{IfOk-weaker}
use Rattle.pull_messages.specs.declared.target_kinds.FleetTarget.{FleetTarget}
use Rattle.pull_server.specs.Replies.{message_reply}
use Rattle.fleet_view.specs.FleetReplies.{told}
use Rattle.fleet_view.proofs.Answered.{summary_of}
use Rattle.fleet_view.proofs.replies.told.Goals as goal

pub returns-in_ok-summary-in-Summary : goal.returns-in_ok-summary-in-Summary
returns-in_ok-summary-in-Summary c =
    let rows = c.args.store.now.rows in
    let text = c.in_ok-summary-in-Summary.ensures ∙ summary_of c.args.fleet.now.members rows c.requires in
    IfOk-weaker c.message_reply-in-Summary.result _ _
    (λ reply is. is ∙ ap message_reply text ∙ ap (λ (t : FleetTarget). told t rows) (sym c.in-Summary.is)) c.message_reply-in-Summary.ensures
