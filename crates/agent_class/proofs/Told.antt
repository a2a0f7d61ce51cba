-- The message that a body has, by what is read of it.
use Rattle.std.proofs.Common.{◌≡◌, ℕ, List, Some, None, Result, Ok, Err, ap}
use Rattle.pull_messages.specs.declared.error.MessageError.{MessageError}
use Rattle.pull_messages.specs.declared.report.ReportMessage.{ReportMessage}
use Rattle.pull_server.specs.Messages.{report_in}
use Rattle.agent_class.specs.LastMessage.{message_of_body, message_said}

pub told : (body : List ℕ) (report : ReportMessage) → report_in body ≡ Ok report → message_of_body body ≡ Some report
unfolding message_of_body
told body report is = ap message_said is

pub untold : (body : List ℕ) (error : MessageError) → report_in body ≡ Err error → message_of_body body ≡ None
unfolding message_of_body
untold body error is = ap message_said is
