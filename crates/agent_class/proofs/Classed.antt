-- The class that a body gives, by the message that it has.
use Rattle.std.proofs.Common.{◌≡◌, ℕ, List, Result, Ok, Err, refl}
use Rattle.pull_messages.specs.declared.error.MessageError.{MessageError}
use Rattle.pull_messages.specs.declared.report.ReportMessage.{ReportMessage}
use Rattle.pull_server.specs.Messages.{report_in}
use Rattle.agent_class.specs.Classes.{class_of_body, class_said}
use Rattle.agent_class.specs.LastMessage.{class_told, message_of_body, message_said}

class_by_message : (said : Result ReportMessage MessageError) → class_told (message_said said) ≡ class_said said
class_by_message (Ok report) = refl
class_by_message (Err error) = refl

pub told_class : (body : List ℕ) → class_told (message_of_body body) ≡ class_of_body body
unfolding class_of_body message_of_body
told_class body = class_by_message (report_in body)
