use Rattle.pull_serving.proofs.Heard.{sendable_are_replied}
use Rattle.pull_serving.proofs.laws.sendable_requests_are_replied.Goals as goal

pub returns : goal.returns
returns c = sendable_are_replied c.messages_read_back.ensures.requests c.answers_stay.ensures.requests
