use Rattle.pull_server.proofs.SentReplies.{checksums_are_of_items, replies_are_sendable}
use Rattle.pull_server.proofs.laws.replies_are_of_the_shelf.Goals as goal

pub returns-clause-sendable : goal.returns-clause-sendable
returns-clause-sendable c = replies_are_sendable

pub returns-clause-items : goal.returns-clause-items
returns-clause-items c = checksums_are_of_items
