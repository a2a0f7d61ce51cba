use Rattle.pull_serving.proofs.Heard.{links_are_heard}
use Rattle.pull_serving.proofs.laws.links_are_heard.Goals as goal

pub returns : goal.returns
returns g c = links_are_heard c.replies_are_of_the_shelf.ensures.sendable c.messages_read_back.ensures.replies g.D.Disk g.F.Shelf
