use Rattle.link_laws.proofs.HeardContents.{contents_of_shelf}
use Rattle.link_laws.proofs.laws.contents_are_of_the_shelf.Goals as goal

pub returns : goal.returns
returns g c = contents_of_shelf c.replies_are_of_the_shelf.ensures.items c.messages_read_back.ensures.requests g.D.Disk g.F.Shelf c.links_are_heard.ensures
