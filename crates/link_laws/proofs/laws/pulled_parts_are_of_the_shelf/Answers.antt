use Rattle.link_laws.proofs.PulledParts.{pulled_of_shelf}
use Rattle.link_laws.proofs.laws.pulled_parts_are_of_the_shelf.Goals as goal

pub returns : goal.returns
returns g c = pulled_of_shelf g.D.Disk g.F.Shelf c.contents_are_of_the_shelf.ensures
