use Rattle.dsc_node.specs.Work.{known}
use Rattle.dsc_node.proofs.Completing.{valid_starts_complete}
use Rattle.dsc_node.proofs.laws.valid_starts_complete.Goals as goal

pub returns : goal.returns
returns g c = valid_starts_complete (known g.D.Disk g.M.Resources g.M.Machine g.C.Clock) c.serving_laws.ensures.register c.serving_laws.ensures.pull
