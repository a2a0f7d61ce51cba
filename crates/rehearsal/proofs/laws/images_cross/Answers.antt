use Rattle.rehearsal.proofs.Chain.{ends_cross, stops_cross}
use Rattle.rehearsal.proofs.laws.images_cross.Goals as goal

pub returns-clause-ends : goal.returns-clause-ends
returns-clause-ends g c = ends_cross g.S.Starter

pub returns-clause-stops : goal.returns-clause-stops
returns-clause-stops g c = stops_cross g.S.Starter
