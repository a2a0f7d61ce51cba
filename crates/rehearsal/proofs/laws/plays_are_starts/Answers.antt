use Rattle.rehearsal.proofs.Chain.{plays_are_starts}
use Rattle.rehearsal.proofs.laws.plays_are_starts.Goals as goal

pub returns : goal.returns
returns g c = plays_are_starts g.S.Starter c.images_have_one_meaning.ensures.sound
