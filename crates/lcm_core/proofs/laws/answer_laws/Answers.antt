use Rattle.lcm_core.proofs.Repaired.{known_entries}
use Rattle.lcm_core.proofs.WellAnswered.{well_answered_succeed}
use Rattle.lcm_core.proofs.laws.answer_laws.Goals as goal

pub returns : goal.returns
returns c = record { known = known_entries c.set_laws.ensures.makes_hold; succeeds = well_answered_succeed }
