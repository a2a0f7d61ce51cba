use Rattle.std.proofs.Common.{inl, inr, refl}
use Rattle.node_pull.proofs.GoingOn.{stays}
use Rattle.lcm_program.proofs.starts.push_part.Goals as goal

pub returns-in-Ok-clause-ends : goal.returns-in-Ok-clause-ends
returns-in-Ok-clause-ends g c = inl (rw c.in-Ok.ensures.chars at c.push.ensures.ends)

pub returns-in-Err-clause-ends : goal.returns-in-Err-clause-ends
returns-in-Err-clause-ends g c = inr ((refl, refl), refl, refl)

pub returns-in-Err-clause-goes_on : goal.returns-in-Err-clause-goes_on
returns-in-Err-clause-goes_on g c = stays _
