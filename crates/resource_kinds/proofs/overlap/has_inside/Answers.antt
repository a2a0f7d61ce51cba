use Rattle.resource_kinds.proofs.overlap.has_inside.Goals as goal

pub returns-in-Some : goal.returns-in-Some
returns-in-Some c = rw c.in-Some.is c.encloses_one.ensures
