use Rattle.rehearsal.proofs.Lists.{plays_in_parts, shelves_are_of_lines}
use Rattle.rehearsal.proofs.laws.steps_follow.Goals as goal

pub returns-clause-parts : goal.returns-clause-parts
returns-clause-parts g c = plays_in_parts g.S.Starter

pub returns-clause-shelf : goal.returns-clause-shelf
returns-clause-shelf g c = shelves_are_of_lines g.S.Starter
