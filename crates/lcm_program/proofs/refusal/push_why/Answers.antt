use Rattle.std.proofs.Common.{rules, append_assoc, sym}
use Rattle.lcm_program.proofs.refusal.push_why.Goals as goal

pub returns : goal.returns
returns c = rw (sym c.name_of-name.ensures) (search (rules, append_assoc))
