use Rattle.std.proofs.Common.{rules, append_assoc, sym}
use Rattle.lcm_program.proofs.mof_words.push_out_of_profile.Goals as goal

pub returns : goal.returns
returns c = rw (sym c.name-name.ensures) (search (rules, append_assoc))
