use Rattle.std.proofs.Common.{rules}
use Rattle.lcm_program.proofs.meta_words.push_meta_error.Goals as goal

pub returns-in-TwoManagers : goal.returns-in-TwoManagers
returns-in-TwoManagers c = rw c.in-TwoManagers.is (search rules)
