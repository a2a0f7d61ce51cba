use Rattle.std.proofs.Common.{rules, append_assoc}
use Rattle.lcm_program.proofs.merge_words.push_fit_error.Goals as goal

pub returns-in-ExclusiveTaken : goal.returns-in-ExclusiveTaken
returns-in-ExclusiveTaken c = rw c.in-ExclusiveTaken.is (search (rules, append_assoc))
