use Rattle.std.proofs.Common.{length}
use Rattle.pull_store.proofs.need.+need_of_rows.Given as goal

abbrev pub decreases-need_of_rows : goal.decreases-need_of_rows
decreases-need_of_rows l = length l.rows.now
