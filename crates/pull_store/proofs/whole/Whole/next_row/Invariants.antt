use Rattle.std.proofs.Common.{◌≡◌, length}
use Rattle.std.specs.Prelude.{option_map}
use Rattle.pull_store.specs.Whole.{rows_in, rows_left}
use Rattle.pull_store.proofs.whole.Whole.next_row.Given as goal

abbrev pub invariant-loop-row : goal.invariant-loop-row
invariant-loop-row l = record {
  left : rows_left l.fn.self.without.now l.fn.self.front.now (option_map (λ row. row.now) l.fn.self.row) l.fn.self.after.now ≡ rows_left l.self.without.now l.self.front.now (option_map (λ row. row.now) l.self.row) l.self.after.now;
  reports : l.self.reports.now ≡ l.fn.self.reports.now;
}

abbrev pub decreases-loop-row : goal.decreases-loop-row
decreases-loop-row l = length (rows_in l.self.front.now (option_map (λ row. row.now) l.self.row) l.self.after.now)
