use Rattle.std.proofs.Common.{◌∙◌, ℕ, List, option_map, sym, ap}
use Rattle.pull_store.specs.Rows.{rows_without}
use Rattle.pull_store.specs.Whole.{rows_in}
use Rattle.pull_store.proofs.Leaving.{first_out}
use Rattle.pull_store.proofs.whole.Whole.next_row.Goals as goal

pub loop-row-preserved : goal.loop-row-preserved
loop-row-preserved c =
    let old = c.loop-row.self in
    let new = c.take_row.new.self in
    let rows = rows_in old.front.now (option_map (λ row. row.now) old.row) old.after.now in
    let rest = rows_in new.front.now (option_map (λ row. row.now) new.row) new.after.now in
    let out = first_out new.without.now rows c.in-Some.row.now rest c.in-Some.ensures.row (sym c.contains.ensures.value ∙ c.if-not-contains.false) in
    record {
      left = c.loop-row.invariant.left ∙ ap (λ (without : List ℕ). rows_without without rows) (sym c.take_row.ensures.without) ∙ out;
      reports = c.take_row.ensures.reports ∙ c.loop-row.invariant.reports;
    }
