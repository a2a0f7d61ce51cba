use Rattle.std.proofs.Common.{◌-◌, ◌∙◌, ℕ, List, length, take, drop, sym, ap, arith}
use Rattle.gate_log.specs.Text.{cells}
use Rattle.pull_store.specs.Bodies.{bodies_of_row, bodies_of_rows}
use Rattle.pull_store.specs.Rows.{rows_without}
use Rattle.pull_store.proofs.Leaving.{left_kept}
use Rattle.gate_log.proofs.OneByOne.{cells_both}
use Rattle.pull_store.proofs.need.+need_of_rows.Goals as goal

pub returns-else-contains-clause-need : goal.returns-else-contains-clause-need
returns-else-contains-clause-need t c =
    let rows = c.args.rows.now in
    let first = c.first-item.result in
    let split = left_kept c.args.without.now rows first c.in-len1-up.len_at_least c.first-item.is (sym c.contains.ensures.value ∙ c.if-contains.false) in
    omega (
      arith,
      c.need_of_row.ensures.need,
      c.need_of_rows-else-contains.ensures.need,
      ap (λ (bodies : List (List ℕ)). length (cells bodies)) split,
      cells_both (bodies_of_row first) (bodies_of_rows (rows_without c.args.without.now (take (length rows - 1) (drop 1 rows)))),
    )
