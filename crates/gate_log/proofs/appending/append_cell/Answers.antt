use Rattle.std.proofs.Common.{◌≡◌, ◌+◌, ◌∷◌, [], ◌++◌, ℕ, List, length, subst, max, OnOk}
use Rattle.std.specs.Prelude.{IfSome}
use Rattle.dsc_outside.specs.Disk.{Each, written}
use Rattle.gate_log.specs.Bytes.{Leaves}
use Rattle.gate_log.specs.Text.{IsText}
use Rattle.gate_log.proofs.Cells.{cell_size}
use Rattle.gate_log.proofs.appending.append_cell.Goals as goal

pub returns-clause-any_moment : goal.returns-clause-any_moment
returns-clause-any_moment g c = λ shape second bodies le capacity texts. c.write_cell.ensures.any_moment shape second bodies c.args.body.now texts le capacity c.fill-size.ensures.cell

pub returns-clause-ok : goal.returns-clause-ok
returns-clause-ok g c = λ shape second bodies le capacity texts.
    subst (λ (n : ℕ). OnOk c.write_cell.result (Each (g.D.Disk.images c.write_cell.new.disk) (λ f. IsText shape second (c.args.closed + n) f (bodies ++ c.args.body.now ∷ []))))
    (cell_size _ c.args.body.now c.fill-size.ensures.cell)
    (c.write_cell.ensures.ok shape second bodies c.args.body.now texts le capacity c.fill-size.ensures.cell)

pub returns-clause-long : goal.returns-clause-long
returns-clause-long g c = λ n long.
    subst (λ (m : ℕ). OnOk c.write_cell.result (IfSome (g.D.Disk.shown c.write_cell.new.disk) (λ now. max n (c.args.closed + 1 + m) ≡ length now)))
    (cell_size _ c.args.body.now c.fill-size.ensures.cell)
    (c.write_cell.ensures.long n long)

pub returns-clause-bytes : goal.returns-clause-bytes
returns-clause-bytes g c =
    subst (λ (l : List ℕ). OnOk c.write_cell.result (Leaves g.D.Disk c.args.disk.now c.write_cell.new.disk (written c.args.closed (165 ∷ l)))) c.fill-size.ensures.cell c.write_cell.ensures.bytes
