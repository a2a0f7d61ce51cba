use Rattle.std.proofs.Common.{◌≡◌, ◌∙◌, ◌++◌, ◌∷◌, [], ℕ, List, length, sym, subst, arith, length-append, Ok}
use Rattle.std.proofs.lemmas.Result.{err_from_is_err_and}
use Rattle.store_fields.specs.Fields.{bytes_of_list, IsList}
use Rattle.store_fields.specs.Reading.{Reads}
use Rattle.store_fields.proofs.Listed.{ReadSoFar, no_count, goes_on, fails, ends}
use Rattle.store_fields.proofs.lists.read_list.Goals as goal

pub returns-in_err-count : goal.returns-in_err-count
returns-in_err-count g c =
    let p = err_from_is_err_and c.from_residual.result c.from_residual.ensures.1 in
    rw (p.1, p.2) (no_count g.F.FieldForm.bytes_of g.F.FieldForm.is_in_range _ _ _ c.in_err-count.field-0.0 c.in_err-count.ensures.reads)

pub returns-in_err-read : goal.returns-in_err-read
returns-in_err-read g c =
    let p = err_from_is_err_and c.from_residual-in_err-read.result c.from_residual-in_err-read.ensures.1 in
    let so_far = c.loop.invariant in
    rw (p.1, p.2) (fails g.F.FieldForm.bytes_of g.F.FieldForm.is_in_range c.in_ok-count.count _ _ _ _ _ _ c.in_err-read.field-0.0 c.in_ok-count.ensures.reads (omega (arith, so_far.0, c.loop-test.true)) so_far.1 c.in_err-read.ensures)

pub loop-preserved : goal.loop-preserved
loop-preserved g c =
    let so_far = c.loop.invariant in
    let items = c.in_ok-push.ensures.items in
    let more = goes_on g.F.FieldForm.bytes_of g.F.FieldForm.is_in_range c.in_ok-count.count _ _ _ _ c.in_ok-read.field-0 (omega (arith, so_far.0, c.loop-test.true)) so_far.1 c.in_ok-read.ensures in
    (rw items (omega (arith, so_far.0, length-append c.loop.items.items (c.in_ok-read.field-0 ∷ []))), rw items more)

pub returns : goal.returns
returns g c =
    let so_far = c.loop.invariant in
    rw c.of.ensures (ends g.F.FieldForm.bytes_of g.F.FieldForm.is_in_range c.in_ok-count.count _ _ _ _ c.in_ok-count.ensures.reads (omega (arith, so_far.0, c.loop-test.false, c.loop.auto.counter-end)) so_far.1)
