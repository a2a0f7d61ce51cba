-- The bytes are compared piece by piece.
use Rattle.std.proofs.Common.{◌++◌, take, ap, arith}
use Rattle.std.proofs.KnownBytes.{Consumes-trans}
use Rattle.real_outside.proofs.Compared.{same_at_end, differs, moved}
use Rattle.real_outside.proofs.comparing.compare.Goals as goal

pub returns-then-count-eq0 : goal.returns-then-count-eq0
returns-then-count-eq0 g c =
    let so_far = c.loop.invariant in
    let read = c.in_ok-count.ensures.bytes in
    same_at_end _ _ _ so_far.0 _ _ _ _ so_far.2 read.0 (read.1 c.if-count-eq0.true (omega (arith, so_far.3, c.read_some.auto.into))) (ap (λ n. take n c.read_some.new.into) c.if-count-eq0.true) so_far.1 c.is_empty.ensures

pub returns-in-None : goal.returns-in-None
returns-in-None g c =
    let so_far = c.loop.invariant in
    differs _ _ _ so_far.0 _ _ _ so_far.2 c.in_ok-count.ensures.bytes.0 so_far.1 c.in-None.ensures.cases

pub loop-preserved : goal.loop-preserved
loop-preserved g c =
    let so_far = c.loop.invariant in
    let read = c.in_ok-count.ensures.bytes in (
      so_far.0 ++ take c.in_ok-count.count c.read_some.new.into,
      moved so_far.0 _ _ _ _ so_far.1 c.in-Some.ensures.cases.0 c.in-Some.ensures.cases.1,
      Consumes-trans _ _ _ so_far.0 _ so_far.2 read.0,
      omega (arith, c.in_ok-count.ensures.bound, c.if-count-eq0.false),
    )
