use Rattle.std.proofs.Common.{◌≡◌, ◌+◌, ◌-◌, ◌≤◌, ◌∙◌, ℕ, List, length, take, replicate, arith, ap, sym, subst, IfSome}
use Rattle.std.proofs.lemmas.List.{length-take-le, take-replicate}
use Rattle.dsc_outside.proofs.Moments.{started, then_on}
use Rattle.gate_log.specs.Text.{IsText}
use Rattle.gate_log.proofs.Holds.{take_take}
use Rattle.gate_log.proofs.Written.{read_first, read_last, read_more}
use Rattle.gate_log.proofs.Rewrites.{filled_holds, filled_long, filled_text}
use Rattle.gate_log.proofs.rewriting.fill_up.Goals as goal

pub returns-in_err-write_on-clause-any_moment : goal.returns-in_err-write_on-clause-any_moment
returns-in_err-write_on-clause-any_moment g c = λ shape second closed bodies le texts.
    let l = c.loop-end in
    then_on g.D.Disk.moment g.D.Disk.left_since c.args.disk.now l.disk c.write_on.new.disk (λ f. IsText shape second closed f bodies) _
    (l.invariant.any_moment shape second closed bodies le texts) c.write_on.ensures.any_moment
    (λ f from. filled_text shape second closed l.end _ bodies (g.D.Disk.images l.disk) (omega (arith, le, l.invariant.past)) (l.invariant.ok shape second closed bodies le texts) f from)

-- a part of the zeros
front_zeros : (n capacity : ℕ) (row : List ℕ) → n ≤ capacity → take capacity row ≡ replicate capacity 0 → take n row ≡ replicate n 0
front_zeros n capacity row le are =
    sym (take_take n (capacity - n) capacity row (omega (arith, le))) ∙ ap (λ (l : List ℕ). take n l) are ∙ take-replicate n capacity 0 le

pub loop-end-init : goal.loop-end-init
loop-end-init g c =
    let disk = c.args.disk.now in
    record {
      size = c.zero_front-capacity.ensures.size;
      past = omega arith;
      upper = omega arith;
      end = c.requires.long;
      bytes = read_first c.args.long (g.D.Disk.shown disk) c.requires.long;
      holds = λ at bytes there. there;
      ok = λ shape second closed bodies le texts. texts;
      any_moment = λ shape second closed bodies le texts.
          started g.D.Disk.moment g.D.Disk.left_since disk (λ f. IsText shape second closed f bodies) (λ f left. texts f (g.met.D.Disk.only_now disk f left));
      count = omega arith;
    }

pub loop-end-preserved : goal.loop-end-preserved
loop-end-preserved g c =
    let l = c.loop-end in
    let written = c.in_ok-write_on.ensures.written in
    let row = c.zero_front-capacity.new.buffer in
    let zeros = front_zeros c.piece-size.result c.zero_front-capacity.result row c.piece-size.ensures.capacity c.zero_front-capacity.ensures.zeros in
    record {
      size = l.invariant.size;
      past = omega (arith, l.invariant.past);
      upper = omega (arith, l.invariant.upper, l.invariant.past, c.piece-size.ensures.rest, c.loop-end-test.true);
      end = subst (λ (n : ℕ). IfSome (g.D.Disk.shown c.write_on.new.disk) (λ held. l.end + n ≡ length held)) (length-take-le c.piece-size.result c.zero_front-capacity.new.buffer (omega (arith, c.piece-size.ensures.capacity, c.zero_front-capacity.ensures.capacity)))
          (filled_long l.end _ (g.D.Disk.shown l.disk) (g.D.Disk.shown c.write_on.new.disk) written l.invariant.end);
      bytes = read_more c.args.long l.end c.piece-size.result _ (g.D.Disk.shown c.args.disk.now) (g.D.Disk.shown l.disk) (g.D.Disk.shown c.write_on.new.disk) c.requires.long l.invariant.past zeros l.invariant.bytes written;
      holds = λ at bytes there. filled_holds at l.end bytes _ (g.D.Disk.shown l.disk) (g.D.Disk.shown c.write_on.new.disk) written l.invariant.end (l.invariant.holds at bytes there);
      ok = λ shape second closed bodies le texts f here.
          filled_text shape second closed l.end _ bodies (g.D.Disk.images l.disk) (omega (arith, le, l.invariant.past)) (l.invariant.ok shape second closed bodies le texts) f (c.write_on.ensures.crash f here);
      any_moment = λ shape second closed bodies le texts.
          then_on g.D.Disk.moment g.D.Disk.left_since c.args.disk.now l.disk c.write_on.new.disk (λ f. IsText shape second closed f bodies) _
          (l.invariant.any_moment shape second closed bodies le texts) c.write_on.ensures.any_moment
          (λ f from. filled_text shape second closed l.end _ bodies (g.D.Disk.images l.disk) (omega (arith, le, l.invariant.past)) (l.invariant.ok shape second closed bodies le texts) f from);
      count = omega (arith, l.invariant.count, c.write_on.ensures.cause.later);
    }

pub returns-clause-bytes : goal.returns-clause-bytes
returns-clause-bytes g c =
    let l = c.loop-end in
    read_last c.args.long c.args.to l.end (g.D.Disk.shown c.args.disk.now) (g.D.Disk.shown l.disk) c.requires.long (omega (arith, l.invariant.past, l.invariant.upper, c.loop-end-test.false)) l.invariant.bytes
