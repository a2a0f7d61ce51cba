use Rattle.std.proofs.Common.{◌≡◌, ◌++◌, ◌-◌, List, ℕ, length, take, drop, arith, sym, ap, ◌∙◌, append_assoc, length-drop, take-append-drop}
use Rattle.std.proofs.lemmas.List.{take_all}
use Rattle.std.proofs.KnownBytes.{Appends-trans}
use Rattle.dsc_outside.proofs.streams.write_all.Goals as goal

pub loop-rest-preserved : goal.loop-rest-preserved
loop-rest-preserved g c =
    let n = c.in_ok-count.count in
    let s = c.loop-rest.rest.now in
    let before = c.loop-rest.invariant.so_far in
    let rest : take (length s - n) (drop n s) ≡ drop n s = take_all _ _ (omega (arith, length-drop n s)) in
    rw rest (record {
      so_far = (
        before.0 ++ take n s,
        before.1 ∙ ap (λ (l : List ℕ). before.0 ++ l) (sym (take-append-drop n s)) ∙ sym (append_assoc before.0 (take n s) (drop n s)),
        Appends-trans _ _ _ before.0 (take n s) before.2 c.in_ok-count.ensures.bytes,
      );
      kept = c.in_ok-count.ensures.left ∙ c.loop-rest.invariant.kept;
      later = omega (arith, c.loop-rest.invariant.later, c.in_ok-count.ensures.cause.later);
    })
