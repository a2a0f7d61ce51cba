use Rattle.std.proofs.Common.{◌≡◌, ◌≤◌, arith, nat_eq, length, length-drop, length-take}
use Rattle.std.specs.Bool.{Decides}
use Rattle.std.proofs.lemmas.Bool.Decides.{same_from_decides}
use Rattle.std.proofs.lemmas.Slice.Eq.{bytes_eq-Decides}
use Rattle.std.proofs.lemmas.Bool.{ltb-false}
use Rattle.std.proofs.lemmas.Grind.{common_steps}
use Rattle.shared_key.proofs.Differences.{compared_first}
use Rattle.shared_key.proofs.signature.is_equal.Goals as goal

pub loop-left-preserved : goal.loop-left-preserved
loop-left-preserved c =
    let some : 1 ≤ length c.loop-left.left.now = omega (arith, ltb-false) in
    let other : 1 ≤ length c.loop-left.right.now = omega (arith, ltb-false) in
    let first = compared_first c.loop-left.difference c.loop-left.left.now c.loop-left.right.now some other in
    let before = c.loop-left.invariant.equal_so_far in record {
      same_length = simp (length-take, length-drop) (omega arith);
      equal_so_far = (λ h. first.0 (before.0 h), λ h. before.1 (first.1 h));
    }

pub returns : goal.returns
returns c =
    let equal : Decides (nat_eq c.loop-left.difference 0) (c.args.signature.now ≡ c.args.given.now) = grind (arith, common_steps) in
    same_from_decides _ _ equal (bytes_eq-Decides _ _)
