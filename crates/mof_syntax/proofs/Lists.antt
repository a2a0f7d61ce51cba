-- Facts on lists.
use Rattle.std.proofs.Common.{◌≡◌, List, ◌∷◌}

pub tail_same : {A : Type 0} (x y : A) (xs ys : List A) → x ∷ xs ≡ y ∷ ys → xs ≡ ys
tail_same x y xs ys e = cc
