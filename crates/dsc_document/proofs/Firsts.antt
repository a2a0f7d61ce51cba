-- The first element of a list of which a fact does not hold.
use Rattle.std.proofs.Common.{◌≡◌, List, [], ◌∷◌, ◌++◌, All, subst, arith}
use Rattle.std.proofs.lemmas.List.Elements.{All-tail}

module _ {A : Type 0} (P : A → Type 0) where
  -- what holds of each element of a list holds of one at a split
  pub at_split : (list front rest : List A) (x : A) → list ≡ front ++ x ∷ rest → All P list → P x
  at_split list front rest x split each = go front (subst (All P) split each)
    where
      go : (front : List A) → All P (front ++ x ∷ rest) → P x
      go [] all = all 0 x (omega arith)
      go (y ∷ ys) all = go ys (All-tail P y (ys ++ x ∷ rest) all)

  -- the first element of which a fact does not hold is one
  pub first_once : (a b c d : List A) (x y : A) → a ++ x ∷ b ≡ c ++ y ∷ d → All P a → All P c → (P x → ⊥) → (P y → ⊥) → x ≡ y
  first_once [] b [] d x y same on_a on_c not_x not_y = cc
  first_once [] b (z ∷ c) d x y same on_a on_c not_x not_y =
      let here : z ≡ x = cc in
      absurd (not_x (subst P here (on_c 0 z (omega arith))))
  first_once (z ∷ a) b [] d x y same on_a on_c not_x not_y =
      let here : z ≡ y = cc in
      absurd (not_y (subst P here (on_a 0 z (omega arith))))
  first_once (z ∷ a) b (w ∷ c) d x y same on_a on_c not_x not_y =
      let after : a ++ x ∷ b ≡ c ++ y ∷ d = cc in
      first_once a b c d x y after (All-tail P z a on_a) (All-tail P w c on_c) not_x not_y
