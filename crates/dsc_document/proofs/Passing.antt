-- Lists whose elements are passed one after another.
use Rattle.std.proofs.Common.{◌≡◌, ◌≤◌, ◌-◌, List, [], ◌∷◌, ◌++◌, All, length, take, drop, get_or, sym, ap, subst, ◌∙◌, arith, take_all, append_assoc, append-nil}
use Rattle.std.proofs.lemmas.List.Elements.{All-push}

module _ {A : Type 0} where
  pub front_of : (xs : List A) (x : A) → 1 ≤ length xs → x ≡ get_or xs 0 x → xs ≡ x ∷ take (length xs - 1) (drop 1 xs)
  front_of [] x some is = absurd (omega arith)
  front_of (y ∷ ys) x some is =
      let all : take (length (y ∷ ys) - 1) ys ≡ ys = take_all (length (y ∷ ys) - 1) ys (omega arith) in
      cc

  module _ (P : A → Type 0) (whole : List A) where
    -- the fact holds of what was passed
    abbrev pub Passed : List A → Type 0
    Passed left = (front : List A) × (whole ≡ front ++ left) × All P front

    pub pass : (left rest : List A) (x : A) → left ≡ x ∷ rest → P x → Passed left → Passed rest
    pass left rest x is holds passed = (
      passed.0 ++ x ∷ [],
      passed.1 ∙ ap (λ l. passed.0 ++ l) is ∙ sym (append_assoc passed.0 (x ∷ []) rest),
      All-push P passed.0 x passed.2 holds,
    )

    none_left : (left : List A) → length left ≤ 0 → left ≡ []
    none_left [] empty = λ i. []
    none_left (x ∷ xs) empty = absurd (omega (arith, empty))

    pub all_passed : (left : List A) → length left ≤ 0 → Passed left → All P whole
    all_passed left empty passed =
        subst (All P) (sym (passed.1 ∙ ap (λ l. passed.0 ++ l) (none_left left empty) ∙ append-nil passed.0)) passed.2
