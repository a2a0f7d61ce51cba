-- What is kept, made and taken of a list that grows by one.
use Rattle.std.proofs.Common.{◌≡◌, inl, inr, ◌≤◌, ℕ, Bool, true, false, List, [], ◌∷◌, ◌++◌, Option, Some, None, cond, filter, filter_map, length, take, sym, ◌∙◌, ap, arith}
use Rattle.std.specs.List.{cons_option}
use Rattle.std.proofs.lemmas.Bool.{cases_lt}
use Rattle.std.proofs.lemmas.List.{append-nil, length-take, take_all, take-append-le, take-take}
use Rattle.std.proofs.lemmas.List.Elements.{filter-append, filter_map-append}

pub filter_none : {A : Type 0} (p : A → Bool) (xs : List A) (x : A) → p x ≡ false → filter p (xs ++ x ∷ []) ≡ filter p xs
filter_none {A} p xs x e = filter-append p xs (x ∷ []) ∙ ap (λ (b : Bool). filter p xs ++ cond b (x ∷ []) []) e ∙ append-nil (filter p xs)

pub filter_one : {A : Type 0} (p : A → Bool) (xs : List A) (x : A) → p x ≡ true → filter p (xs ++ x ∷ []) ≡ filter p xs ++ x ∷ []
filter_one {A} p xs x e = filter-append p xs (x ∷ []) ∙ ap (λ (b : Bool). filter p xs ++ cond b (x ∷ []) []) e

pub made_none : {A B : Type 0} (f : A → Option B) (xs : List A) (x : A) → f x ≡ None → filter_map f (xs ++ x ∷ []) ≡ filter_map f xs
made_none {A} {B} f xs x e = filter_map-append f xs (x ∷ []) ∙ ap (λ (o : Option B). filter_map f xs ++ cons_option o []) e ∙ append-nil (filter_map f xs)

pub made_one : {A B : Type 0} (f : A → Option B) (xs : List A) (x : A) (y : B) → f x ≡ Some y → filter_map f (xs ++ x ∷ []) ≡ filter_map f xs ++ y ∷ []
made_one {A} {B} f xs x y e = filter_map-append f xs (x ∷ []) ∙ ap (λ (o : Option B). filter_map f xs ++ cons_option o []) e

-- the first n of a list whose first n grew
pub take_grown : {A : Type 0} (n : ℕ) (xs : List A) (x : A) → take n (take n xs ++ x ∷ []) ≡ take n (xs ++ x ∷ [])
take_grown {A} n xs x = elim (cases_lt (length xs) n) [
  | inl lt ↦ ap (λ (l : List A). take n (l ++ x ∷ [])) (take_all n xs (omega (arith, lt)))
  | inr ge ↦
      take-append-le n (take n xs) (x ∷ []) (omega (arith, ge, length-take n xs)) ∙ take-take n n xs (omega arith)
      ∙ sym (take-append-le n xs (x ∷ []) ge)
]

pub length-first : {A : Type 0} (n : ℕ) (xs : List A) → length (take n xs) ≤ n
length-first n xs = omega (arith, length-take n xs)
