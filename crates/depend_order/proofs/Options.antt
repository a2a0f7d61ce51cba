-- Elements of a list by their place.
use Rattle.std.proofs.Common.{◌≡◌, ◌⊎◌, inl, inr, ℕ, zero, suc, List, [], ◌∷◌, ◌++◌, Option, Some, None, length, refl, sym, ap, subst}
use Rattle.std.proofs.lemmas.Option.{none-some, same_Some}
use Rattle.std.specs.Prelude.{IsSomeAnd, slice_get}

module _ {A : Type 0} where
  -- the value of an option that has one with a fact
  pub some_of : (o : Option A) (P : A → Type 0) → IsSomeAnd o P → (x : A) × (o ≡ Some x) × P x
  some_of None P h = absurd h
  some_of (Some x) P h = (x, refl, h)

  pub some_is : (o : Option A) (P : A → Type 0) (x : A) → o ≡ Some x → P x → IsSomeAnd o P
  some_is o P x e p = subst (λ (w : Option A). IsSomeAnd w P) (sym e) p

  pub get_push : (xs : List A) (y : A) (k : ℕ) (x : A) → slice_get (xs ++ y ∷ []) k ≡ Some x → (slice_get xs k ≡ Some x) ⊎ ((k ≡ length xs) × (y ≡ x))
  get_push [] y zero x e = inr (refl, same_Some y x e)
  get_push [] y (suc k) x e = absurd (none-some x e)
  get_push (z ∷ xs) y zero x e = inl e
  get_push (z ∷ xs) y (suc k) x e = elim (get_push xs y k x e) [
    | inl there ↦ inl there
    | inr here ↦ inr (ap suc here.0, here.1)
  ]

  pub get-push_left : (xs : List A) (y : A) (k : ℕ) (x : A) → slice_get xs k ≡ Some x → slice_get (xs ++ y ∷ []) k ≡ Some x
  get-push_left [] y k x e = absurd (none-some x e)
  get-push_left (z ∷ xs) y zero x e = e
  get-push_left (z ∷ xs) y (suc k) x e = get-push_left xs y k x e

  pub get-push_last : (xs : List A) (y : A) → slice_get (xs ++ y ∷ []) (length xs) ≡ Some y
  get-push_last [] y = refl
  get-push_last (z ∷ xs) y = get-push_last xs y
