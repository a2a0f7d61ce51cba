-- Searches in lists that find nothing.
use Rattle.std.proofs.Common.{◌≡◌, ℕ, ◌+◌, Bool, true, false, cond, ◌&&◌, ◌||◌, List, [], ◌∷◌, ◌++◌, Option, Some, None, map, filter, find, option_map, refl, ap, subst, ◌∙◌}
use Rattle.std.specs.Option.{option_or}
use Rattle.std.proofs.lemmas.Option.{none-some, same_Some}
use Rattle.std.specs.List.{AllByRecursion, list_any, list_all, position_from}
use Rattle.meta_config.specs.Refusals.{beside, first_found}

pub cond_none : {A : Type 0} (b : Bool) (a : A) (o : Option A) → cond b (Some a) o ≡ None → (b ≡ false) × (o ≡ None)
cond_none true a o e = cc
cond_none false a o e = (refl, e)

pub each_map : {X Y : Type 0} (P : X → Type 0) (f : Y → X) (ys : List Y) → AllByRecursion (λ y. P (f y)) ys → AllByRecursion P (map f ys)
each_map P f [] all = tt
each_map P f (y ∷ ys) all = (all.0, each_map P f ys all.1)

pub of_map : {X Y : Type 0} (P : X → Type 0) (f : Y → X) (ys : List Y) → AllByRecursion P (map f ys) → AllByRecursion (λ y. P (f y)) ys
of_map P f [] all = tt
of_map P f (y ∷ ys) all = (all.0, of_map P f ys all.1)

module _ {X : Type 0} where
  pub each_join : (P : X → Type 0) (xs ys : List X) → AllByRecursion P xs → AllByRecursion P ys → AllByRecursion P (xs ++ ys)
  each_join P [] ys a b = b
  each_join P (x ∷ xs) ys a b = (a.0, each_join P xs ys a.1 b)

  pub each_of : (P : X → Type 0) → ((x : X) → P x) → (xs : List X) → AllByRecursion P xs
  each_of P f [] = tt
  each_of P f (x ∷ xs) = (f x, each_of P f xs)

  pub each_weaker : (P Q : X → Type 0) → ((x : X) → P x → Q x) → (xs : List X) → AllByRecursion P xs → AllByRecursion Q xs
  each_weaker P Q f [] all = tt
  each_weaker P Q f (x ∷ xs) all = (f x all.0, each_weaker P Q f xs all.1)

  pub each_both : (P Q : X → Type 0) (xs : List X) → AllByRecursion P xs → AllByRecursion Q xs → AllByRecursion (λ x. P x × Q x) xs
  each_both P Q [] a b = tt
  each_both P Q (x ∷ xs) a b = ((a.0, b.0), each_both P Q xs a.1 b.1)

  pub no_position : (t : X → Bool) (n : ℕ) (xs : List X) → AllByRecursion (λ x. t x ≡ false) xs → position_from t n xs ≡ None
  no_position t n [] all = refl
  no_position t n (x ∷ xs) all = ap (λ b. cond b (Some n) (position_from t (n + 1) xs)) all.0 ∙ no_position t (n + 1) xs all.1

  pub position_none : (t : X → Bool) (n : ℕ) (xs : List X) → position_from t n xs ≡ None → AllByRecursion (λ x. t x ≡ false) xs
  position_none t n [] e = tt
  position_none t n (x ∷ xs) e =
      let c = cond_none (t x) n (position_from t (n + 1) xs) e in
      (c.0, position_none t (n + 1) xs c.1)

  pub no_any : (t : X → Bool) (xs : List X) → AllByRecursion (λ x. t x ≡ false) xs → list_any t xs ≡ false
  no_any t [] all = refl
  no_any t (x ∷ xs) all = ap (λ b. b || list_any t xs) all.0 ∙ no_any t xs all.1

  pub no_find : (t : X → Bool) (xs : List X) → AllByRecursion (λ x. t x ≡ false) xs → find t xs ≡ None
  no_find t [] all = refl
  no_find t (x ∷ xs) all = ap (λ b. cond b (Some x) (find t xs)) all.0 ∙ no_find t xs all.1

  pub find_none : (t : X → Bool) (xs : List X) → find t xs ≡ None → AllByRecursion (λ x. t x ≡ false) xs
  find_none t [] e = tt
  find_none t (x ∷ xs) e = let c = cond_none (t x) x (find t xs) e in (c.0, find_none t xs c.1)

  pub all_filter : (t : X → Bool) (xs : List X) → AllByRecursion (λ x. t x ≡ true) xs → filter t xs ≡ xs
  all_filter t [] all = refl
  all_filter t (x ∷ xs) all = ap (λ b. cond b (x ∷ filter t xs) (filter t xs)) all.0 ∙ ap (λ l. x ∷ l) (all_filter t xs all.1)

  pub test_at : (t : X → Bool) (x : X) (xs : List X) (b : Bool) → t x ≡ b → (b && list_all t xs) ≡ true → (t x ≡ true) × (list_all t xs ≡ true)
  test_at t x xs true is h = (is, h)
  test_at t x xs false is h = cc

  pub all_tests : (t : X → Bool) (xs : List X) → list_all t xs ≡ true → AllByRecursion (λ x. t x ≡ true) xs
  all_tests t [] e = tt
  all_tests t (x ∷ xs) e = let a = test_at t x xs (t x) refl e in (a.0, all_tests t xs a.1)

  pub tests_all : (t : X → Bool) (xs : List X) → AllByRecursion (λ x. t x ≡ true) xs → list_all t xs ≡ true
  tests_all t [] all = refl
  tests_all t (x ∷ xs) all = ap (λ b. b && list_all t xs) all.0 ∙ tests_all t xs all.1

  found_at : (t : X → Bool) (P : X → Type 0) (y : X) (ys : List X) (x : X) (b : Bool) → t y ≡ b → P y → (find t ys ≡ Some x → P x × (t x ≡ true))
      → cond b (Some y) (find t ys) ≡ Some x → P x × (t x ≡ true)
  found_at t P y ys x true is p more h =
      let same : y ≡ x = same_Some y x h in
      (subst P same p, subst (λ z. t z ≡ true) same is)
  found_at t P y ys x false is p more h = more h

  -- what is found passes the test, and has what each element has
  pub found_has : (t : X → Bool) (P : X → Type 0) (xs : List X) (x : X) → AllByRecursion P xs → find t xs ≡ Some x → P x × (t x ≡ true)
  found_has t P [] x all e = absurd (none-some x e)
  found_has t P (y ∷ ys) x all e = found_at t P y ys x (t y) refl all.0 (λ h. found_has t P ys x all.1 h) e

pub or_none : {A : Type 0} (a b : Option A) → option_or a b ≡ None → (a ≡ None) × (b ≡ None)
or_none None b e = (refl, e)
or_none (Some x) b e = cc

pub map_none : {A B : Type 0} (f : A → B) (o : Option A) → option_map f o ≡ None → o ≡ None
map_none f None e = refl
map_none f (Some x) e = cc

module _ {X Y : Type 0} where
  pub nothing_found : (f : X → Option Y) (n : ℕ) (xs : List X) → AllByRecursion (λ x. f x ≡ None) xs → first_found f n xs ≡ None
  nothing_found f n [] all = refl
  nothing_found f n (x ∷ xs) all = ap (λ o. option_or (option_map (beside n) o) (first_found f (n + 1) xs)) all.0 ∙ nothing_found f (n + 1) xs all.1

  pub found_none : (f : X → Option Y) (n : ℕ) (xs : List X) → first_found f n xs ≡ None → AllByRecursion (λ x. f x ≡ None) xs
  found_none f n [] e = tt
  found_none f n (x ∷ xs) e =
      let o = or_none (option_map (beside n) (f x)) (first_found f (n + 1) xs) e in
      (map_none (beside n) (f x) o.0, found_none f (n + 1) xs o.1)
