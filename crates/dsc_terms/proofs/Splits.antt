-- Where the splits of a list lie.
use Rattle.std.proofs.Common.{◌≡◌, ◌⊎◌, inl, inr, ℕ, ◌+◌, ◌<◌, List, [], ◌∷◌, ◌++◌, length, take, drop, get_or, refl, sym, ◌∙◌, ap, subst, arith, length-append}
use Rattle.std.specs.Prelude.{Contains}
use Rattle.std.proofs.lemmas.List.{take-append-drop, drop_more}
use Rattle.std.proofs.lemmas.List.Elements.{Contains-append_right}
use Rattle.dsc_terms.specs.Lists.{Precedes, IsOnce}

-- where a split of a list with one more at its end lies
pub split_push : {A : Type 0} (t : List A) (e : A) (before : List A) (x : A) (after : List A) → t ++ e ∷ [] ≡ before ++ x ∷ after
    → ((t ≡ before) × (e ≡ x)) ⊎ ((rest : List A) × (t ≡ before ++ x ∷ rest))
split_push [] e [] x after p = inl (refl, cc)
split_push [] e (b ∷ bs) x after p = absurd (omega (arith, ap length p, length-append bs (x ∷ after)))
split_push (a ∷ t) e [] x after p =
    let h : a ≡ x = cc in
    inr (t, ap (λ y. y ∷ t) h)
split_push {A} (a ∷ t) e (b ∷ bs) x after p =
    let h : a ≡ b = cc in
    let q : t ++ e ∷ [] ≡ bs ++ x ∷ after = cc in
    elim (split_push t e bs x after q) [
      | inl same ↦ inl (λ i. h i ∷ same.0 i, same.1)
      | inr more ↦ inr (more.0, λ i. h i ∷ more.1 i)
    ]

-- where a split of two lists together lies
pub split_append : {A : Type 0} (t u before : List A) (x : A) (after : List A) → t ++ u ≡ before ++ x ∷ after
    → ((rest : List A) × (t ≡ before ++ x ∷ rest) × (after ≡ rest ++ u)) ⊎ ((front : List A) × (before ≡ t ++ front) × (u ≡ front ++ x ∷ after))
split_append [] u before x after p = inr (before, refl, p)
split_append (a ∷ t) u [] x after p =
    let h : a ≡ x = cc in
    let q : after ≡ t ++ u = cc in
    inl (t, ap (λ y. y ∷ t) h, q)
split_append (a ∷ t) u (b ∷ bs) x after p =
    let h : a ≡ b = cc in
    let q : t ++ u ≡ bs ++ x ∷ after = cc in
    elim (split_append t u bs x after q) [
      | inl here ↦ inl (here.0, λ i. h i ∷ here.1 i, here.2)
      | inr there ↦ inr (there.0, λ i. (sym h) i ∷ there.1 i, there.2)
    ]

-- the split of a list at a place
pub split_at : {A : Type 0} (xs : List A) (i : ℕ) (d : A) → i < length xs → xs ≡ take i xs ++ get_or xs i d ∷ drop (i + 1) xs
split_at {A} xs i d lt = sym (take-append-drop i xs) ∙ ap (λ (l : List A). take i xs ++ l) (drop_more xs i d lt)

-- an element of a list has a split
pub split_of : (xs : List ℕ) (x : ℕ) → Contains xs x → (front : List ℕ) × (rest : List ℕ) × (xs ≡ front ++ x ∷ rest)
split_of xs x has = (take has.0 xs, drop (has.0 + 1) xs, split_at xs has.0 x has.1 ∙ ap (λ (y : ℕ). take has.0 xs ++ y ∷ drop (has.0 + 1) xs) has.2)

pub contains_cons : (x : ℕ) (xs : List ℕ) (y : ℕ) → Contains xs y → Contains (x ∷ xs) y
contains_cons x xs y has = Contains-append_right (x ∷ []) xs y has

pub contains_front : (x : ℕ) (front rest : List ℕ) → Contains (front ++ x ∷ rest) x
contains_front x front rest = Contains-append_right front (x ∷ rest) x (0, omega arith, refl)

pub once_tail : (x : ℕ) (xs : List ℕ) → IsOnce (x ∷ xs) → IsOnce xs
once_tail x xs once a r b e has = once (x ∷ a) r b (ap (λ (l : List ℕ). x ∷ l) e) (contains_cons x a r has)

-- in a list of which nothing stands twice an element has one split
pub split_once : (x : ℕ) (a b c d : List ℕ) → IsOnce (a ++ x ∷ b) → a ++ x ∷ b ≡ c ++ x ∷ d → a ≡ c
split_once x [] b [] d once e = refl
split_once x [] b (y ∷ c) d once e =
    let h : x ≡ y = cc in
    absurd (once (y ∷ c) x d e (0, omega arith, sym h))
split_once x (y ∷ a) b [] d once e =
    let h : y ≡ x = cc in
    absurd (once (y ∷ a) x b refl (0, omega arith, h))
split_once x (y ∷ a) b (z ∷ c) d once e =
    let h : y ≡ z = cc in
    let q : a ++ x ∷ b ≡ c ++ x ∷ d = cc in
    let p = split_once x a b c d (once_tail y (a ++ x ∷ b) once) q in
    λ i. h i ∷ p i

-- what stands before a place of a list
pub precedes : (order : List ℕ) (i : ℕ) (q : ℕ) → i < length order → Contains (take i order) q → Precedes order q (get_or order i 0)
precedes order i q lt has =
    let part = split_of (take i order) q has in
    (part.0, part.1, drop (i + 1) order, split_at order i 0 lt ∙ ap (λ (l : List ℕ). l ++ get_or order i 0 ∷ drop (i + 1) order) part.2)

-- what precedes the element at a place stands among those before it
pub precedes_front : (order : List ℕ) (i : ℕ) (q : ℕ) → i < length order → IsOnce order → Precedes order q (get_or order i 0) → Contains (take i order) q
precedes_front order i q lt once p =
    let r = get_or order i 0 in
    let at = split_at order i 0 lt in
    let front = split_once r (take i order) (drop (i + 1) order) (p.0 ++ q ∷ p.1) p.2 (subst IsOnce at once) (sym at ∙ p.3) in
    subst (λ (l : List ℕ). Contains l q) (sym front) (contains_front q p.0 p.1)
