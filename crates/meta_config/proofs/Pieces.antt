-- Lists that are cut where a test first fails.
use Rattle.std.proofs.Common.{◌≡◌, ℕ, ◌+◌, Bool, true, false, cond, ◌&&◌, List, [], ◌∷◌, ◌++◌, length, take, drop, suc, refl, sym, ap, ◌∙◌, arith}
use Rattle.std.specs.List.{list_all, prefix_len}
use Rattle.std.proofs.lemmas.Bool.{false≢true}

pub both : (a b : Bool) → (a && b) ≡ true → (a ≡ true) × (b ≡ true)
both true b h = (refl, h)
both false b h = absurd (false≢true h)

pub one_more : (n : ℕ) → 1 + n ≡ suc n
one_more n = omega arith

nothing_is_more : (c : ℕ) (cs : List ℕ) → [] ≡ c ∷ cs → ⊥
nothing_is_more c cs is = cc

pub prefix_all : (p : ℕ → Bool) (xs ys : List ℕ) → list_all p xs ≡ true → prefix_len p ys ≡ 0 → prefix_len p (xs ++ ys) ≡ length xs
prefix_all p [] ys all stops = stops
prefix_all p (x ∷ xs) ys all stops =
    let b = both (p x) (list_all p xs) all in
    ap (λ c. cond c (1 + prefix_len p (xs ++ ys)) 0) b.0
    ∙ ap (λ n. 1 + n) (prefix_all p xs ys b.1 stops)
    ∙ one_more (length xs)

pub all_front : (p : ℕ → Bool) (xs ys : List ℕ) → list_all p (xs ++ ys) ≡ true → list_all p xs ≡ true
all_front p [] ys all = refl
all_front p (x ∷ xs) ys all =
    let b = both (p x) (list_all p (xs ++ ys)) all in
    ap (λ c. c && list_all p xs) b.0 ∙ all_front p xs ys b.1

taken_at : (p : ℕ → Bool) (x : ℕ) (xs : List ℕ) (b : Bool) → p x ≡ b → list_all p (take (prefix_len p xs) xs) ≡ true
    → list_all p (take (cond b (1 + prefix_len p xs) 0) (x ∷ xs)) ≡ true
taken_at p x xs true e all =
    ap (λ n. list_all p (take n (x ∷ xs))) (one_more (prefix_len p xs))
    ∙ ap (λ c. c && list_all p (take (prefix_len p xs) xs)) e
    ∙ all
taken_at p x xs false e all = refl

-- what passes in front
pub all_taken : (p : ℕ → Bool) (xs : List ℕ) → list_all p (take (prefix_len p xs) xs) ≡ true
all_taken p [] = refl
all_taken p (x ∷ xs) = taken_at p x xs (p x) refl (all_taken p xs)

abbrev pub StopsAt : (ℕ → Bool) → List ℕ → Type 0
StopsAt p xs = (c : ℕ) (cs : List ℕ) → xs ≡ c ∷ cs → p c ≡ false

stops_at : (p : ℕ → Bool) (x : ℕ) (xs : List ℕ) (b : Bool) → p x ≡ b → StopsAt p (drop (prefix_len p xs) xs)
    → StopsAt p (drop (cond b (1 + prefix_len p xs) 0) (x ∷ xs))
stops_at p x xs true e more c cs is = more c cs (sym (ap (λ n. drop n (x ∷ xs)) (one_more (prefix_len p xs))) ∙ is)
stops_at p x xs false e more c cs is = let same : x ≡ c = cc in sym (ap p same) ∙ e

-- after it stands nothing, or what does not pass
pub stops_after : (p : ℕ → Bool) (xs : List ℕ) → StopsAt p (drop (prefix_len p xs) xs)
stops_after p [] c cs is = absurd (nothing_is_more c cs is)
stops_after p (x ∷ xs) c cs is = stops_at p x xs (p x) refl (stops_after p xs) c cs is
