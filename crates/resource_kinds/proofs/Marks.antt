-- Marks along a trace: a list that keeps of each resource what its last entry says.
use Rattle.std.proofs.Common.{◌≡◌, inl, inr, ◌<◌, ◌+◌, ◌-◌, ℕ, zero, suc, Bool, false, List, [], ◌∷◌, ◌++◌, Option, Some, None, if◌then◌else◌, cond, length, map, get_or, set, replicate, refl, sym, ◌∙◌, ap, subst, arith, length-set, get_or-set_same, get_or-set_other}
use Rattle.std.specs.Prelude.{count_by, find, reverse}
use Rattle.std.proofs.Math.Dec.{eqb}
use Rattle.std.proofs.lemmas.Bool.{cases_lt, eq-eqb}
use Rattle.std.proofs.lemmas.Bool.Decides.{eqb_tells}
use Rattle.std.proofs.lemmas.List.{same_lists, length-map, get_or-map, get_or-append_right, get_or_append_left, reverse-append, length-replicate, get_or-replicate}
use Rattle.std.proofs.lemmas.List.Sums.{sum_by-cons}
use Rattle.dsc_terms.specs.Lists.{places_below}
use Rattle.dsc_terms.proofs.Places.{length-places_below}
use Rattle.resource_kinds.specs.declared.entry.Entry.{Entry}
use Rattle.resource_kinds.specs.Trace.{last_entry, place_of}

-- ---- places

pub get_or-places : (n k d : ℕ) → k < n → get_or (places_below n) k d ≡ k
get_or-places zero k d below = absurd (omega (arith, below))
get_or-places (suc n) k d below = elim (cases_lt k n) [
  | inl lt ↦ get_or_append_left (places_below n) (n ∷ []) d k (omega (arith, lt, length-places_below n)) ∙ get_or-places n k d lt
  | inr ge ↦
      let last : k ≡ n = omega (arith, ge, below) in
      let first : k - n ≡ 0 = omega (arith, last) in
      get_or-append_right (places_below n) (n ∷ []) n k d (length-places_below n) ge
      ∙ ap (λ (i : ℕ). get_or (n ∷ []) i d) first ∙ sym last
]

-- ---- one more entry

module _ (t : List Entry) (e : Entry) where
  last_first : reverse (t ++ e ∷ []) ≡ e ∷ reverse t
  last_first = reverse-append t (e ∷ [])

  by_entry : (r : ℕ) → last_entry (t ++ e ∷ []) r ≡ find (λ x. eqb (place_of x) r) (e ∷ reverse t)
  by_entry r = ap (λ (l : List Entry). find (λ x. eqb (place_of x) r) l) last_first

  pub last_here : (r : ℕ) → place_of e ≡ r → last_entry (t ++ e ∷ []) r ≡ Some e
  last_here r here =
      by_entry r ∙ ap (λ (b : Bool). if b then Some e else find (λ x. eqb (place_of x) r) (reverse t)) (eq-eqb (place_of e) r here)

  pub last_elsewhere : (r : ℕ) → eqb (place_of e) r ≡ false → last_entry (t ++ e ∷ []) r ≡ last_entry t r
  last_elsewhere r apart =
      by_entry r ∙ ap (λ (b : Bool). if b then Some e else find (λ x. eqb (place_of x) r) (reverse t)) apart

-- ---- what the last entries say

module _ {A : Type 0} (f : Option Entry → A) where
  abbrev pub marks_by : List Entry → ℕ → List A
  marks_by t n = map (λ r. f (last_entry t r)) (places_below n)

  pub length-marks : (t : List Entry) (n : ℕ) → length (marks_by t n) ≡ n
  length-marks t n = length-map (places_below n) (λ r. f (last_entry t r)) ∙ length-places_below n

  pub get_or-marks : (t : List Entry) (n k : ℕ) (d : A) → k < n → get_or (marks_by t n) k d ≡ f (last_entry t k)
  get_or-marks t n k d below =
      get_or-map (λ r. f (last_entry t r)) (places_below n) k 0 d (omega (arith, below, length-places_below n))
      ∙ ap (λ (r : ℕ). f (last_entry t r)) (get_or-places n k 0 below)

  pub marks_none : (n : ℕ) → replicate n (f None) ≡ marks_by [] n
  marks_none n =
      same_lists (replicate n (f None)) (marks_by [] n) (length-replicate n (f None) ∙ sym (length-marks [] n))
      (λ k d below.
      let lt : k < n = omega (arith, below, length-replicate n (f None)) in
      get_or-replicate n k (f None) d lt ∙ sym (get_or-marks [] n k d lt))

  pub marks_push : (t : List Entry) (e : Entry) (n : ℕ) → place_of e < n → set (marks_by t n) (place_of e) (f (Some e)) ≡ marks_by (t ++ e ∷ []) n
  marks_push t e n within =
      same_lists (set (marks_by t n) (place_of e) (f (Some e))) (marks_by (t ++ e ∷ []) n)
      (length-set (marks_by t n) (place_of e) (f (Some e)) ∙ length-marks t n ∙ sym (length-marks (t ++ e ∷ []) n))
      (λ k d below.
      let lt : k < n = omega (arith, below, length-set (marks_by t n) (place_of e) (f (Some e)), length-marks t n) in
      elim (eqb_tells (place_of e) k) [
        | inl same ↦
            subst (λ (j : ℕ). get_or (set (marks_by t n) (place_of e) (f (Some e))) j d ≡ f (Some e)) same.1
            (get_or-set_same (marks_by t n) (place_of e) (f (Some e)) d (omega (arith, within, length-marks t n)))
            ∙ ap f (sym (last_here t e k same.1)) ∙ sym (get_or-marks (t ++ e ∷ []) n k d lt)
        | inr apart ↦
            get_or-set_other (marks_by t n) (place_of e) k (f (Some e)) d (λ back. apart.1 (sym back))
            ∙ get_or-marks t n k d lt ∙ ap f (sym (last_elsewhere t e k apart.0)) ∙ sym (get_or-marks (t ++ e ∷ []) n k d lt)
      ])

-- ---- counting

pub count_mapped : {A B : Type 0} (p : B → Bool) (f : A → B) (xs : List A) → count_by p (map f xs) ≡ count_by (λ x. p (f x)) xs
count_mapped p f [] = refl
count_mapped {A} {B} p f (x ∷ xs) =
    sum_by-cons (λ (y : B). cond (p y) 1 0) (f x) (map f xs)
    ∙ ap (λ (n : ℕ). cond (p (f x)) 1 0 + n) (count_mapped p f xs) ∙ sym (sum_by-cons (λ (y : A). cond (p (f y)) 1 0) x xs)
