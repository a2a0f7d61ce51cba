-- What is below a path.
use Rattle.std.proofs.Common.{◌≡◌, ℕ, ◌<◌, ◌≤◌, get_or, List, [], ◌∷◌, ◌++◌, Bool, true, false, ◌==◌, ◌&&◌, ◌||◌, inl, inr, length, take, drop, refl, sym, ap, ◌∙◌, arith}
use Rattle.std.specs.Bool.{Decides}
use Rattle.std.specs.Str.{bytes_eq}
use Rattle.std.proofs.lemmas.Bool.{cases_Bool, and_parts, eqb-true, eq-eqb, false_from_ne_true, both_ways}
use Rattle.std.proofs.lemmas.Slice.Eq.{bytes_eq-Decides}
use Rattle.std.proofs.lemmas.List.{take-append-drop}
use Rattle.std.proofs.Math.Seq.{take-append_seam}
use Rattle.dsc_outside.specs.Paths.{IsBelow, is_below}

-- a rest that begins with `/`
abbrev pub begins_below : List ℕ → Bool
begins_below [] = false
begins_below (c ∷ cs) = c == 47

pub below_says : (path other : List ℕ) → is_below path other ≡ true → IsBelow path other
below_says path [] e = absurd (both_ways _ refl e)
below_says [] (c ∷ cs) e = (cs, ap (λ x. x ∷ cs) (eqb-true c 47 e))
below_says (p ∷ ps) (c ∷ cs) e =
    let parts = and_parts (p == c) (is_below ps cs) e in
    let rest = below_says ps cs parts.1 in
    (rest.0, ap (λ x. x ∷ cs) (sym (eqb-true p c parts.0)) ∙ ap (λ t. p ∷ t) rest.1)

pub below_after : (path rest : List ℕ) → is_below path (path ++ rest) ≡ begins_below rest
below_after [] [] = refl
below_after [] (c ∷ cs) = refl
below_after (p ∷ ps) rest = rw (eq-eqb p p refl, below_after ps rest) refl

pub below_found : (path other : List ℕ) → IsBelow path other → is_below path other ≡ true
below_found path other below = rw (below.1, below_after path (47 ∷ below.0)) refl

pub below-Decides : (path other : List ℕ) → Decides (is_below path other) (IsBelow path other)
below-Decides path other = (below_says path other, below_found path other)

pub below_longer : (path other : List ℕ) → is_below path other ≡ true → length path < length other
below_longer path [] e = absurd (both_ways _ refl e)
below_longer [] (c ∷ cs) e = omega arith
below_longer (p ∷ ps) (c ∷ cs) e = omega (arith, below_longer ps cs (and_parts (p == c) (is_below ps cs) e).1)

-- nothing is below itself, and of two paths at most one is below the other
pub not_below_itself : (path : List ℕ) → is_below path path ≡ false
not_below_itself path = false_from_ne_true _ (λ e. omega (arith, below_longer path path e))

pub not_below_both : (path other : List ℕ) → is_below path other ≡ true → is_below other path ≡ false
not_below_both path other e = false_from_ne_true _ (λ f. omega (arith, below_longer path other e, below_longer other path f))

-- the paths above a path that ends in one more byte
pub below_push : (other front : List ℕ) (c : ℕ) → is_below other (front ++ c ∷ []) ≡ (is_below other front || (c == 47 && bytes_eq other front))
below_push [] [] c = grind arith
below_push [] (f ∷ fs) c = grind arith
below_push (o ∷ os) [] c = grind arith
below_push (o ∷ os) (f ∷ fs) c = elim (cases_Bool (o == f)) [
  | inl same ↦ rw (same, below_push os fs c) refl
  | inr apart ↦ rw apart (grind arith)
]

-- what begins with the path is below it where the rest says so, and else it is not below it
pub below_rest : (path other rest : List ℕ) → bytes_eq (take (length path) other) path ≡ true → rest ≡ drop (length path) other → is_below path other ≡ begins_below rest
below_rest path other rest same is =
    let front = (bytes_eq-Decides (take (length path) other) path).0 same in
    let whole : other ≡ path ++ rest = sym (take-append-drop (length path) other) ∙ ap (λ t. t ++ drop (length path) other) front ∙ ap (λ t. path ++ t) (sym is) in
    rw (whole, below_after path rest) refl

pub not_after : (path other : List ℕ) → bytes_eq (take (length path) other) path ≡ false → is_below path other ≡ false
not_after path other e = false_from_ne_true _ (λ below. let says = below_says path other below in
    both_ways _ e ((bytes_eq-Decides (take (length path) other) path).1 (ap (λ t. take (length path) t) says.1 ∙ take-append_seam path (47 ∷ says.0))))

pub begins_first : (rest : List ℕ) → 1 ≤ length rest → begins_below rest ≡ (get_or rest 0 0 == 47)
begins_first [] e = absurd (omega (arith, e))
begins_first (c ∷ cs) e = refl

pub begins_none : (rest : List ℕ) → length rest < 1 → begins_below rest ≡ false
begins_none [] e = refl
begins_none (c ∷ cs) e = absurd (omega (arith, e))
