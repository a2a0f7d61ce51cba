-- What bodies make of a count.
use Rattle.std.proofs.Common.{◌≡◌, ℕ, ◌+◌, ◌≤◌, List, [], ◌∷◌, ◌++◌, true, Option, Some, None, refl, sym, ◌∙◌, ap, subst, arith, append_assoc, length, length-append}
use Rattle.std.specs.Prelude.{nat_le}
use Rattle.std.proofs.lemmas.List.{append-nil}
use Rattle.std.proofs.lemmas.Option.{same_Some}
use Rattle.gate_log.specs.Text.{after_gate, cells}
use Rattle.gate_log.proofs.Cells.{length-after_gate}
use Rattle.gate_log.specs.Kept.{Counts, EndsBy, LeadFromFront, LeadToOne, LeadsAnew, Waits, WaitsAndCounts}
use Rattle.gate_log_tests.specs.Counting.{LeadsToCount, cells_of, count_after, count_of, whole_of}

-- nothing comes of none
none_on : (bodies : List (List ℕ)) → count_of None bodies ≡ None
none_on [] = refl
none_on (body ∷ bodies) = refl

pub count_both : (count : Option ℕ) (front rest : List (List ℕ)) → count_of count (front ++ rest) ≡ count_of (count_of count front) rest
count_both count [] rest = refl
count_both None (body ∷ front) rest = sym (none_on rest)
count_both (Some n) (body ∷ front) rest = count_both (count_after n body) front rest

pub lead_to_one : LeadToOne LeadsToCount
lead_to_one bodies one other first second = same_Some one other (sym first ∙ second)

some_front : (count : Option ℕ) (rest : List (List ℕ)) (n : ℕ) → count_of count rest ≡ Some n → (m : ℕ) × (count ≡ Some m)
some_front None rest n is = absurd (cc (is, none_on rest))
some_front (Some m) rest n is = (m, refl)

pub lead_from_front : LeadFromFront LeadsToCount
lead_from_front front rest n leads = some_front (count_of (Some 0) front) rest n (sym (count_both (Some 0) front rest) ∙ leads)

-- one body more
pub count_push : (bodies : List (List ℕ)) (body : List ℕ) (count : ℕ) → LeadsToCount bodies count → count_of (Some 0) (bodies ++ body ∷ []) ≡ count_after count body
count_push bodies body count leads = count_both (Some 0) bodies (body ∷ []) ∙ ap (λ (c : Option ℕ). count_of c (body ∷ [])) leads ∙ last (count_after count body)
  where
    last : (c : Option ℕ) → count_of c [] ≡ c
    last c = refl

pub took : (bodies : List (List ℕ)) (body : List ℕ) (count new : ℕ) → LeadsToCount bodies count → count_after count body ≡ Some new → LeadsToCount (bodies ++ body ∷ []) new
took bodies body count new leads is = count_push bodies body count leads ∙ is

pub ended : (bodies : List (List ℕ)) (body : List ℕ) (count : ℕ) → LeadsToCount bodies count → count_after count body ≡ None → EndsBy LeadsToCount bodies body
ended bodies body count leads none = record { lead = (count, leads); ends = λ new more. absurd (cc (more, count_push bodies body count leads, none)) }

-- ---- a number is added

pub named : (number : ℕ) (bodies : List (List ℕ)) (count : ℕ) → LeadsToCount bodies count → LeadsToCount (bodies ++ (0 ∷ number ∷ []) ∷ []) count
named number bodies count leads = took bodies (0 ∷ number ∷ []) count count leads refl

pub adds : (number count new : ℕ) → count + number ≡ new → new ≤ 255 → WaitsAndCounts LeadsToCount (cells_of number) count new
adds number count new sum most = (waits, counts)
  where
    at_most : nat_le (count + number) 255 ≡ true
    at_most = grind (arith, sum, most)

    counts : Counts LeadsToCount (cells_of number) count new
    counts bodies leads =
        subst (λ (l : List (List ℕ)). LeadsToCount l new) (append_assoc bodies ((0 ∷ number ∷ []) ∷ []) ((1 ∷ number ∷ []) ∷ []))
        (took (bodies ++ (0 ∷ number ∷ []) ∷ []) (1 ∷ number ∷ []) count new (named number bodies count leads) (rw at_most (ap (λ (n : ℕ). Some n) sum)))

    waits : Waits LeadsToCount (cells_of number) count
    waits bodies [] rest last is leads = subst (λ (l : List (List ℕ)). LeadsToCount l count) (sym (append-nil bodies)) leads
    waits bodies (first ∷ []) rest last is leads = named_first bodies first is leads
      where
        named_first : (bodies : List (List ℕ)) (first : List ℕ) → cells_of number ≡ first ∷ last ∷ rest → LeadsToCount bodies count → LeadsToCount (bodies ++ first ∷ []) count
        named_first bodies first is leads = subst (λ (body : List ℕ). LeadsToCount (bodies ++ body ∷ []) count) (cc is) (named number bodies count leads)
    waits bodies (first ∷ (second ∷ [])) rest last is leads = absurd (cc is)
    waits bodies (first ∷ (second ∷ (third ∷ front))) rest last is leads = absurd (cc is)

pub anew : (count old : ℕ) → LeadsAnew LeadsToCount (whole_of count) old count
anew count old = refl

-- ---- sizes

pub cells_long : (number : ℕ) → length (cells (cells_of number)) ≡ 14
cells_long number = omega (arith, length-append (after_gate (0 ∷ number ∷ [])) (cells ((1 ∷ number ∷ []) ∷ [])), length-append (after_gate (1 ∷ number ∷ [])) [], length-after_gate (0 ∷ number ∷ []), length-after_gate (1 ∷ number ∷ []))

pub whole_long : (count : ℕ) → length (cells (whole_of count)) ≡ 7
whole_long count = omega (arith, length-append (after_gate (2 ∷ count ∷ [])) [], length-after_gate (2 ∷ count ∷ []))
