-- Integers at the front of characters, cut off there, and out of their range.
use Rattle.std.proofs.Common.{◌≡◌, ◌⊎◌, inl, inr, ℕ, Bool, true, false, List, [], ◌∷◌, ◌++◌, Some, None, refl, sym, ap, subst, ◌∙◌, arith}
use Rattle.std.specs.Prelude.{ℤ, pos, negsuc}
use Rattle.std.proofs.lemmas.Bool.{cases_lt}
use Rattle.std.proofs.lemmas.Int.{ints}
use Rattle.mof_values.specs.Ident.{is_next}
use Rattle.mof_syntax.specs.Characters.{digit_of, Stops, Run, stop, more}
use Rattle.mof_syntax.specs.Integers.{Magnitude, decimal_value, octal_value, hex_value, binary_value, IntegerValue, unsigned, plus, minus}
use Rattle.mof_syntax.specs.Limits.{IsInRange, IsOutOfRange}
use Rattle.mof_syntax.specs.Scanning.{magnitude_rest, magnitude_value}
use Rattle.mof_syntax.specs.Tokens.{Number, IsToken, integer}
use Rattle.mof_syntax.proofs.Scans.{read-magnitude, magnitude-read}
use Rattle.mof_syntax.proofs.UniqueTokens.{magnitude_is}
use Rattle.mof_codec.specs.Values.{IsCapped, signed, is_negative, sign_rest}
use Rattle.mof_codec.specs.Searching.{BeginsExcessInteger}
use Rattle.mof_codec.proofs.IntegersRead.{number_signed, signed_number, same_within, outside}

-- a run, cut off and longer

run_cut : (p : ℕ → Bool) (cs ds rest tail others : List ℕ) → rest ≡ tail ++ others → Run p cs ds rest → (literal : List ℕ) × (cs ≡ literal ++ others) × Run p literal ds tail
run_cut p cs ds rest tail others e (stop r) = (tail, e, stop tail)
run_cut p cs ds rest tail others e (more c us v r is run) =
    let cut = run_cut p us v r tail others e run in
    (c ∷ cut.0, ap (λ (xs : List ℕ). c ∷ xs) cut.1, more c cut.0 v tail is cut.2)

run_longer : (p : ℕ → Bool) (cs ds rest others : List ℕ) → Run p cs ds rest → Run p (cs ++ others) ds (rest ++ others)
run_longer p cs ds rest others (stop r) = stop (r ++ others)
run_longer p cs ds rest others (more c us v r is run) = more c (us ++ others) v (r ++ others) is (run_longer p us v r others run)

magnitude_cut : (cs : List ℕ) (n : ℕ) (rest : List ℕ) → Magnitude cs n rest → (literal : List ℕ) × (cs ≡ literal ++ rest) × Magnitude literal n []
magnitude_cut cs n rest (decimal_value d us ds r no_zero is run) =
    let cut = run_cut (digit_of 10) us ds r [] r refl run in
    (d ∷ cut.0, ap (λ (xs : List ℕ). d ∷ xs) cut.1, decimal_value d cut.0 ds [] no_zero is cut.2)
magnitude_cut cs n rest (octal_value us ds r run) =
    let cut = run_cut (digit_of 8) us ds r [] r refl run in
    (48 ∷ cut.0, ap (λ (xs : List ℕ). 48 ∷ xs) cut.1, octal_value cut.0 ds [] cut.2)
magnitude_cut cs n rest (hex_value x d us ds r isx run) =
    let cut = run_cut (digit_of 16) us (d ∷ ds) r [] r refl run in
    (48 ∷ x ∷ cut.0, ap (λ (xs : List ℕ). 48 ∷ x ∷ xs) cut.1, hex_value x d cut.0 ds [] isx cut.2)
magnitude_cut cs n rest (binary_value d b us ds r run isb) =
    let cut = run_cut (digit_of 2) us (d ∷ ds) (b ∷ r) (b ∷ []) r refl run in
    (cut.0, cut.1, binary_value d b cut.0 ds [] cut.2 isb)

magnitude_longer : (cs : List ℕ) (n : ℕ) (rest others : List ℕ) → Magnitude cs n rest → Magnitude (cs ++ others) n (rest ++ others)
magnitude_longer cs n rest others (decimal_value d us ds r no_zero is run) = decimal_value d (us ++ others) ds (r ++ others) no_zero is (run_longer (digit_of 10) us ds r others run)
magnitude_longer cs n rest others (octal_value us ds r run) = octal_value (us ++ others) ds (r ++ others) (run_longer (digit_of 8) us ds r others run)
magnitude_longer cs n rest others (hex_value x d us ds r isx run) = hex_value x d (us ++ others) ds (r ++ others) isx (run_longer (digit_of 16) us (d ∷ ds) r others run)
magnitude_longer cs n rest others (binary_value d b us ds r run isb) = binary_value d b (us ++ others) ds (r ++ others) (run_longer (digit_of 2) us (d ∷ ds) (b ∷ r) others run) isb

pub integer_cut : (cs : List ℕ) (z : ℤ) (rest : List ℕ) → IntegerValue cs z rest → (literal : List ℕ) × (cs ≡ literal ++ rest) × IntegerValue literal z []
integer_cut cs z rest (unsigned us n r m) = let cut = magnitude_cut us n r m in (cut.0, cut.1, unsigned cut.0 n [] cut.2)
integer_cut cs z rest (plus us n r m) = let cut = magnitude_cut us n r m in (43 ∷ cut.0, ap (λ (xs : List ℕ). 43 ∷ xs) cut.1, plus cut.0 n [] cut.2)
integer_cut cs z rest (minus us n r m) = let cut = magnitude_cut us n r m in (45 ∷ cut.0, ap (λ (xs : List ℕ). 45 ∷ xs) cut.1, minus cut.0 n [] cut.2)

integer_longer : (cs : List ℕ) (z : ℤ) (rest others : List ℕ) → IntegerValue cs z rest → IntegerValue (cs ++ others) z (rest ++ others)
integer_longer cs z rest others (unsigned us n r m) = unsigned (us ++ others) n (r ++ others) (magnitude_longer us n r others m)
integer_longer cs z rest others (plus us n r m) = plus (us ++ others) n (r ++ others) (magnitude_longer us n r others m)
integer_longer cs z rest others (minus us n r m) = minus (us ++ others) n (r ++ others) (magnitude_longer us n r others m)

-- ranges

pub in_or_out : (z : ℤ) → IsInRange z ⊎ IsOutOfRange z
in_or_out (pos n) = elim (cases_lt 18446744073709551615 n) [
  | inl gt ↦ inr (inr (omega (arith, ints, gt)))
  | inr le ↦ inl (omega (arith, ints, le), omega (arith, ints, le))
]
in_or_out (negsuc n) = elim (cases_lt n 9223372036854775808) [
  | inl lt ↦ inl (omega (arith, ints, lt), omega (arith, ints, lt))
  | inr ge ↦ inr (inl (omega (arith, ints, ge)))
]

out_of_range : (z : ℤ) → (IsInRange z → ⊥) → IsOutOfRange z
out_of_range z outside_it = elim (in_or_out z) [ inl r ↦ absurd (outside_it r) | inr out ↦ out ]

pub not_both : (z : ℤ) → IsOutOfRange z → IsInRange z → ⊥
not_both z (inl low) r = omega (arith, ints, low, r.0)
not_both z (inr high) r = omega (arith, ints, high, r.1)

-- what comes first

token_integer : (cs : List ℕ) (z : ℤ) (rest : List ℕ) → IsToken cs (Number z) rest → IntegerValue cs z rest × Stops is_next rest
token_integer cs z rest (integer us x r v s) = (v, s)

pub excess_first : (cs : List ℕ) (z : ℤ) (rest : List ℕ) → IntegerValue cs z rest → Stops is_next rest → IsOutOfRange z → BeginsExcessInteger cs
excess_first cs z rest v s out =
    let cut = integer_cut cs z rest v in
    record { literal = cut.0; rest = rest; split = cut.1; value = z; token = integer cut.0 z [] cut.2 tt; longest = s; out_of_range = out }

first_excess : (cs : List ℕ) (e : BeginsExcessInteger cs) → IsToken cs (Number e.value) e.rest
first_excess cs e =
    let v = integer_longer e.literal e.value [] e.rest (token_integer e.literal e.value [] e.token).0 in
    subst (λ (xs : List ℕ). IsToken xs (Number e.value) e.rest) (sym e.split) (integer (e.literal ++ e.rest) e.value e.rest v e.longest)

module _ (cs digits : List ℕ) (after : digits ≡ sign_rest cs) (negative : Bool) (sign : negative ≡ is_negative cs) (capped : ℕ) (cap : IsCapped (magnitude_value digits) capped) where
  value_there : (n : ℕ) (rest : List ℕ) → Magnitude (sign_rest cs) n rest → Stops is_next rest → magnitude_value digits ≡ n
  value_there n rest m stops = ap (λ (xs : List ℕ). magnitude_value xs) after ∙ magnitude_is (sign_rest cs) n rest m stops

  pub begins_excess : (rest : List ℕ) → Some rest ≡ magnitude_rest digits → (IsInRange (signed negative capped) → ⊥) → BeginsExcessInteger cs
  begins_excess rest e out =
      let m = read-magnitude (sign_rest cs) rest (sym (e ∙ ap magnitude_rest after)) in
      let t = token_integer cs (signed (is_negative cs) m.0) rest (signed_number cs m.0 rest m.1 m.2) in
      let outside_it : IsInRange (signed (is_negative cs) m.0) → ⊥ = λ r.
      outside negative (magnitude_value digits) capped cap out
      (subst (λ (k : ℕ). IsInRange (signed negative k)) (sym (value_there m.0 rest m.1 m.2)) (subst (λ (b : Bool). IsInRange (signed b m.0)) (sym sign) r)) in
      excess_first cs (signed (is_negative cs) m.0) rest t.0 t.1 (out_of_range (signed (is_negative cs) m.0) outside_it)

  pub excess_reads : (e : BeginsExcessInteger cs) → magnitude_rest digits ≡ Some e.rest
  excess_reads e =
      let m = number_signed cs e.value e.rest (first_excess cs e) in
      ap magnitude_rest after ∙ magnitude-read (sign_rest cs) m.0 e.rest m.1 m.2

  pub excess_outside : BeginsExcessInteger cs → IsInRange (signed negative capped) → ⊥
  excess_outside e r =
      let m = number_signed cs e.value e.rest (first_excess cs e) in
      let same : capped ≡ m.0 = same_within negative (magnitude_value digits) capped cap r ∙ value_there m.0 e.rest m.1 m.2 in
      let value : signed negative capped ≡ e.value = ap (λ (k : ℕ). signed negative k) same ∙ ap (λ (b : Bool). signed b m.0) sign ∙ sym m.3 in
      not_both e.value e.out_of_range (subst IsInRange value r)

  clash : {b : Bool} → b ≡ true → b ≡ false → ⊥
  clash e f = cc

  pub told_excess : (rest : List ℕ) → Some rest ≡ magnitude_rest digits → (IsInRange (signed negative capped) → ⊥) → (true ≡ true → BeginsExcessInteger cs) × (BeginsExcessInteger cs → true ≡ true)
  told_excess rest e out = (λ _. begins_excess rest e out, λ _. refl)

  pub told_within : IsInRange (signed negative capped) → (false ≡ true → BeginsExcessInteger cs) × (BeginsExcessInteger cs → false ≡ true)
  told_within r = (λ e. absurd (clash e refl), λ b. absurd (excess_outside b r))

no_some : (rest : List ℕ) → None ≡ Some rest → ⊥
no_some rest e = cc

pub told_none : (cs digits : List ℕ) → digits ≡ sign_rest cs → None ≡ magnitude_rest digits → (false ≡ true → BeginsExcessInteger cs) × (BeginsExcessInteger cs → false ≡ true)
told_none cs digits after e = (
  λ f. absurd (differ f),
  λ b. let m = number_signed cs b.value b.rest (first_excess cs b) in
      absurd (no_some b.rest (e ∙ ap magnitude_rest after ∙ magnitude-read (sign_rest cs) m.0 b.rest m.1 m.2)),
)
  where
    differ : false ≡ true → ⊥
    differ f = cc
