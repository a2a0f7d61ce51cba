-- Integers as tokens, and within their range.
use Rattle.std.proofs.Common.{◌≡◌, ◌≤◌, ◌^◌, inl, inr, ℕ, zero, suc, Bool, true, false, List, [], ◌∷◌, Some, None, refl, sym, ap, subst, ◌∙◌, arith}
use Rattle.std.specs.Prelude.{◌==◌, ℤ, pos, neg_ℤ}
use Rattle.std.proofs.lemmas.Bool.Decides.{nat_tests}
use Rattle.std.proofs.lemmas.Int.{ints}
use Rattle.mof_values.specs.Ident.{is_next}
use Rattle.mof_syntax.specs.Characters.{plus_sign, minus_sign, digit_of, Stops}
use Rattle.mof_syntax.specs.Separators.{Separators}
use Rattle.mof_syntax.specs.Integers.{Magnitude, unsigned, plus, minus}
use Rattle.mof_syntax.specs.Limits.{IsInRange}
use Rattle.mof_syntax.specs.Scanning.{separator_rest, magnitude_rest, magnitude_value}
use Rattle.mof_syntax.specs.Tokens.{Lexeme, Number, IsToken, integer}
use Rattle.mof_syntax.proofs.Scans.{test_or, read-magnitude, magnitude-read}
use Rattle.mof_syntax.proofs.FirstTokens.{magnitude_first}
use Rattle.mof_syntax.proofs.Suffixes.{token_ends}
use Rattle.mof_syntax.proofs.UniqueTokens.{nothing_within, magnitude_is}
use Rattle.mof_codec.specs.Reading.{Only, BeginsWith, Lacks}
use Rattle.mof_codec.specs.Values.{IsNumber, IsCapped, signed, is_negative, sign_rest}
use Rattle.mof_codec.proofs.MarkFronts.{equal}
use Rattle.mof_codec.proofs.TokenFronts.{begins_token, begins_as, first_of}

-- a sign and a magnitude

abbrev SignedMagnitude : List ℕ → ℤ → List ℕ → Type 0
SignedMagnitude cs z rest = (n : ℕ) × Magnitude (sign_rest cs) n rest × Stops is_next rest × (z ≡ signed (is_negative cs) n)

empty_magnitude : (n : ℕ) (rest : List ℕ) → Magnitude [] n rest → Stops is_next rest → ⊥
empty_magnitude n rest m s = nothing_within rest (token_ends [] (Number (pos n)) rest (integer [] (pos n) rest (unsigned [] n rest m) s))

unsigned_number : (cs : List ℕ) (n : ℕ) (rest : List ℕ) → Magnitude cs n rest → Stops is_next rest → SignedMagnitude cs (pos n) rest
unsigned_number [] n rest m s = absurd (empty_magnitude n rest m s)
unsigned_number (c ∷ cs) n rest m s =
    let first : digit_of 10 c ≡ true = magnitude_first c cs n rest m in
    let no_minus : (c == minus_sign) ≡ false = grind (arith, nat_tests) in
    let no_plus : (c == plus_sign) ≡ false = grind (arith, nat_tests) in
    (n, rw (no_minus, no_plus) m, s, rw no_minus refl)

pub number_signed : (cs : List ℕ) (z : ℤ) (rest : List ℕ) → IsToken cs (Number z) rest → SignedMagnitude cs z rest
number_signed cs z rest (integer us x r (unsigned vs n q m) s) = unsigned_number vs n q m s
number_signed cs z rest (integer us x r (plus vs n q m) s) = (n, m, s, refl)
number_signed cs z rest (integer us x r (minus vs n q m) s) = (n, m, s, refl)

pub signed_number : (cs : List ℕ) (n : ℕ) (rest : List ℕ) → Magnitude (sign_rest cs) n rest → Stops is_next rest → IsToken cs (Number (signed (is_negative cs) n)) rest
signed_number [] n rest m s = absurd (empty_magnitude n rest m s)
signed_number (c ∷ cs) n rest m s = elim (test_or (c == minus_sign)) [
  | inl is_minus ↦ at_minus (equal c minus_sign is_minus) m
  | inr no_minus ↦ elim (test_or (c == plus_sign)) [
    | inl is_plus ↦ at_plus (equal c plus_sign is_plus) m
    | inr no_plus ↦ at_digit no_minus no_plus m
  ]
]
  where
    at_minus : c ≡ minus_sign → Magnitude (sign_rest (c ∷ cs)) n rest → IsToken (c ∷ cs) (Number (signed (is_negative (c ∷ cs)) n)) rest
    at_minus e = subst (λ (d : ℕ). Magnitude (sign_rest (d ∷ cs)) n rest → IsToken (d ∷ cs) (Number (signed (is_negative (d ∷ cs)) n)) rest) (sym e)
        (λ h. integer (minus_sign ∷ cs) (neg_ℤ (pos n)) rest (minus cs n rest h) s)

    at_plus : c ≡ plus_sign → Magnitude (sign_rest (c ∷ cs)) n rest → IsToken (c ∷ cs) (Number (signed (is_negative (c ∷ cs)) n)) rest
    at_plus e = subst (λ (d : ℕ). Magnitude (sign_rest (d ∷ cs)) n rest → IsToken (d ∷ cs) (Number (signed (is_negative (d ∷ cs)) n)) rest) (sym e)
        (λ h. integer (plus_sign ∷ cs) (pos n) rest (plus cs n rest h) s)

    at_digit : (c == minus_sign) ≡ false → (c == plus_sign) ≡ false → Magnitude (sign_rest (c ∷ cs)) n rest → IsToken (c ∷ cs) (Number (signed (is_negative (c ∷ cs)) n)) rest
    at_digit no_minus no_plus h =
        let there : sign_rest (c ∷ cs) ≡ c ∷ cs = rw (no_minus, no_plus) refl in
        rw no_minus (integer (c ∷ cs) (pos n) rest (unsigned (c ∷ cs) n rest (subst (λ (xs : List ℕ). Magnitude xs n rest) there h)) s)

-- ranges

past_range : (negative : Bool) (n : ℕ) → 2 ^ 64 ≤ n → IsInRange (signed negative n) → ⊥
past_range true zero h r = omega arith
past_range true (suc n) h r = omega (arith, ints, r.0)
past_range false n h r = omega (arith, ints, r.1)

pub same_within : (negative : Bool) (n capped : ℕ) → IsCapped n capped → IsInRange (signed negative capped) → capped ≡ n
same_within negative n capped (inl is) r = is
same_within negative n capped (inr past) r = absurd (past_range negative capped past.1 r)

pub outside : (negative : Bool) (n capped : ℕ) → IsCapped n capped → (IsInRange (signed negative capped) → ⊥) → IsInRange (signed negative n) → ⊥
outside negative n capped (inl is) out r = out (subst (λ (m : ℕ). IsInRange (signed negative m)) (sym is) r)
outside negative n capped (inr past) out r = past_range negative n past.0 r

-- the integer that is read

only_number : (us : List Lexeme) (z : ℤ) (ts : List Lexeme) → us ≡ Number z ∷ ts → Only IsNumber us z ts
only_number us z ts e = record { holds = e; only = λ b vs n f. same b vs f }
  where
    same : (b : ℤ) (vs : List Lexeme) → us ≡ Number b ∷ vs → (b ≡ z) × (vs ≡ ts)
    same b vs f = (cc, cc)

module _ (cs left : List ℕ) (s : Separators cs left) (digits : List ℕ) (after : digits ≡ sign_rest left) where
  read_there : (rest : List ℕ) → Some rest ≡ magnitude_rest digits → (n : ℕ) × Magnitude (sign_rest left) n rest × Stops is_next rest
  read_there rest e = read-magnitude (sign_rest left) rest (sym (e ∙ ap magnitude_rest after))

  value_there : (n : ℕ) (rest : List ℕ) → Magnitude (sign_rest left) n rest → Stops is_next rest → magnitude_value digits ≡ n
  value_there n rest m stops = ap (λ (xs : List ℕ). magnitude_value xs) after ∙ magnitude_is (sign_rest left) n rest m stops

  pub reads_integer : (rest : List ℕ) (negative : Bool) (capped : ℕ) (z : ℤ) → negative ≡ is_negative left → Some rest ≡ magnitude_rest digits → IsCapped (magnitude_value digits) capped
      → z ≡ signed negative capped → IsInRange (signed negative capped) → BeginsWith IsNumber IsInRange cs z rest
  reads_integer rest negative capped z sign e cap same range =
      let m = read_there rest e in
      let value : capped ≡ m.0 = same_within negative _ capped cap range ∙ value_there m.0 rest m.1 m.2 in
      let is : z ≡ signed (is_negative left) m.0 = same ∙ ap (λ (n : ℕ). signed negative n) value ∙ ap (λ (b : Bool). signed b m.0) sign in
      record {
        fits = subst IsInRange (sym same) range;
        begins = begins_as (λ us ts. us ≡ Number z ∷ ts) (λ us ts. Only IsNumber us z ts) cs rest (λ us ts h. only_number us z ts h)
            (begins_token cs left (Number z) rest s (subst (λ (x : ℤ). IsToken left (Number x) rest) (sym is) (signed_number left m.0 rest m.1 m.2)));
      }

  module _ (stops : separator_rest left ≡ None) where
    pub lacks_integer : magnitude_rest digits ≡ None → Lacks IsNumber IsInRange cs
    lacks_integer e us ts z n l is fits =
        let f = first_of cs left us (Number z) ts s stops l is in
        let m = number_signed left z f.0 f.1 in
        apart f.0 (sym e ∙ ap magnitude_rest after ∙ magnitude-read (sign_rest left) m.0 f.0 m.1 m.2)
      where
        apart : (xs : List ℕ) → None ≡ Some xs → ⊥
        apart xs h = cc

    pub lacks_integer_outside : (negative : Bool) (capped : ℕ) → negative ≡ is_negative left → IsCapped (magnitude_value digits) capped
        → (IsInRange (signed negative capped) → ⊥) → Lacks IsNumber IsInRange cs
    lacks_integer_outside negative capped sign cap out us ts z n l is fits =
        let f = first_of cs left us (Number z) ts s stops l is in
        let m = number_signed left z f.0 f.1 in
        let value : z ≡ signed negative (magnitude_value digits) =
        m.3 ∙ ap (λ (b : Bool). signed b m.0) (sym sign) ∙ ap (λ (k : ℕ). signed negative k) (sym (value_there m.0 f.0 m.1 m.2)) in
        outside negative _ capped cap out (subst IsInRange value fits)
