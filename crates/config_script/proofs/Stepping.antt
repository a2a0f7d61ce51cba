-- The walk over a text as code does it, step by step.
use Rattle.std.proofs.Common.{◌≡◌, ◌≤◌, ◌<◌, ℕ, Bool, true, false, List, [], ◌∷◌, ◌++◌, length, refl, sym, ap, subst, ◌∙◌, Some, None, cond, arith}
use Rattle.std.specs.Prelude.{◌==◌}
use Rattle.std.specs.Str.{chars, IsUtf8}
use Rattle.std.proofs.lemmas.Bool.Decides.{nat_tests}
use Rattle.std.proofs.lemmas.Str.{chars-nil, encodes-chars}
use lib.Utf8.{encodes}
use Rattle.mof_syntax.specs.Characters.{is_blank, Run, stop, more}
use Rattle.mof_syntax.specs.Tokens.{Identifier, identifier}
use Rattle.config_script.specs.declared.place.Place.{Place}
use Rattle.config_script.specs.declared.place.Place.TheVariants.{Start}
use Rattle.config_script.specs.Tokens.{Verbatim, Magnitude, nought, digits, Token, IsToken, word, verbatim, quoted, unsigned, negative, true_constant, false_constant, null_constant, left_brace_mark, right_brace_mark, equals_mark, semicolon_mark, comma_mark, array_begin_mark, array_end_mark}
use Rattle.config_script.specs.Tokens as tokens
use Rattle.config_script.specs.Scripts.{IsScript}
use Rattle.config_script.specs.Lexing.{lexed, first_token, separated}
use Rattle.config_script.specs.Places.{Event, Step, step, with_event}
use Rattle.config_script.proofs.Lexed.{token_stands}
use Rattle.config_script.proofs.Walked.{ReadSoFar, read_start, read_next, read_torn}

-- ---- what is left is shorter

run_short : (p : ℕ → Bool) (cs run rest : List ℕ) → Run p cs run rest → length rest ≤ length cs
run_short p cs run rest (stop r) = omega arith
run_short p cs run rest (more c us v r e on) = let h = run_short p us v r on in omega arith

verbatim_short : (cs text rest : List ℕ) → Verbatim cs text rest → length rest < length cs
verbatim_short cs text rest (tokens.closed r s) = omega arith
verbatim_short cs text rest (tokens.doubled us t r v) = let h = verbatim_short us t r v in omega arith
verbatim_short cs text rest (tokens.plain c us t r e v) = let h = verbatim_short us t r v in omega arith

magnitude_short : (cs : List ℕ) (n : ℕ) (rest : List ℕ) → Magnitude cs n rest → length rest < length cs
magnitude_short cs n rest (nought r) = omega arith
magnitude_short cs n rest (digits d us ds r nz is run) = let h = run_short _ us ds r run in omega arith

identifier_short : (cs name rest : List ℕ) → Identifier cs name rest → length rest < length cs
identifier_short cs name rest (identifier c us tail r e run s) = let h = run_short _ us tail r run in omega arith

token_short : (cs : List ℕ) (t : Token) (rest : List ℕ) → IsToken cs t rest → length rest < length cs
token_short cs t rest (word us name r i) = identifier_short us name r i
token_short cs t rest (verbatim us text r v) = let h = verbatim_short us text r v in omega arith
token_short cs t rest (quoted us text r q) = let h = run_short _ us text (34 ∷ r) q in omega arith
token_short cs t rest (unsigned us n r m s) = magnitude_short us n r m
token_short cs t rest (negative us n r m s) = let h = magnitude_short us n r m in omega arith
token_short cs t rest (true_constant us name r i same) = let h = identifier_short us name r i in omega arith
token_short cs t rest (false_constant us name r i same) = let h = identifier_short us name r i in omega arith
token_short cs t rest (null_constant us name r i same) = let h = identifier_short us name r i in omega arith
token_short cs t rest (left_brace_mark r) = omega arith
token_short cs t rest (right_brace_mark r) = omega arith
token_short cs t rest (equals_mark r) = omega arith
token_short cs t rest (semicolon_mark r) = omega arith
token_short cs t rest (comma_mark r) = omega arith
token_short cs t rest (array_begin_mark r) = omega arith
token_short cs t rest (array_end_mark r) = omega arith

abbrev Short : List ℕ → Bool × List ℕ → Type 0
Short cs found = length found.1 ≤ length cs

separated_short : (within f : Bool) (cs : List ℕ) → Short cs (separated f within cs)
separated_short true f [] = omega arith
separated_short false f [] = omega arith
separated_short true f (c ∷ cs) = by (c == 10) (separated_short false true cs) (separated_short true f cs)
  where
    by : (a : Bool) → Short cs (separated true false cs) → Short cs (separated f true cs) → Short (c ∷ cs) (cond a (separated true false cs) (separated f true cs))
    by true h k = omega arith
    by false h k = omega arith
separated_short false f (c ∷ cs) = by (c == 10) (is_blank c) (c == 35) (separated_short false true cs) (separated_short false f cs) (separated_short true f cs)
  where
    by : (a b d : Bool) → Short cs (separated true false cs) → Short cs (separated f false cs) → Short cs (separated f true cs)
        → Short (c ∷ cs) (cond a (separated true false cs) (cond b (separated f false cs) (cond d (separated f true cs) (f, c ∷ cs))))
    by true b d h k l = omega arith
    by false true d h k l = omega arith
    by false false true h k l = omega arith
    by false false false h k l = omega arith

pub left_shorter : (left rest after : List ℕ) (t : Token) → first_token left ≡ lexed t rest → after ≡ (separated false false rest).1 → length after < length left
left_shorter left rest after t found e =
    let one = token_short left t rest (token_stands left t rest found) in
    let two = separated_short false false rest in
    omega (arith, one, two, ap length e)

-- ---- the steps

pub read_begins : (text left : List ℕ) (fed : Bool) (es : List Event) → fed ≡ (separated false false text).0 → left ≡ (separated false false text).1 → es ≡ []
    → ReadSoFar text fed left Start es
read_begins text left fed es a b d =
    subst (λ (x : Bool). ReadSoFar text x left Start es) (sym a)
    (subst (λ (x : List ℕ). ReadSoFar text (separated false false text).0 x Start es) (sym b)
    (subst (λ (x : List Event). ReadSoFar text (separated false false text).0 (separated false false text).1 Start x) (sym d) (read_start text)))

pub read_goes_on : (text : List ℕ) (fed : Bool) (left : List ℕ) (place : Place) (es : List Event) → ReadSoFar text fed left place es
    → (t : Token) (rest : List ℕ) (s : Step) (fed_after : Bool) (left_after : List ℕ) (events : List Event)
    → first_token left ≡ lexed t rest → step place fed left t ≡ Some s → fed_after ≡ (separated false false rest).0 → left_after ≡ (separated false false rest).1
    → events ≡ es ++ with_event s.event [] → ReadSoFar text fed_after left_after s.place events
read_goes_on text fed left place es so_far t rest s fed_after left_after events found is a b d =
    subst (λ (x : Bool). ReadSoFar text x left_after s.place events) (sym a)
    (subst (λ (x : List ℕ). ReadSoFar text (separated false false rest).0 x s.place events) (sym b)
    (subst (λ (x : List Event). ReadSoFar text (separated false false rest).0 (separated false false rest).1 s.place x) (sym d)
    (read_next text fed left place es so_far t rest s found is)))

pub read_tears : (text : List ℕ) (fed : Bool) (left : List ℕ) (place : Place) (es : List Event) → ReadSoFar text fed left place es
    → (left ≡ [] → ⊥) → first_token left ≡ None → IsScript text → ⊥
read_tears text fed [] place es so_far full none script = full refl
read_tears text fed (c ∷ cs) place es so_far full none script = read_torn text fed (c ∷ cs) place es so_far c cs refl none script

-- ---- empty texts

pub full_chars : (bs : List ℕ) → IsUtf8 bs → (length bs == 0) ≡ false → chars bs ≡ [] → ⊥
full_chars bs u e none = by bs (sym (encodes-chars bs u) ∙ ap encodes none) e
  where
    by : (bs : List ℕ) → bs ≡ [] → (length bs == 0) ≡ false → ⊥
    by [] p q = cc
    by (b ∷ bs) p q = cc

pub empty_chars : (bs : List ℕ) → (length bs == 0) ≡ true → chars bs ≡ []
empty_chars [] e = chars-nil
empty_chars (b ∷ bs) e = absurd (no_length e)
  where
    no_length : (length (b ∷ bs) == 0) ≡ true → ⊥
    no_length e = grind (arith, nat_tests)
