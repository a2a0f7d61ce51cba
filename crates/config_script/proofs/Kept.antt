-- A token stands whatever is after it, as long as that begins as before, or with a line feed.
use Rattle.std.proofs.Common.{◌≡◌, ℕ, Bool, false, List, [], ◌∷◌, ◌++◌, refl, ap, pos, neg_ℤ}
use Rattle.mof_values.specs.Ident.{is_next}
use Rattle.mof_syntax.specs.Characters.{digit_of, Stops, Run, stop, more}
use Rattle.mof_syntax.specs.Tokens.{Identifier, identifier}
use Rattle.config_script.specs.Tokens.{is_apostrophe, is_inert, Verbatim, Magnitude, Token, IsToken, word, verbatim, quoted, unsigned, negative, true_constant, false_constant, null_constant, left_brace_mark, right_brace_mark, equals_mark, semicolon_mark, comma_mark, array_begin_mark, array_end_mark}
use Rattle.config_script.specs.Tokens as tokens

-- the second begins as the first does, or with a line feed
pub data Alike : List ℕ → List ℕ → Type 0 where
  same : (c : ℕ) (us vs : List ℕ) → Alike (c ∷ us) (c ∷ vs)
  fed : (us vs : List ℕ) → Alike us (10 ∷ vs)

stops_alike : (p : ℕ → Bool) (us vs : List ℕ) → p 10 ≡ false → Stops p us → Alike us vs → Stops p vs
stops_alike p us vs none s (same c xs ys) = s
stops_alike p us vs none s (fed xs ys) = none

-- what stands before one rest stands before others
abbrev pub Kept : (List ℕ → List ℕ → Type 0) → List ℕ → List ℕ → Type 0
Kept R cs rest = (front : List ℕ) × (cs ≡ front ++ rest) × ((other : List ℕ) → Alike rest other → R (front ++ other) other)

kept_on : (R Q : List ℕ → List ℕ → Type 0) (c : ℕ) (cs rest : List ℕ) → ((us r : List ℕ) → R us r → Q (c ∷ us) r) → Kept R cs rest → Kept Q (c ∷ cs) rest
kept_on R Q c cs rest f k = (c ∷ k.0, ap (λ (xs : List ℕ). c ∷ xs) k.1, λ other a. f (k.0 ++ other) other (k.2 other a))

kept_as : (R Q : List ℕ → List ℕ → Type 0) (cs rest : List ℕ) → ((us r : List ℕ) → R us r → Q us r) → Kept R cs rest → Kept Q cs rest
kept_as R Q cs rest f k = (k.0, k.1, λ other a. f (k.0 ++ other) other (k.2 other a))

-- a mark
kept_mark : (Q : List ℕ → List ℕ → Type 0) (c : ℕ) (rest : List ℕ) → ((r : List ℕ) → Q (c ∷ r) r) → Kept Q (c ∷ rest) rest
kept_mark Q c rest f = (c ∷ [], refl, λ other a. f other)

pub run_other : (p : ℕ → Bool) (cs run rest other : List ℕ) → Run p cs run rest → Run p (run ++ other) run other
run_other p cs run rest other (stop r) = stop other
run_other p cs run rest other (more c us v r e on) = more c (v ++ other) v other e (run_other p us v r other on)

run_split : (p : ℕ → Bool) (cs run rest : List ℕ) → Run p cs run rest → cs ≡ run ++ rest
run_split p cs run rest (stop r) = refl
run_split p cs run rest (more c us v r e on) = ap (λ (xs : List ℕ). c ∷ xs) (run_split p us v r on)

identifier_kept : (cs name rest : List ℕ) → Identifier cs name rest → Kept (λ us r. Identifier us name r) cs rest
identifier_kept cs name rest (identifier c us tail r e run s) = (
  c ∷ tail,
  ap (λ (xs : List ℕ). c ∷ xs) (run_split is_next us tail r run),
  λ other a. identifier c (tail ++ other) tail other e (run_other is_next us tail r other run) (stops_alike is_next r other refl s a),
)

verbatim_kept : (cs text rest : List ℕ) → Verbatim cs text rest → Kept (λ us r. Verbatim us text r) cs rest
verbatim_kept cs text rest (tokens.closed r s) = (39 ∷ [], refl, λ other a. tokens.closed other (stops_alike is_apostrophe r other refl s a))
verbatim_kept cs text rest (tokens.doubled us t r v) =
    let k = verbatim_kept us t r v in
    (39 ∷ 39 ∷ k.0, ap (λ (xs : List ℕ). 39 ∷ 39 ∷ xs) k.1, λ other a. tokens.doubled (k.0 ++ other) t other (k.2 other a))
verbatim_kept cs text rest (tokens.plain c us t r e v) =
    let k = verbatim_kept us t r v in
    (c ∷ k.0, ap (λ (xs : List ℕ). c ∷ xs) k.1, λ other a. tokens.plain c (k.0 ++ other) t other e (k.2 other a))

quoted_kept : (cs text rest : List ℕ) → Run is_inert cs text (34 ∷ rest) → Kept (λ us r. Run is_inert us text (34 ∷ r)) cs rest
quoted_kept cs text rest (stop r) = (34 ∷ [], refl, λ other a. stop (34 ∷ other))
quoted_kept cs text rest (more c us v r e on) =
    let k = quoted_kept us v rest on in
    (c ∷ k.0, ap (λ (xs : List ℕ). c ∷ xs) k.1, λ other a. more c (k.0 ++ other) v (34 ∷ other) e (k.2 other a))

abbrev Digits : ℕ → List ℕ → List ℕ → Type 0
Digits n cs r = Magnitude cs n r × Stops is_next r

digits_kept : (cs : List ℕ) (n : ℕ) (rest : List ℕ) → Magnitude cs n rest → Stops is_next rest → Kept (Digits n) cs rest
digits_kept cs n rest (tokens.nought r) s = (48 ∷ [], refl, λ other a. (tokens.nought other, stops_alike is_next r other refl s a))
digits_kept cs n rest (tokens.digits d us ds r nz e run) s = (
  d ∷ ds,
  ap (λ (xs : List ℕ). d ∷ xs) (run_split (digit_of 10) us ds r run),
  λ other a. (tokens.digits d (ds ++ other) ds other nz e (run_other (digit_of 10) us ds r other run), stops_alike is_next r other refl s a),
)

pub token_kept : (cs : List ℕ) (t : Token) (rest : List ℕ) → IsToken cs t rest → Kept (λ us r. IsToken us t r) cs rest
token_kept cs t rest (word us name r i) =
    kept_as (λ xs q. Identifier xs name q) (λ xs q. IsToken xs (tokens.Word name) q) us r (λ xs q k. word xs name q k) (identifier_kept us name r i)
token_kept cs t rest (verbatim us text r v) =
    kept_on (λ xs q. Verbatim xs text q) (λ xs q. IsToken xs (tokens.Text text) q) 39 us r (λ xs q k. verbatim xs text q k) (verbatim_kept us text r v)
token_kept cs t rest (quoted us text r v) =
    kept_on (λ xs q. Run is_inert xs text (34 ∷ q)) (λ xs q. IsToken xs (tokens.Text text) q) 34 us r (λ xs q k. quoted xs text q k) (quoted_kept us text r v)
token_kept cs t rest (unsigned us n r m s) =
    kept_as (Digits n) (λ xs q. IsToken xs (tokens.Integer (pos n)) q) us r (λ xs q k. unsigned xs n q k.0 k.1) (digits_kept us n r m s)
token_kept cs t rest (negative us n r m s) =
    kept_on (Digits n) (λ xs q. IsToken xs (tokens.Integer (neg_ℤ (pos n))) q) 45 us r (λ xs q k. negative xs n q k.0 k.1) (digits_kept us n r m s)
token_kept cs t rest (true_constant us name r i e) =
    kept_on (λ xs q. Identifier xs name q) (λ xs q. IsToken xs tokens.True q) 36 us r (λ xs q k. true_constant xs name q k e) (identifier_kept us name r i)
token_kept cs t rest (false_constant us name r i e) =
    kept_on (λ xs q. Identifier xs name q) (λ xs q. IsToken xs tokens.False q) 36 us r (λ xs q k. false_constant xs name q k e) (identifier_kept us name r i)
token_kept cs t rest (null_constant us name r i e) =
    kept_on (λ xs q. Identifier xs name q) (λ xs q. IsToken xs tokens.Null q) 36 us r (λ xs q k. null_constant xs name q k e) (identifier_kept us name r i)
token_kept cs t rest (left_brace_mark r) = kept_mark (λ xs q. IsToken xs tokens.LeftBrace q) 123 r left_brace_mark
token_kept cs t rest (right_brace_mark r) = kept_mark (λ xs q. IsToken xs tokens.RightBrace q) 125 r right_brace_mark
token_kept cs t rest (equals_mark r) = kept_mark (λ xs q. IsToken xs tokens.EqualsSign q) 61 r equals_mark
token_kept cs t rest (semicolon_mark r) = kept_mark (λ xs q. IsToken xs tokens.Semicolon q) 59 r semicolon_mark
token_kept cs t rest (comma_mark r) = kept_mark (λ xs q. IsToken xs tokens.Comma q) 44 r comma_mark
token_kept cs t rest (array_begin_mark r) = (64 ∷ 40 ∷ [], refl, λ other a. array_begin_mark other)
token_kept cs t rest (array_end_mark r) = kept_mark (λ xs q. IsToken xs tokens.ArrayEnd q) 41 r array_end_mark
