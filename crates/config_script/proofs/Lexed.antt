-- The tokens that code finds are those of the definitions: where one stands it is found, and what is found stands there.
use Rattle.std.proofs.Common.{◌≡◌, ◌⊎◌, inl, inr, ◌<◌, ℕ, Bool, true, false, not, ◌||◌, List, [], ◌∷◌, ◌++◌, refl, sym, ap, ap₂, subst, ◌∙◌, get_or, Option, Some, None, codes, ℤ, pos, neg_ℤ, cond, arith}
use Rattle.std.specs.Prelude.{◌==◌}
use Rattle.std.specs.Str.Parse.{digits_value}
use Rattle.std.proofs.lemmas.Bool.Decides.{nat_tests}
use Rattle.std.proofs.lemmas.Slice.Eq.{bytes_eq-Decides}
use Rattle.mof_values.specs.Fold.{SameName, same_name, fold_case}
use Rattle.mof_values.specs.Ident.{is_first, is_next}
use Rattle.mof_syntax.specs.Characters.{digit_of, Stops, Run, stop, more}
use Rattle.mof_syntax.specs.Scanning.{after, stopped}
use Rattle.mof_syntax.specs.Tokens.{Identifier, identifier}
use Rattle.config_script.specs.Digits.{signed}
use Rattle.config_script.specs.Tokens.{is_apostrophe, is_inert, Verbatim, Magnitude, Token, Word, Text, Integer, True, False, Null, LeftBrace, RightBrace, EqualsSign, Semicolon, Comma, ArrayBegin, ArrayEnd, IsToken, word, verbatim, quoted, unsigned, negative, true_constant, false_constant, null_constant, left_brace_mark, right_brace_mark, equals_mark, semicolon_mark, comma_mark, array_begin_mark, array_end_mark, Placed, placed, Lexes}
use Rattle.config_script.specs.Tokens as tokens
use Rattle.config_script.specs.Lexing.{Lexed, lexed, Split, split, as_token, onto, taken, identifier_in, with_rest, digits_in, verbatim_in, quoted_in, constant_named, constant_of, constant_in, array_begin_in, integer_in, first_token}

-- ---- answers

some_same : {A : Type 0} (x y : A) → Some x ≡ Some y → x ≡ y
some_same x y e = cc

pub split_same : (a b c d : List ℕ) → split a b ≡ split c d → (a ≡ c) × (b ≡ d)
split_same a b c d e =
    let x : List ℕ × List ℕ = (a, b) in
    let y : List ℕ × List ℕ = (c, d) in
    let p : x ≡ y = some_same x y e in
    (ap (λ (z : List ℕ × List ℕ). z.0) p, ap (λ (z : List ℕ × List ℕ). z.1) p)

pub lexed_same : (a : Token) (b : List ℕ) (c : Token) (d : List ℕ) → lexed a b ≡ lexed c d → (a ≡ c) × (b ≡ d)
lexed_same a b c d e =
    let x : Token × List ℕ = (a, b) in
    let y : Token × List ℕ = (c, d) in
    let p : x ≡ y = some_same x y e in
    (ap (λ (z : Token × List ℕ). z.0) p, ap (λ (z : Token × List ℕ). z.1) p)

-- ---- runs of a class

pub run_is : (p : ℕ → Bool) (cs run rest : List ℕ) → Run p cs run rest → Stops p rest → (taken p cs ≡ run) × (after p cs ≡ rest)
run_is p cs run [] (stop r) s = (refl, refl)
run_is p cs run (c ∷ rest) (stop r) s = (ap (λ (b : Bool). cond b (c ∷ taken p rest) []) s, ap (λ (b : Bool). cond b (after p rest) (c ∷ rest)) s)
run_is p cs run rest (more c us v r e on) s =
    let h = run_is p us v r on s in (
      ap (λ (b : Bool). cond b (c ∷ taken p us) []) e ∙ ap (λ (xs : List ℕ). c ∷ xs) h.0,
      ap (λ (b : Bool). cond b (after p us) (c ∷ us)) e ∙ h.1,
    )

pub runs : (p : ℕ → Bool) (cs : List ℕ) → Run p cs (taken p cs) (after p cs) × Stops p (after p cs)
runs p [] = (stop [], tt)
runs p (c ∷ cs) = by (p c) refl (runs p cs)
  where
    by : (b : Bool) → p c ≡ b → Run p cs (taken p cs) (after p cs) × Stops p (after p cs) → Run p (c ∷ cs) (cond b (c ∷ taken p cs) []) (cond b (after p cs) (c ∷ cs)) × Stops p (cond b (after p cs) (c ∷ cs))
    by true e h = (more c cs (taken p cs) (after p cs) e h.0, h.1)
    by false e h = (stop (c ∷ cs), e)

pub split_run : (p : ℕ → Bool) (cs : List ℕ) → cs ≡ taken p cs ++ after p cs
split_run p [] = refl
split_run p (c ∷ cs) = by (p c) (split_run p cs)
  where
    by : (b : Bool) → cs ≡ taken p cs ++ after p cs → c ∷ cs ≡ cond b (c ∷ taken p cs) [] ++ cond b (after p cs) (c ∷ cs)
    by true h = ap (λ (xs : List ℕ). c ∷ xs) h
    by false h = refl

-- ---- identifiers

pub identifier_is : (cs name rest : List ℕ) → Identifier cs name rest → identifier_in cs ≡ split name rest
identifier_is cs name rest (identifier c us tail r e run s) =
    let h = run_is is_next us tail r run s in
    ap (λ (b : Bool). cond b (split (c ∷ taken is_next us) (after is_next us)) None) e
    ∙ ap₂ (λ (xs ys : List ℕ). split (c ∷ xs) ys) h.0 h.1

pub identifier_stands : (cs name rest : List ℕ) → identifier_in cs ≡ split name rest → Identifier cs name rest
identifier_stands [] name rest e = cc
identifier_stands (c ∷ cs) name rest e = by (is_first c) refl e
  where
    by : (b : Bool) → is_first c ≡ b → cond b (split (c ∷ taken is_next cs) (after is_next cs)) None ≡ split name rest → Identifier (c ∷ cs) name rest
    by false f e = cc
    by true f e =
        let h = runs is_next cs in
        let same = split_same (c ∷ taken is_next cs) (after is_next cs) name rest e in
        subst (λ (xs : List ℕ). Identifier (c ∷ cs) xs rest) same.0
        (subst (λ (xs : List ℕ). Identifier (c ∷ cs) (c ∷ taken is_next cs) xs) same.1 (identifier c cs (taken is_next cs) (after is_next cs) f h.0 h.1))

-- ---- texts

pub verbatim_is : (cs text rest : List ℕ) → Verbatim cs text rest → verbatim_in cs ≡ split text rest
verbatim_is cs text rest (tokens.closed r s) = at_end r s
  where
    at_end : (r : List ℕ) → Stops is_apostrophe r → verbatim_in (39 ∷ r) ≡ split [] r
    at_end [] s = refl
    at_end (d ∷ r) s = ap (λ (b : Bool). cond b (onto (39 ∷ []) (verbatim_in r)) (split [] (d ∷ r))) s
verbatim_is cs text rest (tokens.doubled us t r v) = ap (onto (39 ∷ [])) (verbatim_is us t r v)
verbatim_is cs text rest (tokens.plain c us t r e v) = plainly us v (verbatim_is us t r v)
  where
    plainly : (us : List ℕ) → Verbatim us t r → verbatim_in us ≡ split t r → verbatim_in (c ∷ us) ≡ split (c ∷ t) r
    plainly [] v is = cc
    plainly (d ∷ us) v is = ap (λ (b : Bool). cond b (cond (d == 39) (onto (39 ∷ []) (verbatim_in us)) (split [] (d ∷ us))) (onto (c ∷ []) (verbatim_in (d ∷ us)))) e
        ∙ ap (onto (c ∷ [])) is

onto_back : (front : List ℕ) (found : Split) (text rest : List ℕ) → onto front found ≡ split text rest
    → (more : List ℕ) × (found ≡ split more rest) × (text ≡ front ++ more)
onto_back front None text rest e = cc
onto_back front (Some (a, b)) text rest e =
    let same = split_same (front ++ a) b text rest e in
    (a, ap (λ (xs : List ℕ). split a xs) same.1, sym same.0)

equal_to : (c d : ℕ) → (c == d) ≡ true → c ≡ d
equal_to c d e = grind (arith, nat_tests)

pub verbatim_stands : (cs text rest : List ℕ) → verbatim_in cs ≡ split text rest → Verbatim cs text rest
verbatim_stands [] text rest e = cc
verbatim_stands (c ∷ []) text rest e = by (c == 39) refl e
  where
    by : (b : Bool) → (c == 39) ≡ b → cond b (split [] []) None ≡ split text rest → Verbatim (c ∷ []) text rest
    by false f e = cc
    by true f e =
        let same = split_same [] [] text rest e in
        subst (λ (x : ℕ). Verbatim (x ∷ []) text rest) (sym (equal_to c 39 f))
        (subst (λ (xs : List ℕ). Verbatim (39 ∷ []) xs rest) same.0 (subst (λ (xs : List ℕ). Verbatim (39 ∷ []) [] xs) same.1 (tokens.closed [] tt)))
verbatim_stands (c ∷ d ∷ cs) text rest e = by (c == 39) (d == 39) refl refl (λ t r. verbatim_stands (d ∷ cs) t r) (λ t r. verbatim_stands cs t r) e
  where
    by : (b b' : Bool) → (c == 39) ≡ b → (d == 39) ≡ b'
        → ((t r : List ℕ) → verbatim_in (d ∷ cs) ≡ split t r → Verbatim (d ∷ cs) t r) → ((t r : List ℕ) → verbatim_in cs ≡ split t r → Verbatim cs t r)
        → cond b (cond b' (onto (39 ∷ []) (verbatim_in cs)) (split [] (d ∷ cs))) (onto (c ∷ []) (verbatim_in (d ∷ cs))) ≡ split text rest
        → Verbatim (c ∷ d ∷ cs) text rest
    by false b' f g one two e =
        let h = onto_back (c ∷ []) (verbatim_in (d ∷ cs)) text rest e in
        subst (λ (xs : List ℕ). Verbatim (c ∷ d ∷ cs) xs rest) (sym h.2) (tokens.plain c (d ∷ cs) h.0 rest f (one h.0 rest h.1))
    by true true f g one two e =
        let h = onto_back (39 ∷ []) (verbatim_in cs) text rest e in
        subst (λ (x : ℕ). Verbatim (x ∷ d ∷ cs) text rest) (sym (equal_to c 39 f))
        (subst (λ (x : ℕ). Verbatim (39 ∷ x ∷ cs) text rest) (sym (equal_to d 39 g))
        (subst (λ (xs : List ℕ). Verbatim (39 ∷ 39 ∷ cs) xs rest) (sym h.2) (tokens.doubled cs h.0 rest (two h.0 rest h.1))))
    by true false f g one two e =
        let same = split_same [] (d ∷ cs) text rest e in
        subst (λ (x : ℕ). Verbatim (x ∷ d ∷ cs) text rest) (sym (equal_to c 39 f))
        (subst (λ (xs : List ℕ). Verbatim (39 ∷ d ∷ cs) xs rest) same.0 (subst (λ (xs : List ℕ). Verbatim (39 ∷ d ∷ cs) [] xs) same.1 (tokens.closed (d ∷ cs) g)))

inert_tests : (c : ℕ) → is_inert c ≡ true → ((c == 34) ≡ false) × ((c == 36 || c == 96) ≡ false)
inert_tests c e = by (c == 34) (c == 36) (c == 96) e
  where
    by : (a b d : Bool) → not (a || b || d) ≡ true → (a ≡ false) × ((b || d) ≡ false)
    by false false false e = (refl, refl)
    by true b d e = cc
    by false true d e = cc
    by false false true e = cc

pub quoted_is : (cs text rest : List ℕ) → Run is_inert cs text (34 ∷ rest) → quoted_in cs ≡ split text rest
quoted_is cs text rest (stop r) = refl
quoted_is cs text rest (more c us v r e on) =
    let t = inert_tests c e in
    ap₂ (λ (a b : Bool). cond a (split [] us) (cond b None (onto (c ∷ []) (quoted_in us)))) t.0 t.1 ∙ ap (onto (c ∷ [])) (quoted_is us v rest on)

pub quoted_stands : (cs text rest : List ℕ) → quoted_in cs ≡ split text rest → Run is_inert cs text (34 ∷ rest)
quoted_stands [] text rest e = cc
quoted_stands (c ∷ cs) text rest e = by (c == 34) (c == 36) (c == 96) refl refl refl (λ t r. quoted_stands cs t r) e
  where
    by : (a b d : Bool) → (c == 34) ≡ a → (c == 36) ≡ b → (c == 96) ≡ d → ((t r : List ℕ) → quoted_in cs ≡ split t r → Run is_inert cs t (34 ∷ r))
        → cond a (split [] cs) (cond (b || d) None (onto (c ∷ []) (quoted_in cs))) ≡ split text rest → Run is_inert (c ∷ cs) text (34 ∷ rest)
    by true b d f g h on e =
        let same = split_same [] cs text rest e in
        subst (λ (x : ℕ). Run is_inert (x ∷ cs) text (34 ∷ rest)) (sym (equal_to c 34 f))
        (subst (λ (xs : List ℕ). Run is_inert (34 ∷ cs) xs (34 ∷ rest)) same.0 (subst (λ (xs : List ℕ). Run is_inert (34 ∷ cs) [] (34 ∷ xs)) same.1 (stop (34 ∷ cs))))
    by false true d f g h on e = cc
    by false false true f g h on e = cc
    by false false false f g h on e =
        let o = onto_back (c ∷ []) (quoted_in cs) text rest e in
        subst (λ (xs : List ℕ). Run is_inert (c ∷ cs) xs (34 ∷ rest)) (sym o.2)
        (more c cs o.0 (34 ∷ rest) (ap₂ (λ (x y : Bool). not (x || y || c == 96)) f g ∙ ap (λ (x : Bool). not x) h) (on o.0 rest o.1))

-- ---- integers

stopped_is : (rest : List ℕ) → Stops is_next rest → stopped rest ≡ Some rest
stopped_is [] s = refl
stopped_is (c ∷ cs) s = ap (λ (b : Bool). cond b None (Some (c ∷ cs))) s

stopped_stands : (cs rest : List ℕ) → stopped cs ≡ Some rest → (cs ≡ rest) × Stops is_next rest
stopped_stands [] rest e = let r : [] ≡ rest = cc in (r, subst (Stops is_next) r tt)
stopped_stands (c ∷ cs) rest e = by (is_next c) refl e
  where
    by : (b : Bool) → is_next c ≡ b → cond b None (Some (c ∷ cs)) ≡ Some rest → (c ∷ cs ≡ rest) × Stops is_next rest
    by true f e = cc
    by false f e = let r : c ∷ cs ≡ rest = cc in (r, subst (Stops is_next) r f)

digit_goes_on : (c : ℕ) → digit_of 10 c ≡ true → is_next c ≡ true
digit_goes_on c h = grind (arith, nat_tests)

stops_digits : (rest : List ℕ) → Stops is_next rest → Stops (digit_of 10) rest
stops_digits [] s = tt
stops_digits (c ∷ cs) s = by (digit_of 10 c) refl
  where
    by : (b : Bool) → digit_of 10 c ≡ b → digit_of 10 c ≡ false
    by true e = let f = digit_goes_on c e in cc
    by false e = e

pub magnitude_is : (cs : List ℕ) (n : ℕ) (rest : List ℕ) → Magnitude cs n rest → Stops is_next rest
    → (ds : List ℕ) × (digits_in cs ≡ split ds rest) × (digits_value 10 ds ≡ n)
magnitude_is cs n rest (tokens.nought r) s = (48 ∷ [], ap (with_rest (48 ∷ [])) (stopped_is r s), refl)
magnitude_is cs n rest (tokens.digits d us ds r nz is run) s =
    let h = run_is (digit_of 10) us ds r run (stops_digits r s) in (
      d ∷ ds,
      ap₂ (λ (a b : Bool). cond a (with_rest (48 ∷ []) (stopped us)) (cond b (with_rest (d ∷ taken (digit_of 10) us) (stopped (after (digit_of 10) us))) None)) nz is
          ∙ ap₂ (λ (xs ys : List ℕ). with_rest (d ∷ xs) (stopped ys)) h.0 h.1 ∙ ap (with_rest (d ∷ ds)) (stopped_is r s),
      refl,
    )

with_rest_back : (front : List ℕ) (found : Option (List ℕ)) (ds rest : List ℕ) → with_rest front found ≡ split ds rest → (front ≡ ds) × (found ≡ Some rest)
with_rest_back front None ds rest e = cc
with_rest_back front (Some r) ds rest e =
    let same = split_same front r ds rest e in
    (same.0, ap Some same.1)

pub magnitude_stands : (cs ds rest : List ℕ) → digits_in cs ≡ split ds rest → Magnitude cs (digits_value 10 ds) rest × Stops is_next rest
magnitude_stands [] ds rest e = cc
magnitude_stands (c ∷ cs) ds rest e = by (c == 48) (digit_of 10 c) refl refl e
  where
    by : (a b : Bool) → (c == 48) ≡ a → digit_of 10 c ≡ b
        → cond a (with_rest (48 ∷ []) (stopped cs)) (cond b (with_rest (c ∷ taken (digit_of 10) cs) (stopped (after (digit_of 10) cs))) None) ≡ split ds rest
        → Magnitude (c ∷ cs) (digits_value 10 ds) rest × Stops is_next rest
    by true b f g e =
        let w = with_rest_back (48 ∷ []) (stopped cs) ds rest e in
        let s = stopped_stands cs rest w.1 in (
          subst (λ (x : ℕ). Magnitude (x ∷ cs) (digits_value 10 ds) rest) (sym (equal_to c 48 f))
              (subst (λ (xs : List ℕ). Magnitude (48 ∷ cs) (digits_value 10 xs) rest) w.0
              (subst (λ (xs : List ℕ). Magnitude (48 ∷ cs) 0 xs) s.0 (tokens.nought cs))),
          s.1,
        )
    by false false f g e = cc
    by false true f g e =
        let w = with_rest_back (c ∷ taken (digit_of 10) cs) (stopped (after (digit_of 10) cs)) ds rest e in
        let s = stopped_stands (after (digit_of 10) cs) rest w.1 in (
          subst (λ (xs : List ℕ). Magnitude (c ∷ cs) (digits_value 10 xs) rest) w.0
              (subst (λ (xs : List ℕ). Magnitude (c ∷ cs) (digits_value 10 (c ∷ taken (digit_of 10) cs)) xs) s.0
              (tokens.digits c cs (taken (digit_of 10) cs) (after (digit_of 10) cs) f g (runs (digit_of 10) cs).0)),
          s.1,
        )

-- ---- tokens

named_true : (name key : List ℕ) → SameName name key → same_name name key ≡ true
named_true name key same = (bytes_eq-Decides (fold_case name) (fold_case key)).1 same

named_same : (name key : List ℕ) → same_name name key ≡ true → SameName name key
named_same name key e = (bytes_eq-Decides (fold_case name) (fold_case key)).0 e

-- names of different folds
named_apart : (name key other : List ℕ) → SameName name key → (fold_case key ≡ fold_case other → ⊥) → same_name name other ≡ false
named_apart name key other same apart = by (same_name name other) refl
  where
    by : (b : Bool) → same_name name other ≡ b → same_name name other ≡ false
    by true e = absurd (apart (sym same ∙ named_same name other e))
    by false e = e

first_apart : (a b : ℕ) → a ≡ b → a < b ⊎ b < a → ⊥
first_apart a b e (inl l) = omega (arith, e)
first_apart a b e (inr l) = omega (arith, e)

constant_is : (cs name rest : List ℕ) (t : Token) → Identifier cs name rest → constant_named name rest ≡ lexed t rest → constant_in cs ≡ lexed t rest
constant_is cs name rest t i e = ap constant_of (identifier_is cs name rest i) ∙ e

named_constants : (name rest : List ℕ) (a b c : Bool) → same_name name (codes "true") ≡ a → same_name name (codes "false") ≡ b → same_name name (codes "null") ≡ c
    → constant_named name rest ≡ cond a (lexed True rest) (cond b (lexed False rest) (cond c (lexed Null rest) None))
named_constants name rest a b c e f g = λ k. cond (e k) (lexed True rest) (cond (f k) (lexed False rest) (cond (g k) (lexed Null rest) None))

-- what a character that begins no mark and no text leads to
abbrev lead : ℕ → List ℕ → Lexed
lead c cs = cond (digit_of 10 c) (integer_in false (c ∷ cs)) (as_token Word (identifier_in (c ∷ cs)))

-- a character of a number or of a name is none of the marks
pub record NoMark (c : ℕ) : Type 0 where
  pub left_brace : (c == 123) ≡ false
  pub right_brace : (c == 125) ≡ false
  pub equals : (c == 61) ≡ false
  pub semicolon : (c == 59) ≡ false
  pub comma : (c == 44) ≡ false
  pub array_end : (c == 41) ≡ false
  pub at : (c == 64) ≡ false
  pub apostrophe : (c == 39) ≡ false
  pub quote : (c == 34) ≡ false
  pub dollar : (c == 36) ≡ false
  pub minus : (c == 45) ≡ false

next_no_mark : (c : ℕ) → is_next c ≡ true → NoMark c
next_no_mark c h = record {
  left_brace = grind (arith, nat_tests);
  right_brace = grind (arith, nat_tests);
  equals = grind (arith, nat_tests);
  semicolon = grind (arith, nat_tests);
  comma = grind (arith, nat_tests);
  array_end = grind (arith, nat_tests);
  at = grind (arith, nat_tests);
  apostrophe = grind (arith, nat_tests);
  quote = grind (arith, nat_tests);
  dollar = grind (arith, nat_tests);
  minus = grind (arith, nat_tests);
}

leads : (c : ℕ) (cs : List ℕ) → NoMark c → first_token (c ∷ cs) ≡ lead c cs
leads c cs n = λ k.
    cond (n.left_brace k) (lexed LeftBrace cs) (cond (n.right_brace k) (lexed RightBrace cs) (cond (n.equals k) (lexed EqualsSign cs)
    (cond (n.semicolon k) (lexed Semicolon cs) (cond (n.comma k) (lexed Comma cs) (cond (n.array_end k) (lexed ArrayEnd cs)
    (cond (n.at k) (array_begin_in cs) (cond (n.apostrophe k) (as_token Text (verbatim_in cs)) (cond (n.quote k) (as_token Text (quoted_in cs))
    (cond (n.dollar k) (constant_in cs) (cond (n.minus k) (integer_in true cs) (lead c cs)))))))))))

first_goes_on : (c : ℕ) → is_first c ≡ true → is_next c ≡ true
first_goes_on c h = grind (arith, nat_tests)

first_no_digit : (c : ℕ) → is_first c ≡ true → digit_of 10 c ≡ false
first_no_digit c h = grind (arith, nat_tests)

word_is : (cs name rest : List ℕ) → Identifier cs name rest → first_token cs ≡ lexed (Word name) rest
word_is cs name rest (identifier c us tail r e run s) =
    leads c us (next_no_mark c (first_goes_on c e))
    ∙ ap (λ (b : Bool). cond b (integer_in false (c ∷ us)) (as_token Word (identifier_in (c ∷ us)))) (first_no_digit c e)
    ∙ ap (as_token Word) (identifier_is (c ∷ us) (c ∷ tail) r (identifier c us tail r e run s))

integer_found : (b : Bool) (cs : List ℕ) (n : ℕ) (rest : List ℕ) (z : ℤ) → Magnitude cs n rest → Stops is_next rest
    → ((ds : List ℕ) → digits_value 10 ds ≡ n → signed b ds ≡ z) → integer_in b cs ≡ lexed (Integer z) rest
integer_found b cs n rest z m s value =
    let d = magnitude_is cs n rest m s in
    ap (as_token (λ ds. Integer (signed b ds))) d.1 ∙ ap (λ (x : ℤ). lexed (Integer x) rest) (value d.0 d.2)

digit_first : (c : ℕ) (cs : List ℕ) (n : ℕ) (rest : List ℕ) → Magnitude (c ∷ cs) n rest → digit_of 10 c ≡ true
digit_first c cs n rest (tokens.nought r) = refl
digit_first c cs n rest (tokens.digits d us ds r nz is run) = is

unsigned_is : (cs : List ℕ) (n : ℕ) (rest : List ℕ) → Magnitude cs n rest → Stops is_next rest → first_token cs ≡ lexed (Integer (pos n)) rest
unsigned_is [] n rest m s = absurd (no_digits m)
  where
    no_digits : Magnitude [] n rest → ⊥
    no_digits m = elim m [ ]
unsigned_is (c ∷ cs) n rest m s =
    let d = digit_first c cs n rest m in
    leads c cs (next_no_mark c (digit_goes_on c d))
    ∙ ap (λ (b : Bool). cond b (integer_in false (c ∷ cs)) (as_token Word (identifier_in (c ∷ cs)))) d
    ∙ integer_found false (c ∷ cs) n rest (pos n) m s (λ ds e. ap pos e)

pub token_is : (cs : List ℕ) (t : Token) (rest : List ℕ) → IsToken cs t rest → first_token cs ≡ lexed t rest
token_is cs t rest (word us name r i) = word_is us name r i
token_is cs t rest (verbatim us text r v) = ap (as_token Text) (verbatim_is us text r v)
token_is cs t rest (quoted us text r q) = ap (as_token Text) (quoted_is us text r q)
token_is cs t rest (unsigned us n r m s) = unsigned_is us n r m s
token_is cs t rest (negative us n r m s) = integer_found true us n r (neg_ℤ (pos n)) m s (λ ds e. ap (λ (x : ℕ). neg_ℤ (pos x)) e)
token_is cs t rest (true_constant us name r i same) = constant_is us name r True i
    (ap (λ (b : Bool). cond b (lexed True r) (cond (same_name name (codes "false")) (lexed False r) (cond (same_name name (codes "null")) (lexed Null r) None)))
    (named_true name (codes "true") same))
token_is cs t rest (false_constant us name r i same) = constant_is us name r False i
    (named_constants name r false true (same_name name (codes "null")) (named_apart name (codes "false") (codes "true") same (λ e. first_apart 102 116 (ap (λ (xs : List ℕ). get_or xs 0 0) e) (inl (omega arith)))) (named_true name (codes "false") same) refl)
token_is cs t rest (null_constant us name r i same) = constant_is us name r Null i
    (named_constants name r false false true (named_apart name (codes "null") (codes "true") same (λ e. first_apart 110 116 (ap (λ (xs : List ℕ). get_or xs 0 0) e) (inl (omega arith)))) (named_apart name (codes "null") (codes "false") same (λ e. first_apart 110 102 (ap (λ (xs : List ℕ). get_or xs 0 0) e) (inr (omega arith))))
    (named_true name (codes "null") same))
token_is cs t rest (left_brace_mark r) = refl
token_is cs t rest (right_brace_mark r) = refl
token_is cs t rest (equals_mark r) = refl
token_is cs t rest (semicolon_mark r) = refl
token_is cs t rest (comma_mark r) = refl
token_is cs t rest (array_begin_mark r) = refl
token_is cs t rest (array_end_mark r) = refl

-- what is found of a search whose answer becomes a token
as_token_back : (f : List ℕ → Token) (found : Split) (t : Token) (rest : List ℕ) → as_token f found ≡ lexed t rest
    → (ds : List ℕ) × (found ≡ split ds rest) × (f ds ≡ t)
as_token_back f None t rest e = cc
as_token_back f (Some (a, b)) t rest e =
    let same = lexed_same (f a) b t rest e in
    (a, ap (λ (xs : List ℕ). split a xs) same.1, same.0)

constant_stands : (cs : List ℕ) (t : Token) (rest : List ℕ) → constant_in cs ≡ lexed t rest → IsToken (36 ∷ cs) t rest
constant_stands cs t rest e = at (identifier_in cs) refl e
  where
    at : (found : Split) → identifier_in cs ≡ found → constant_of found ≡ lexed t rest → IsToken (36 ∷ cs) t rest
    at None f e = cc
    at (Some (name, r)) f e = by (same_name name (codes "true")) (same_name name (codes "false")) (same_name name (codes "null")) refl refl refl e
      where
        i : Identifier cs name r
        i = identifier_stands cs name r f

        by : (a b c : Bool) → same_name name (codes "true") ≡ a → same_name name (codes "false") ≡ b → same_name name (codes "null") ≡ c
            → cond a (lexed True r) (cond b (lexed False r) (cond c (lexed Null r) None)) ≡ lexed t rest → IsToken (36 ∷ cs) t rest
        by true b c x y z e =
            let same = lexed_same True r t rest e in
            subst (λ (q : Token). IsToken (36 ∷ cs) q rest) same.0 (subst (λ (xs : List ℕ). IsToken (36 ∷ cs) True xs) same.1 (true_constant cs name r i (named_same name (codes "true") x)))
        by false true c x y z e =
            let same = lexed_same False r t rest e in
            subst (λ (q : Token). IsToken (36 ∷ cs) q rest) same.0 (subst (λ (xs : List ℕ). IsToken (36 ∷ cs) False xs) same.1 (false_constant cs name r i (named_same name (codes "false") y)))
        by false false true x y z e =
            let same = lexed_same Null r t rest e in
            subst (λ (q : Token). IsToken (36 ∷ cs) q rest) same.0 (subst (λ (xs : List ℕ). IsToken (36 ∷ cs) Null xs) same.1 (null_constant cs name r i (named_same name (codes "null") z)))
        by false false false x y z e = cc

integer_stands : (b : Bool) (cs : List ℕ) (t : Token) (rest : List ℕ) → integer_in b cs ≡ lexed t rest
    → (n : ℕ) × (ds : List ℕ) × Magnitude cs n rest × Stops is_next rest × (n ≡ digits_value 10 ds) × (Integer (signed b ds) ≡ t)
integer_stands b cs t rest e =
    let a = as_token_back (λ ds. Integer (signed b ds)) (digits_in cs) t rest e in
    let m = magnitude_stands cs a.0 rest a.1 in
    (digits_value 10 a.0, a.0, m.0, m.1, refl, a.2)

-- a mark found
mark_stands : (c d : ℕ) (cs : List ℕ) (m t : Token) (rest : List ℕ) → (c == d) ≡ true → IsToken (d ∷ cs) m cs → lexed m cs ≡ lexed t rest → IsToken (c ∷ cs) t rest
mark_stands c d cs m t rest is stands e =
    let same = lexed_same m cs t rest e in
    subst (λ (x : ℕ). IsToken (x ∷ cs) t rest) (sym (equal_to c d is))
    (subst (λ (q : Token). IsToken (d ∷ cs) q rest) same.0 (subst (λ (xs : List ℕ). IsToken (d ∷ cs) m xs) same.1 stands))

moved : (c d : ℕ) (cs : List ℕ) (t : Token) (rest : List ℕ) → (c == d) ≡ true → IsToken (d ∷ cs) t rest → IsToken (c ∷ cs) t rest
moved c d cs t rest is stands = subst (λ (x : ℕ). IsToken (x ∷ cs) t rest) (sym (equal_to c d is)) stands

array_stands : (cs : List ℕ) (t : Token) (rest : List ℕ) → array_begin_in cs ≡ lexed t rest → IsToken (64 ∷ cs) t rest
array_stands [] t rest e = cc
array_stands (c ∷ cs) t rest e = by (c == 40) refl e
  where
    by : (b : Bool) → (c == 40) ≡ b → cond b (lexed ArrayBegin cs) None ≡ lexed t rest → IsToken (64 ∷ c ∷ cs) t rest
    by false f e = cc
    by true f e =
        let same = lexed_same ArrayBegin cs t rest e in
        subst (λ (x : ℕ). IsToken (64 ∷ x ∷ cs) t rest) (sym (equal_to c 40 f))
        (subst (λ (q : Token). IsToken (64 ∷ 40 ∷ cs) q rest) same.0 (subst (λ (xs : List ℕ). IsToken (64 ∷ 40 ∷ cs) ArrayBegin xs) same.1 (array_begin_mark cs)))

lead_stands : (c : ℕ) (cs : List ℕ) (t : Token) (rest : List ℕ) → lead c cs ≡ lexed t rest → IsToken (c ∷ cs) t rest
lead_stands c cs t rest e = by (digit_of 10 c) e
  where
    by : (b : Bool) → cond b (integer_in false (c ∷ cs)) (as_token Word (identifier_in (c ∷ cs))) ≡ lexed t rest → IsToken (c ∷ cs) t rest
    by true e =
        let i = integer_stands false (c ∷ cs) t rest e in
        subst (λ (q : Token). IsToken (c ∷ cs) q rest) (ap (λ (x : ℕ). Integer (pos x)) i.4 ∙ i.5) (unsigned (c ∷ cs) i.0 rest i.2 i.3)
    by false e =
        let a = as_token_back Word (identifier_in (c ∷ cs)) t rest e in
        subst (λ (q : Token). IsToken (c ∷ cs) q rest) a.2 (word (c ∷ cs) a.0 rest (identifier_stands (c ∷ cs) a.0 rest a.1))

pub token_stands : (cs : List ℕ) (t : Token) (rest : List ℕ) → first_token cs ≡ lexed t rest → IsToken cs t rest
token_stands [] t rest e = cc
token_stands (c ∷ cs) t rest e = at_left (c == 123) refl e
  where
    at_minus : (b : Bool) → (c == 45) ≡ b → cond b (integer_in true cs) (lead c cs) ≡ lexed t rest → IsToken (c ∷ cs) t rest
    at_minus true f e =
        let i = integer_stands true cs t rest e in
        moved c 45 cs t rest f (subst (λ (q : Token). IsToken (45 ∷ cs) q rest) (ap (λ (x : ℕ). Integer (neg_ℤ (pos x))) i.4 ∙ i.5) (negative cs i.0 rest i.2 i.3))
    at_minus false f e = lead_stands c cs t rest e

    at_dollar : (b : Bool) → (c == 36) ≡ b → cond b (constant_in cs) (cond (c == 45) (integer_in true cs) (lead c cs)) ≡ lexed t rest → IsToken (c ∷ cs) t rest
    at_dollar true f e = moved c 36 cs t rest f (constant_stands cs t rest e)
    at_dollar false f e = at_minus (c == 45) refl e

    at_quote : (b : Bool) → (c == 34) ≡ b
        → cond b (as_token Text (quoted_in cs)) (cond (c == 36) (constant_in cs) (cond (c == 45) (integer_in true cs) (lead c cs))) ≡ lexed t rest → IsToken (c ∷ cs) t rest
    at_quote true f e =
        let a = as_token_back Text (quoted_in cs) t rest e in
        moved c 34 cs t rest f (subst (λ (q : Token). IsToken (34 ∷ cs) q rest) a.2 (quoted cs a.0 rest (quoted_stands cs a.0 rest a.1)))
    at_quote false f e = at_dollar (c == 36) refl e

    at_apostrophe : (b : Bool) → (c == 39) ≡ b
        → cond b (as_token Text (verbatim_in cs)) (cond (c == 34) (as_token Text (quoted_in cs)) (cond (c == 36) (constant_in cs) (cond (c == 45) (integer_in true cs) (lead c cs)))) ≡ lexed t rest
        → IsToken (c ∷ cs) t rest
    at_apostrophe true f e =
        let a = as_token_back Text (verbatim_in cs) t rest e in
        moved c 39 cs t rest f (subst (λ (q : Token). IsToken (39 ∷ cs) q rest) a.2 (verbatim cs a.0 rest (verbatim_stands cs a.0 rest a.1)))
    at_apostrophe false f e = at_quote (c == 34) refl e

    at_at : (b : Bool) → (c == 64) ≡ b
        → cond b (array_begin_in cs) (cond (c == 39) (as_token Text (verbatim_in cs)) (cond (c == 34) (as_token Text (quoted_in cs)) (cond (c == 36) (constant_in cs) (cond (c == 45) (integer_in true cs) (lead c cs))))) ≡ lexed t rest
        → IsToken (c ∷ cs) t rest
    at_at true f e = moved c 64 cs t rest f (array_stands cs t rest e)
    at_at false f e = at_apostrophe (c == 39) refl e

    at_shut : (b : Bool) → (c == 41) ≡ b
        → cond b (lexed ArrayEnd cs) (cond (c == 64) (array_begin_in cs) (cond (c == 39) (as_token Text (verbatim_in cs)) (cond (c == 34) (as_token Text (quoted_in cs)) (cond (c == 36) (constant_in cs) (cond (c == 45) (integer_in true cs) (lead c cs)))))) ≡ lexed t rest
        → IsToken (c ∷ cs) t rest
    at_shut true f e = mark_stands c 41 cs ArrayEnd t rest f (array_end_mark cs) e
    at_shut false f e = at_at (c == 64) refl e

    at_comma : (b : Bool) → (c == 44) ≡ b
        → cond b (lexed Comma cs) (cond (c == 41) (lexed ArrayEnd cs) (cond (c == 64) (array_begin_in cs) (cond (c == 39) (as_token Text (verbatim_in cs)) (cond (c == 34) (as_token Text (quoted_in cs)) (cond (c == 36) (constant_in cs) (cond (c == 45) (integer_in true cs) (lead c cs))))))) ≡ lexed t rest
        → IsToken (c ∷ cs) t rest
    at_comma true f e = mark_stands c 44 cs Comma t rest f (comma_mark cs) e
    at_comma false f e = at_shut (c == 41) refl e

    at_semicolon : (b : Bool) → (c == 59) ≡ b
        → cond b (lexed Semicolon cs) (cond (c == 44) (lexed Comma cs) (cond (c == 41) (lexed ArrayEnd cs) (cond (c == 64) (array_begin_in cs) (cond (c == 39) (as_token Text (verbatim_in cs)) (cond (c == 34) (as_token Text (quoted_in cs)) (cond (c == 36) (constant_in cs) (cond (c == 45) (integer_in true cs) (lead c cs)))))))) ≡ lexed t rest
        → IsToken (c ∷ cs) t rest
    at_semicolon true f e = mark_stands c 59 cs Semicolon t rest f (semicolon_mark cs) e
    at_semicolon false f e = at_comma (c == 44) refl e

    at_equals : (b : Bool) → (c == 61) ≡ b
        → cond b (lexed EqualsSign cs) (cond (c == 59) (lexed Semicolon cs) (cond (c == 44) (lexed Comma cs) (cond (c == 41) (lexed ArrayEnd cs) (cond (c == 64) (array_begin_in cs) (cond (c == 39) (as_token Text (verbatim_in cs)) (cond (c == 34) (as_token Text (quoted_in cs)) (cond (c == 36) (constant_in cs) (cond (c == 45) (integer_in true cs) (lead c cs))))))))) ≡ lexed t rest
        → IsToken (c ∷ cs) t rest
    at_equals true f e = mark_stands c 61 cs EqualsSign t rest f (equals_mark cs) e
    at_equals false f e = at_semicolon (c == 59) refl e

    at_right : (b : Bool) → (c == 125) ≡ b
        → cond b (lexed RightBrace cs) (cond (c == 61) (lexed EqualsSign cs) (cond (c == 59) (lexed Semicolon cs) (cond (c == 44) (lexed Comma cs) (cond (c == 41) (lexed ArrayEnd cs) (cond (c == 64) (array_begin_in cs) (cond (c == 39) (as_token Text (verbatim_in cs)) (cond (c == 34) (as_token Text (quoted_in cs)) (cond (c == 36) (constant_in cs) (cond (c == 45) (integer_in true cs) (lead c cs)))))))))) ≡ lexed t rest
        → IsToken (c ∷ cs) t rest
    at_right true f e = mark_stands c 125 cs RightBrace t rest f (right_brace_mark cs) e
    at_right false f e = at_equals (c == 61) refl e

    at_left : (b : Bool) → (c == 123) ≡ b
        → cond b (lexed LeftBrace cs) (cond (c == 125) (lexed RightBrace cs) (cond (c == 61) (lexed EqualsSign cs) (cond (c == 59) (lexed Semicolon cs) (cond (c == 44) (lexed Comma cs) (cond (c == 41) (lexed ArrayEnd cs) (cond (c == 64) (array_begin_in cs) (cond (c == 39) (as_token Text (verbatim_in cs)) (cond (c == 34) (as_token Text (quoted_in cs)) (cond (c == 36) (constant_in cs) (cond (c == 45) (integer_in true cs) (lead c cs))))))))))) ≡ lexed t rest
        → IsToken (c ∷ cs) t rest
    at_left true f e = mark_stands c 123 cs LeftBrace t rest f (left_brace_mark cs) e
    at_left false f e = at_right (c == 125) refl e
