-- What code reads of a token, as far as it has come.
use Rattle.std.proofs.Common.{◌≡◌, ◌<◌, ◌≤◌, ◌+◌, ◌*◌, ℕ, Bool, true, false, ◌||◌, List, [], ◌∷◌, ◌++◌, refl, sym, ap, ap₂, subst, ◌∙◌, append_assoc, append-nil, Option, Some, None, cond, arith, length}
use Rattle.std.specs.Prelude.{◌==◌}
use Rattle.std.specs.Char.{digit_value}
use Rattle.std.specs.Str.Parse.{digits_value_after}
use Rattle.std.proofs.lemmas.Bool.Decides.{nat_tests}
use Rattle.std.proofs.lemmas.List.{append_cancel_right}
use Rattle.mof_values.specs.Ident.{is_first, is_next}
use Rattle.mof_syntax.specs.Characters.{digit_of, Run, stop, more, EndsWith}
use Rattle.mof_syntax.specs.Numerals.{numeral}
use Rattle.mof_syntax.specs.Scanning.{after, stopped, identifier_rest}
use Rattle.mof_syntax.proofs.Numerals.{numeral_digit, numeral_step}
use Rattle.config_script.specs.Digits.{IsPlain}
use Rattle.config_script.specs.Named.{undoubled}
use Rattle.config_script.specs.Tokens.{Text}
use Rattle.config_script.specs.Lexing.{lexed, Split, split, as_token, onto, taken, identifier_in, digits_rest, with_rest, digits_in, apostrophe_rest, from_apostrophe, verbatim_in, quoted_in}
use Rattle.config_script.proofs.Lexed.{runs, split_run, split_same}

-- ---- digits

digit_is : (c : ℕ) → digit_of 10 c ≡ true → 48 + digit_value c ≡ c
digit_is c h = grind (arith, nat_tests)

digit_small : (c : ℕ) → digit_of 10 c ≡ true → digit_value c < 10
digit_small c h = grind (arith, nat_tests)

digit_positive : (c : ℕ) → (c == 48) ≡ false → digit_of 10 c ≡ true → 0 < digit_value c
digit_positive c n h = grind (arith, nat_tests)

numeral_after : (n : ℕ) (cs run rest : List ℕ) → 0 < n → Run (digit_of 10) cs run rest → numeral (digits_value_after 10 n run) ≡ numeral n ++ run
numeral_after n cs run rest some (stop r) = sym (append-nil (numeral n))
numeral_after n cs run rest some (more c us v r e on) =
    let small : digit_value c < 10 = digit_small c e in
    let positive : 0 < n * 10 + digit_value c = omega arith in
    numeral_after (n * 10 + digit_value c) us v r positive on
    ∙ ap (λ (xs : List ℕ). xs ++ v) (numeral_step n (digit_value c) some small ∙ ap (λ (x : ℕ). numeral n ++ x ∷ []) (digit_is c e))
    ∙ append_assoc (numeral n) (c ∷ []) v

plain_digits : (d : ℕ) (cs run rest : List ℕ) → (d == 48) ≡ false → digit_of 10 d ≡ true → Run (digit_of 10) cs run rest → IsPlain (d ∷ run)
plain_digits d cs run rest n e on =
    let first : 0 * 10 + digit_value d ≡ digit_value d = omega arith in
    ap (λ (x : ℕ). numeral (digits_value_after 10 x run)) first
    ∙ numeral_after (digit_value d) cs run rest (digit_positive d n e) on
    ∙ ap (λ (xs : List ℕ). xs ++ run) (numeral_digit (digit_value d) (digit_small d e) ∙ ap (λ (x : ℕ). x ∷ []) (digit_is d e))

stopped_same : (cs rest : List ℕ) → Some rest ≡ stopped cs → rest ≡ cs
stopped_same [] rest e = cc
stopped_same (c ∷ cs) rest e = by (is_next c) e
  where
    by : (b : Bool) → Some rest ≡ cond b None (Some (c ∷ cs)) → rest ≡ c ∷ cs
    by true e = cc
    by false e = cc

-- ---- what stands before a rest

-- the characters before the rest are those that the search gives
pub record Cuts (cs rest : List ℕ) (found : Split) : Type 0 where
  pub front : List ℕ
  pub cut : cs ≡ front ++ rest
  pub is : found ≡ split front rest

pub cut_ends : (cs rest : List ℕ) (found : Split) → Cuts cs rest found → EndsWith cs rest
cut_ends cs rest found c = (c.front, c.cut)

pub cut_same : (cs front rest : List ℕ) (found : Split) → Cuts cs rest found → cs ≡ front ++ rest → split front rest ≡ found
cut_same cs front rest found c e =
    ap (λ (xs : List ℕ). split xs rest) (append_cancel_right front c.front rest (sym e ∙ c.cut)) ∙ sym c.is

some_rest : (a rest : List ℕ) → Some rest ≡ Some a → a ≡ rest
some_rest a rest e = cc

pub identifier_cuts : (cs rest : List ℕ) → Some rest ≡ identifier_rest cs → Cuts cs rest (identifier_in cs)
identifier_cuts [] rest e = cc
identifier_cuts (c ∷ cs) rest e = by (is_first c) e
  where
    by : (b : Bool) → Some rest ≡ cond b (Some (after is_next cs)) None → Cuts (c ∷ cs) rest (cond b (split (c ∷ taken is_next cs) (after is_next cs)) None)
    by false e = cc
    by true e =
        let same : after is_next cs ≡ rest = some_rest (after is_next cs) rest e in
        record {
          front = c ∷ taken is_next cs;
          cut = ap (λ (xs : List ℕ). c ∷ xs) (split_run is_next cs ∙ ap (λ (xs : List ℕ). taken is_next cs ++ xs) same);
          is = ap (λ (xs : List ℕ). split (c ∷ taken is_next cs) xs) same;
        }

pub no_identifier : (cs : List ℕ) → None ≡ identifier_rest cs → identifier_in cs ≡ None
no_identifier [] e = refl
no_identifier (c ∷ cs) e = by (is_first c) e
  where
    by : (b : Bool) → None ≡ cond b (Some (after is_next cs)) None → cond b (split (c ∷ taken is_next cs) (after is_next cs)) None ≡ None
    by true e = cc
    by false e = refl

pub digits_cuts : (cs rest : List ℕ) → Some rest ≡ digits_rest cs → Cuts cs rest (digits_in cs)
digits_cuts [] rest e = cc
digits_cuts (c ∷ cs) rest e = by (c == 48) (digit_of 10 c) refl e
  where
    by : (a b : Bool) → (c == 48) ≡ a → Some rest ≡ cond a (stopped cs) (cond b (stopped (after (digit_of 10) cs)) None)
        → Cuts (c ∷ cs) rest (cond a (with_rest (48 ∷ []) (stopped cs)) (cond b (with_rest (c ∷ taken (digit_of 10) cs) (stopped (after (digit_of 10) cs))) None))
    by true b f e =
        let is : c ≡ 48 = grind (arith, nat_tests) in
        record { front = 48 ∷ []; cut = ap₂ (λ (x : ℕ) (xs : List ℕ). x ∷ xs) is (sym (stopped_same cs rest e)); is = ap (with_rest (48 ∷ [])) (sym e) }
    by false false f e = cc
    by false true f e =
        record {
          front = c ∷ taken (digit_of 10) cs;
          cut = ap (λ (xs : List ℕ). c ∷ xs) (split_run (digit_of 10) cs ∙ ap (λ (xs : List ℕ). taken (digit_of 10) cs ++ xs) (sym (stopped_same (after (digit_of 10) cs) rest e)));
          is = ap (with_rest (c ∷ taken (digit_of 10) cs)) (sym e);
        }

pub digits_plain : (cs ds rest : List ℕ) → digits_in cs ≡ split ds rest → IsPlain ds
digits_plain [] ds rest e = cc
digits_plain (c ∷ cs) ds rest e = by (c == 48) (digit_of 10 c) refl refl e
  where
    front_is : (front : List ℕ) (o : Option (List ℕ)) → with_rest front o ≡ split ds rest → front ≡ ds
    front_is front None e = cc
    front_is front (Some r) e = (split_same front r ds rest e).0

    by : (a b : Bool) → (c == 48) ≡ a → digit_of 10 c ≡ b
        → cond a (with_rest (48 ∷ []) (stopped cs)) (cond b (with_rest (c ∷ taken (digit_of 10) cs) (stopped (after (digit_of 10) cs))) None) ≡ split ds rest → IsPlain ds
    by true b f g e = subst IsPlain (front_is (48 ∷ []) (stopped cs) e) refl
    by false false f g e = cc
    by false true f g e =
        subst IsPlain (front_is (c ∷ taken (digit_of 10) cs) (stopped (after (digit_of 10) cs)) e)
        (plain_digits c cs (taken (digit_of 10) cs) (after (digit_of 10) cs) f g (runs (digit_of 10) cs).0)

pub cut_plain : (cs front rest : List ℕ) → Cuts cs rest (digits_in cs) → cs ≡ front ++ rest → IsPlain front
cut_plain cs front rest c e = digits_plain cs front rest (sym (cut_same cs front rest (digits_in cs) c e))

-- ---- texts

onto_nothing : (found : Split) → onto [] found ≡ found
onto_nothing None = refl
onto_nothing (Some x) = refl

onto_twice : (a b : List ℕ) (found : Split) → onto a (onto b found) ≡ onto (a ++ b) found
onto_twice a b None = refl
onto_twice a b (Some x) = ap (λ (xs : List ℕ). split xs x.1) (sym (append_assoc a b x.0))

-- between apostrophes
pub record VerbatimSoFar (text left : List ℕ) : Type 0 where
  pub front : List ℕ
  pub split : text ≡ front ++ left
  pub whole : (cs : List ℕ) → undoubled false (front ++ cs) ≡ undoubled false front ++ undoubled false cs
  pub found : verbatim_in text ≡ onto (undoubled false front) (verbatim_in left)

verbatim_start : (text : List ℕ) → VerbatimSoFar text text
verbatim_start text = record { front = []; split = refl; whole = λ cs. refl; found = sym (onto_nothing (verbatim_in text)) }

verbatim_plain : (c : ℕ) (rest : List ℕ) → (c == 39) ≡ false → verbatim_in (c ∷ rest) ≡ onto (c ∷ []) (verbatim_in rest)
verbatim_plain c [] e = ap (λ (b : Bool). cond b (split [] []) None) e
verbatim_plain c (d ∷ rest) e = ap (λ (b : Bool). cond b (cond (d == 39) (onto (39 ∷ []) (verbatim_in rest)) (split [] (d ∷ rest))) (onto (c ∷ []) (verbatim_in (d ∷ rest)))) e

verbatim_on : (text left rest : List ℕ) (c : ℕ) → VerbatimSoFar text left → left ≡ c ∷ rest → (c == 39) ≡ false → VerbatimSoFar text rest
verbatim_on text left rest c s is e =
    let one : (cs : List ℕ) → undoubled false (c ∷ cs) ≡ c ∷ undoubled false cs = λ cs. ap (λ (b : Bool). c ∷ undoubled b cs) e in
    record {
      front = s.front ++ c ∷ [];
      split = s.split ∙ ap (λ (xs : List ℕ). s.front ++ xs) is ∙ sym (append_assoc s.front (c ∷ []) rest);
      whole = λ cs. ap (undoubled false) (append_assoc s.front (c ∷ []) cs) ∙ s.whole (c ∷ cs) ∙ ap (λ (xs : List ℕ). undoubled false s.front ++ xs) (one cs)
          ∙ sym (append_assoc (undoubled false s.front) (c ∷ []) (undoubled false cs))
          ∙ ap (λ (xs : List ℕ). xs ++ undoubled false cs) (sym (s.whole (c ∷ []) ∙ ap (λ (xs : List ℕ). undoubled false s.front ++ xs) (one [])));
      found = s.found ∙ ap (λ (xs : List ℕ). onto (undoubled false s.front) (verbatim_in xs)) is
          ∙ ap (onto (undoubled false s.front)) (verbatim_plain c rest e) ∙ onto_twice (undoubled false s.front) (c ∷ []) (verbatim_in rest)
          ∙ ap (λ (xs : List ℕ). onto xs (verbatim_in rest)) (sym (s.whole (c ∷ []) ∙ ap (λ (xs : List ℕ). undoubled false s.front ++ xs) (one [])));
    }

verbatim_twice : (text left rest : List ℕ) → VerbatimSoFar text left → left ≡ 39 ∷ 39 ∷ rest → VerbatimSoFar text rest
verbatim_twice text left rest s is = record {
  front = s.front ++ 39 ∷ 39 ∷ [];
  split = s.split ∙ ap (λ (xs : List ℕ). s.front ++ xs) is ∙ sym (append_assoc s.front (39 ∷ 39 ∷ []) rest);
  whole = λ cs. ap (undoubled false) (append_assoc s.front (39 ∷ 39 ∷ []) cs) ∙ s.whole (39 ∷ 39 ∷ cs)
      ∙ sym (append_assoc (undoubled false s.front) (39 ∷ []) (undoubled false cs))
      ∙ ap (λ (xs : List ℕ). xs ++ undoubled false cs) (sym (s.whole (39 ∷ 39 ∷ [])));
  found = s.found ∙ ap (λ (xs : List ℕ). onto (undoubled false s.front) (verbatim_in xs)) is
      ∙ onto_twice (undoubled false s.front) (39 ∷ []) (verbatim_in rest)
      ∙ ap (λ (xs : List ℕ). onto xs (verbatim_in rest)) (sym (s.whole (39 ∷ 39 ∷ [])));
}

second_there : (rest others : List ℕ) → Some others ≡ apostrophe_rest rest → rest ≡ 39 ∷ others
second_there [] others e = cc
second_there (d ∷ rest) others e = by (d == 39) refl e
  where
    by : (b : Bool) → (d == 39) ≡ b → Some others ≡ cond b (Some rest) None → d ∷ rest ≡ 39 ∷ others
    by false f e = cc
    by true f e =
        let is : d ≡ 39 = grind (arith, nat_tests) in
        let same : rest ≡ others = cc in
        ap₂ (λ (x : ℕ) (xs : List ℕ). x ∷ xs) is same

second_missing : (rest : List ℕ) → None ≡ apostrophe_rest rest → verbatim_in (39 ∷ rest) ≡ split [] rest
second_missing [] e = refl
second_missing (d ∷ rest) e = by (d == 39) e
  where
    by : (b : Bool) → None ≡ cond b (Some rest) None → cond b (onto (39 ∷ []) (verbatim_in rest)) (split [] (d ∷ rest)) ≡ split [] (d ∷ rest)
    by true e = cc
    by false e = refl

-- read up to an apostrophe, or to the end
abbrev pub AtApostrophe : List ℕ → Type 0
AtApostrophe [] = Unit {0}
AtApostrophe (c ∷ cs) = c ≡ 39

pub record VerbatimUpTo (text left : List ℕ) : Type 0 where
  pub so_far : VerbatimSoFar text left
  pub at : AtApostrophe left

quote_there : (left rest : List ℕ) (c : ℕ) → AtApostrophe left → left ≡ c ∷ rest → left ≡ 39 ∷ rest
quote_there [] rest c a is = cc
quote_there (d ∷ ds) rest c a is = cc

verbatim_onward : (text left : List ℕ) → VerbatimSoFar text left → VerbatimUpTo text (from_apostrophe left)
verbatim_onward text [] s = record { so_far = s; at = tt }
verbatim_onward text (c ∷ cs) s = by (c == 39) refl (λ e. verbatim_onward text cs (verbatim_on text (c ∷ cs) cs c s refl e))
  where
    by : (b : Bool) → (c == 39) ≡ b → ((c == 39) ≡ false → VerbatimUpTo text (from_apostrophe cs)) → VerbatimUpTo text (cond b (c ∷ cs) (from_apostrophe cs))
    by true e onward = record { so_far = s; at = grind (arith, nat_tests) }
    by false e onward = onward e

pub verbatim_begins : (text left : List ℕ) → left ≡ from_apostrophe text → VerbatimUpTo text left
verbatim_begins text left e = subst (VerbatimUpTo text) (sym e) (verbatim_onward text text (verbatim_start text))

pub verbatim_doubled : (text left rest others next : List ℕ) (c : ℕ) → VerbatimUpTo text left → left ≡ c ∷ rest → Some others ≡ apostrophe_rest rest
    → next ≡ from_apostrophe others → VerbatimUpTo text next
verbatim_doubled text left rest others next c s is second e =
    let twice : left ≡ 39 ∷ 39 ∷ others = quote_there left rest c s.at is ∙ ap (λ (xs : List ℕ). 39 ∷ xs) (second_there rest others second) in
    subst (VerbatimUpTo text) (sym e) (verbatim_onward text others (verbatim_twice text left others s.so_far twice))

onward_short : (cs : List ℕ) → length (from_apostrophe cs) ≤ length cs
onward_short [] = omega arith
onward_short (c ∷ cs) = by (c == 39) (onward_short cs)
  where
    by : (b : Bool) → length (from_apostrophe cs) ≤ length cs → length (cond b (c ∷ cs) (from_apostrophe cs)) ≤ length (c ∷ cs)
    by true h = omega arith
    by false h = omega arith

pub verbatim_shorter : (left rest others next : List ℕ) (c : ℕ) → left ≡ c ∷ rest → Some others ≡ apostrophe_rest rest → next ≡ from_apostrophe others → length next < length left
verbatim_shorter left rest others next c is second e =
    omega (arith, ap length is, ap length (second_there rest others second), ap length e, onward_short others)

-- the text up to its end is the front
pub verbatim_found : (text left rest raw : List ℕ) (c : ℕ) → VerbatimUpTo text left → left ≡ c ∷ rest → None ≡ apostrophe_rest rest → text ≡ raw ++ left
    → lexed (Text (undoubled false raw)) rest ≡ as_token Text (verbatim_in text)
verbatim_found text left rest raw c s is none e =
    let front = s.so_far.front in
    let same : raw ≡ front = append_cancel_right raw front left (sym e ∙ s.so_far.split) in
    ap (λ (xs : List ℕ). lexed (Text (undoubled false xs)) rest) same
    ∙ ap (λ (xs : List ℕ). lexed (Text xs) rest) (sym (append-nil (undoubled false front)))
    ∙ sym (ap (as_token Text) (s.so_far.found ∙ ap (λ (xs : List ℕ). onto (undoubled false front) (verbatim_in xs)) (quote_there left rest c s.at is)
    ∙ ap (onto (undoubled false front)) (second_missing rest none)))

pub verbatim_ends : (text left : List ℕ) → VerbatimUpTo text left → EndsWith text left
verbatim_ends text left s = (s.so_far.front, s.so_far.split)

pub verbatim_none : (text left : List ℕ) → VerbatimUpTo text left → left ≡ [] → None ≡ as_token Text (verbatim_in text)
verbatim_none text left s is =
    sym (ap (as_token Text) (s.so_far.found ∙ ap (λ (xs : List ℕ). onto (undoubled false s.so_far.front) (verbatim_in xs)) is))

-- between quotes
pub record QuotedSoFar (text left : List ℕ) : Type 0 where
  pub front : List ℕ
  pub split : text ≡ front ++ left
  pub found : quoted_in text ≡ onto front (quoted_in left)

pub quoted_start : (text : List ℕ) → QuotedSoFar text text
quoted_start text = record { front = []; split = refl; found = sym (onto_nothing (quoted_in text)) }

pub quoted_on : (text left rest : List ℕ) (c : ℕ) → QuotedSoFar text left → left ≡ c ∷ rest → (c == 34) ≡ false → (c == 36) ≡ false → (c == 96) ≡ false → QuotedSoFar text rest
quoted_on text left rest c s is a b d = record {
  front = s.front ++ c ∷ [];
  split = s.split ∙ ap (λ (xs : List ℕ). s.front ++ xs) is ∙ sym (append_assoc s.front (c ∷ []) rest);
  found = s.found ∙ ap (λ (xs : List ℕ). onto s.front (quoted_in xs)) is
      ∙ ap (onto s.front) (λ k. cond (a k) (split [] rest) (cond (b k || d k) None (onto (c ∷ []) (quoted_in rest))))
      ∙ onto_twice s.front (c ∷ []) (quoted_in rest);
}

pub quoted_found : (text left rest raw : List ℕ) → QuotedSoFar text left → left ≡ 34 ∷ rest → text ≡ raw ++ left → lexed (Text raw) rest ≡ as_token Text (quoted_in text)
quoted_found text left rest raw s is e =
    ap (λ (xs : List ℕ). lexed (Text xs) rest) (append_cancel_right raw s.front left (sym e ∙ s.split) ∙ sym (append-nil s.front))
    ∙ sym (ap (as_token Text) (s.found ∙ ap (λ (xs : List ℕ). onto s.front (quoted_in xs)) is))

pub quoted_ends : (text left : List ℕ) → QuotedSoFar text left → EndsWith text left
quoted_ends text left s = (s.front, s.split)

pub quoted_none : (text left : List ℕ) → QuotedSoFar text left → quoted_in left ≡ None → None ≡ as_token Text (quoted_in text)
quoted_none text left s is = sym (ap (as_token Text) (s.found ∙ ap (onto s.front) is))
