-- What the grammar allows, the machine takes.
use Rattle.std.proofs.Common.{◌≡◌, inl, inr, ℕ, zero, suc, ◌+◌, ◌*◌, ◌<◌, true, false, List, [], ◌∷◌, Option, Some, map, drop, refl, sym, ◌∙◌, ap, subst, arith}
use Rattle.std.specs.Prelude.{◌==◌, ℤ, pos, neg_ℤ}
use Rattle.std.proofs.lemmas.Bool.{eq-eqb, eqb-true}
use Rattle.std.proofs.lemmas.Bool.Decides.{nat_tests}
use Rattle.std.proofs.lemmas.List.{drop-drop}
use Rattle.std.specs.Char.{digit_value, to_ascii_lowercase}
use Rattle.mof_values.specs.Ident.{is_first, is_next}
use Rattle.mof_syntax.specs.Characters.{is_blank, digit_of, is_b, Stops, Run, stop, more, is_sign}
use Rattle.mof_syntax.specs.Separators.{LineComment, at_end, at_feed, over, NoEnd, BlockComment, shut, inside, Separator, blank, line, block}
use Rattle.mof_syntax.specs.Strings.{is_surrogate, HexDigits, full, ended, digit, Escape, short, hexadecimal, Quoted, closed, plain, escaped}
use Rattle.mof_syntax.specs.Integers.{Magnitude, decimal_value, octal_value, hex_value, binary_value, IntegerValue, unsigned, plus, minus}
use Rattle.mof_syntax.specs.Tokens.{Lexeme, Word, AliasName, Literal, Number, LeftBrace, RightBrace, EqualsSign, Semicolon, Comma, Identifier, identifier, IsToken, word, alias, literal, integer, left_brace_mark, right_brace_mark, equals_mark, semicolon_mark, comma_mark, Lexes, end, separator, token}
use Rattle.mof_codec.specs.declared.machine.state.Keyword.{Keyword}
use Rattle.mof_codec.specs.declared.machine.state.Keyword.TheVariants as keywords
use Rattle.mof_codec.specs.declared.machine.state.Place.{Place}
use Rattle.mof_codec.specs.declared.machine.state.Place.TheVariants.{Start, AfterInstance, AfterOf, AfterClass, AfterAs, AfterAlias, Body, AfterBody, AfterName, AfterEquals, AfterStrings, AfterValue, InArray, AfterComma, AfterElementStrings, AfterElement}
use Rattle.mof_codec.specs.declared.machine.state.Numeral.{Numeral}
use Rattle.mof_codec.specs.declared.machine.state.Numeral.TheVariants as numerals
use Rattle.mof_codec.specs.declared.machine.characters.Kind.TheVariants as kinds
use Rattle.mof_codec.specs.declared.machine.state.Half.{Half}
use Rattle.mof_codec.specs.declared.machine.state.Half.TheVariants as halves
use Rattle.mof_codec.specs.declared.machine.state.State.{State}
use Rattle.mof_codec.specs.declared.machine.state.Event.{Event}
use Rattle.mof_codec.specs.declared.machine.state.Event.TheVariants as events
use Rattle.mof_codec.specs.Machine.{letters, is_no_char, go, begin, keyed, number_begun, value_word, is_whole, opened}
use Rattle.mof_syntax.proofs.Scans.{test_or}
use Rattle.mof_codec.proofs.Goes.{IsKey, IsWordValue}
use Rattle.mof_codec.proofs.Walks.{Walks}
use Rattle.mof_codec.specs.Walked.{tally}
use Rattle.mof_codec.proofs.Runs.{Next, RunsTo, Ends, Runs, After, not_next, octal_no_x, bit_no_x, b_no_x, b_no_bit, b_no_octal, b_no_digit, bit_digit, digit_no_first, sign_no_first, sign_no_digit, short_no_x}

module _ (E : List Event → Type 0) (p : Place) (acc : List Event) where
  -- words

  pub name_done : (rest : List ℕ) → Stops is_next rest → Runs E rest halves.Gap p acc → Runs E rest halves.Name p acc
  name_done [] s g = g
  name_done (c ∷ cs) s g = rw s g

  pub name_on : (cs w rest : List ℕ) → Run is_next cs w rest → Stops is_next rest → Runs E rest halves.Gap p acc → Runs E cs halves.Name p acc
  name_on cs w rest (stop r) s g = name_done r s g
  name_on cs w rest (more c us v r e run) s g = rw e (name_on us v r run s g)

  -- numbers

  number_done : (f : Numeral) (rest : List ℕ) → is_whole (halves.Integer f) ≡ true → Stops is_next rest → Runs E rest halves.Gap p acc → Runs E rest (halves.Integer f) p acc
  number_done f [] e s g = ((g.0.0, e), g.1)
  number_done numerals.Zero (c ∷ cs) e s g = let n = not_next c s in rw (s, n.no_x, n.no_bit, n.no_octal, n.no_b) g
  number_done numerals.ZeroBits (c ∷ cs) e s g = let n = not_next c s in rw (s, n.no_bit, n.no_octal, n.no_b) g
  number_done numerals.Octal (c ∷ cs) e s g = let n = not_next c s in rw (s, n.no_octal) g
  number_done numerals.Bits (c ∷ cs) e s g = let n = not_next c s in rw (s, n.no_bit, n.no_digit, n.no_b) g
  number_done numerals.Decimal (c ∷ cs) e s g = let n = not_next c s in rw (s, n.no_digit) g
  number_done numerals.Hexadecimal (c ∷ cs) e s g = let n = not_next c s in rw (s, n.no_hex) g
  number_done numerals.Binary (c ∷ cs) e s g = rw s g
  number_done numerals.Sign (c ∷ cs) e s g = absurd cc
  number_done numerals.Prefix (c ∷ cs) e s g = absurd cc

  -- literals

  abbrev Mid : ℕ → ℕ → Type 0
  Mid zero v = v < 65536
  Mid (suc n) v = v < 55296

  abbrev Safe : ℕ → ℕ → Type 0
  Safe zero v = Unit {0}
  Safe (suc n) v = (d : ℕ) → d < 16 → Mid n (v * 16 + d) × Safe n (v * 16 + d)

  hex_small : (d : ℕ) → digit_of 16 d ≡ true → digit_value d < 16
  hex_small d h = grind (arith, nat_tests)

  small_safe : (v : ℕ) → v < 55296 → is_no_char v ≡ false
  small_safe v h = grind (arith, nat_tests)

  end_safe : (v : ℕ) → is_surrogate v ≡ false → v < 65536 → is_no_char v ≡ false
  end_safe v e h = grind (arith, nat_tests)

  three_safe : (v : ℕ) → v < 16 → Safe 3 v
  three_safe v h = λ a la. (omega arith, λ b lb. (omega arith, λ c lc. (omega arith, tt)))

  last_safe : (n v w : ℕ) (cs after : List ℕ) → HexDigits n v cs w after → Mid n v → is_surrogate w ≡ false → is_no_char v ≡ false
  last_safe zero v w cs after (full u r) m ok = end_safe u ok m
  last_safe zero v w cs after (ended n u r s) m ok = end_safe u ok m
  last_safe (suc n) v w cs after h m ok = small_safe v m

  text_after : (n v : ℕ) (rest : List ℕ) → Stops (digit_of 16) rest → Runs E rest halves.Literal p acc → Runs E rest (halves.Digits n v) p acc
  text_after n v [] s g = g
  text_after zero v (c ∷ cs) s g = g
  text_after (suc n) v (c ∷ cs) s g = rw s g

  digits_on : (n v w : ℕ) (cs after : List ℕ) → HexDigits n v cs w after → is_surrogate w ≡ false → Safe n v → Runs E after halves.Literal p acc → Runs E cs (halves.Digits n v) p acc
  digits_on n v w cs after (full u []) ok safe g = g
  digits_on n v w cs after (full u (c ∷ r)) ok safe g = g
  digits_on n v w cs after (ended m u r s) ok safe g = text_after m u r s g
  digits_on n v w cs after (digit m u d x us r e h) ok safe g =
      let now = safe (digit_value d) (hex_small d e) in
      rw (e, last_safe m (u * 16 + digit_value d) x us r h now.0 ok) (digits_on m (u * 16 + digit_value d) x us r h ok now.1 g)

  escape_on : (cs : List ℕ) (value : ℕ) (rest : List ℕ) → Escape cs value rest → Runs E rest halves.Literal p acc → Runs E cs halves.Escape p acc
  escape_on cs value rest (short e v r is) g = rw is g
  escape_on cs value rest (hexadecimal x d v us r isx isd hs ok) g = rw (short_no_x x isx, isx, isd) (digits_on 3 (digit_value d) v us r hs ok (three_safe (digit_value d) (hex_small d isd)) g)

  pub quoted_on : (cs text rest : List ℕ) → Quoted cs text rest → Runs E rest halves.Gap p acc → Runs E cs halves.Literal p acc
  quoted_on cs text rest (closed r) g = g
  quoted_on cs text rest (plain c us t r no_quote no_escape q) g = rw (no_quote, no_escape) (quoted_on us t r q g)
  quoted_on cs text rest (escaped value us after t r e q) g = escape_on us value after e (quoted_on after t r q g)

  -- comments

  pub line_on : (cs rest : List ℕ) → LineComment cs rest → Runs E rest halves.Gap p acc → Runs E cs halves.Line p acc
  unfolding begin
  line_on cs rest at_end g = ((g.0.0, refl), g.1)
  line_on cs rest (at_feed r) g = g
  line_on cs rest (over c us r e l) g = rw e (line_on us r l g)

  star_on : (cs : List ℕ) → NoEnd 42 cs → Runs E cs halves.Block p acc → Runs E cs halves.Star p acc
  star_on [] apart g = absurd (ff_tt g.0.1)
    where
      ff_tt : false ≡ true → ⊥
      ff_tt e = cc
  star_on (d ∷ cs) apart g = rw apart g

  pub block_on : (cs rest : List ℕ) → BlockComment cs rest → Runs E rest halves.Gap p acc → Runs E cs halves.Block p acc
  block_on cs rest (shut r) g = g
  block_on cs rest (inside c us r apart b) g = elim (test_or (c == 42)) [
    | inl is ↦ rw is (star_on us (subst (λ (x : ℕ). NoEnd x us) (eqb-true c 42 is) apart) (block_on us r b g))
    | inr not ↦ rw not (block_on us r b g)
  ]

-- integers

module _ (F : Half → Place → List Event → Type 0) (p : Place) (acc : List Event) (rest : List ℕ) (d : (f : Numeral) → is_whole (halves.Integer f) ≡ true → RunsTo F rest (halves.Integer f) p acc) where
  decimal_on : (cs ds : List ℕ) → Run (digit_of 10) cs ds rest → RunsTo F cs (halves.Integer numerals.Decimal) p acc
  decimal_on cs ds (stop r) = d numerals.Decimal refl
  decimal_on cs ds (more c us v r e run) = rw e (decimal_on us v run)

  bits_decimal_on : (cs ds : List ℕ) → Run (digit_of 10) cs ds rest → RunsTo F cs (halves.Integer numerals.Bits) p acc
  bits_decimal_on cs ds (stop r) = d numerals.Bits refl
  bits_decimal_on cs ds (more c us v r e run) = elim (test_or (digit_of 2 c)) [
    | inl is ↦ rw is (bits_decimal_on us v run)
    | inr not ↦ rw (not, e) (decimal_on us v run)
  ]

  octal_on : (cs ds : List ℕ) → Run (digit_of 8) cs ds rest → RunsTo F cs (halves.Integer numerals.Octal) p acc
  octal_on cs ds (stop r) = d numerals.Octal refl
  octal_on cs ds (more c us v r e run) = rw e (octal_on us v run)

  zero_bits_octal_on : (cs ds : List ℕ) → Run (digit_of 8) cs ds rest → RunsTo F cs (halves.Integer numerals.ZeroBits) p acc
  zero_bits_octal_on cs ds (stop r) = d numerals.ZeroBits refl
  zero_bits_octal_on cs ds (more c us v r e run) = elim (test_or (digit_of 2 c)) [
    | inl is ↦ rw is (zero_bits_octal_on us v run)
    | inr not ↦ rw (not, e) (octal_on us v run)
  ]

  zero_octal_on : (cs ds : List ℕ) → Run (digit_of 8) cs ds rest → RunsTo F cs (halves.Integer numerals.Zero) p acc
  zero_octal_on cs ds (stop r) = d numerals.Zero refl
  zero_octal_on cs ds (more c us v r e run) = elim (test_or (digit_of 2 c)) [
    | inl is ↦ rw (octal_no_x c e, is) (zero_bits_octal_on us v run)
    | inr not ↦ rw (octal_no_x c e, not, e) (octal_on us v run)
  ]

  binary_done : RunsTo F rest (halves.Integer numerals.Binary) p acc
  binary_done = d numerals.Binary refl

  bits_on : (b : ℕ) (cs ds : List ℕ) → Run (digit_of 2) cs ds (b ∷ rest) → is_b b ≡ true → RunsTo F cs (halves.Integer numerals.Bits) p acc
  bits_on b cs ds (stop r) isb = rw (b_no_bit b isb, b_no_digit b isb, isb) binary_done
  bits_on b cs ds (more c us v r e run) isb = rw e (bits_on b us v run isb)

  zero_bits_on : (b : ℕ) (cs ds : List ℕ) → Run (digit_of 2) cs ds (b ∷ rest) → is_b b ≡ true → RunsTo F cs (halves.Integer numerals.ZeroBits) p acc
  zero_bits_on b cs ds (stop r) isb = rw (b_no_bit b isb, b_no_octal b isb, isb) binary_done
  zero_bits_on b cs ds (more c us v r e run) isb = rw e (zero_bits_on b us v run isb)

  zero_on : (b : ℕ) (cs ds : List ℕ) → Run (digit_of 2) cs ds (b ∷ rest) → is_b b ≡ true → RunsTo F cs (halves.Integer numerals.Zero) p acc
  zero_on b cs ds (stop r) isb = rw (b_no_x b isb, b_no_bit b isb, b_no_octal b isb, isb) binary_done
  zero_on b cs ds (more c us v r e run) isb = rw (bit_no_x c e, e) (zero_bits_on b us v run isb)

  hexes_on : (cs ds : List ℕ) → Run (digit_of 16) cs ds rest → RunsTo F cs (halves.Integer numerals.Hexadecimal) p acc
  hexes_on cs ds (stop r) = d numerals.Hexadecimal refl
  hexes_on cs ds (more c us v r e run) = rw e (hexes_on us v run)

  -- the first digit, which may begin an element
  abbrev pub NumberFirst : Event → List Event → List ℕ → Type 0
  NumberFirst b before [] = ⊥
  NumberFirst b before (d ∷ us) = Next (number_begun b p d) (λ k q e. RunsTo F us k q (tally e before))

  binary_on : (b : Event) (before : List Event) → tally b before ≡ acc → (m : ℕ) (cs ds : List ℕ) → Run (digit_of 2) cs ds (m ∷ rest) → (d : ℕ) (tail : List ℕ) → ds ≡ d ∷ tail → is_b m ≡ true
      → NumberFirst b before cs
  binary_on b before same m cs ds (stop r) d tail e isb = absurd (differ d tail e)
    where
      differ : (d : ℕ) (tail : List ℕ) → [] ≡ d ∷ tail → ⊥
      differ d tail e = cc
  binary_on b before same m cs ds (more t us v r e run) d tail split isb = elim (test_or (t == 48)) [
    | inl is ↦ rw (is, same) (zero_on m us v run isb)
    | inr not ↦
        let one : (t == 49) ≡ true = bit_one t e not in
        rw (not, one, same) (bits_on m us v run isb)
  ]
    where
      bit_one : (t : ℕ) → digit_of 2 t ≡ true → (t == 48) ≡ false → (t == 49) ≡ true
      bit_one t h n = grind (arith, nat_tests)

  prefix_on : (cs ds : List ℕ) → Run (digit_of 16) cs ds rest → (d : ℕ) (tail : List ℕ) → ds ≡ d ∷ tail → RunsTo F cs (halves.Integer numerals.Prefix) p acc
  prefix_on cs ds (stop r) d tail e = absurd (differ d tail e)
    where
      differ : (d : ℕ) (tail : List ℕ) → [] ≡ d ∷ tail → ⊥
      differ d tail e = cc
  prefix_on cs ds (more c us v r e run) d tail split = rw e (hexes_on us v run)

  pub number_on : (b : Event) (before : List Event) → tally b before ≡ acc → (cs : List ℕ) (n : ℕ) → Magnitude cs n rest → NumberFirst b before cs
  number_on b before same cs n (decimal_value t us ds r no_zero e run) = elim (test_or (t == 49)) [
    | inl is ↦ rw (no_zero, is, same) (bits_decimal_on us ds run)
    | inr not ↦ rw (no_zero, not, e, same) (decimal_on us ds run)
  ]
  number_on b before same cs n (octal_value us ds r run) = rw same (zero_octal_on us ds run)
  number_on b before same cs n (hex_value x t us ds r ex run) = rw (same, ex) (prefix_on us (t ∷ ds) run t ds refl)
  number_on b before same cs n (binary_value t m us ds r run isb) = binary_on b before same m us (t ∷ ds) run t ds refl isb

  pub after_sign : (cs : List ℕ) → NumberFirst events.Quiet acc cs → RunsTo F cs (halves.Integer numerals.Sign) p acc
  after_sign [] h = absurd h
  after_sign (d ∷ us) h = h

-- keywords

pub drop_one : (k : Keyword) (n l : ℕ) (ls : List ℕ) → drop n (letters k) ≡ l ∷ ls → drop (n + 1) (letters k) ≡ ls
drop_one k n l ls e = sym (drop-drop 1 n (letters k)) ∙ ap (λ (x : List ℕ). drop 1 x) e

module _ (E : List Event → Type 0) where
  pub key_step : (b : Event) (k : Keyword) (n l : ℕ) (ls : List ℕ) (p : Place) (acc : List Event) (c : ℕ) (cs : List ℕ) → to_ascii_lowercase c ≡ l → Runs E cs (halves.Key k (n + 1)) p (tally b acc) → Next (keyed (Some l) b k n p c) (After E cs acc)
  key_step b k n l ls p acc c cs e g = rw (eq-eqb (to_ascii_lowercase c) l e) g

  key_done : (k : Keyword) (n : ℕ) (p : Place) (acc : List Event) (rest : List ℕ) → drop n (letters k) ≡ [] → Stops is_next rest → Runs E rest halves.Gap p acc → Runs E rest (halves.Key k n) p acc
  key_done k n p acc [] e s g = ((g.0.0, rw e refl), g.1)
  key_done k n p acc (c ∷ cs) e s g = rw (e, s) g

  key_on : (ls : List ℕ) (k : Keyword) (n : ℕ) (p : Place) (acc : List Event) (cs w rest : List ℕ) → drop n (letters k) ≡ ls → map to_ascii_lowercase w ≡ ls → Run is_next cs w rest → Stops is_next rest → Runs E rest halves.Gap p acc → Runs E cs (halves.Key k n) p acc
  key_on ls k n p acc cs w rest e same (stop r) s g = key_done k n p acc r (e ∙ sym same) s g
  key_on [] k n p acc cs w rest e same (more c us v r ok run) s g = absurd cc
  key_on (l ∷ ls) k n p acc cs w rest e same (more c us v r ok run) s g =
      let head : to_ascii_lowercase c ≡ l = cc in
      let tail : map to_ascii_lowercase v ≡ ls = cc in
      rw e (key_step events.Quiet k n l ls p acc c us head (key_on ls k (n + 1) p acc us v r (drop_one k n l ls e) tail run s g))

  -- a whole keyword from its first letter on
  first_on : (l : ℕ) (ls : List ℕ) (k : Keyword) (p : Place) (acc : List Event) (c : ℕ) (cs w rest : List ℕ) → letters k ≡ l ∷ ls → IsKey k (c ∷ w) → Run is_next cs w rest → Stops is_next rest → Runs E rest halves.Gap p acc
      → (to_ascii_lowercase c ≡ l) × Runs E cs (halves.Key k 1) p acc
  first_on l ls k p acc c cs w rest e same run s g =
      let head : to_ascii_lowercase c ≡ l = cc in
      let tail : map to_ascii_lowercase w ≡ ls = cc in
      (head, key_on ls k 1 p acc cs w rest (drop_one k 0 l ls e) tail run s g)

  keyword_on : (b : Event) (l : ℕ) (ls : List ℕ) (k : Keyword) (p : Place) (acc : List Event) (c : ℕ) (cs w rest : List ℕ) → letters k ≡ l ∷ ls → IsKey k (c ∷ w) → Run is_next cs w rest → Stops is_next rest → Runs E rest halves.Gap p (tally b acc)
      → Next (keyed (Some l) b k 0 p c) (After E cs acc)
  keyword_on b l ls k p acc c cs w rest e same run s g =
      let f = first_on l ls k p (tally b acc) c cs w rest e same run s g in
      key_step b k 0 l ls p acc c cs f.0 f.1

  word_value_on : (b : Event) (p : Place) (acc : List Event) (c : ℕ) (cs w rest : List ℕ) → IsWordValue (c ∷ w) → Run is_next cs w rest → Stops is_next rest → Runs E rest halves.Gap p (tally b acc) → Next (value_word b p c) (After E cs acc)
  word_value_on b p acc c cs w rest is run s g = elim is [
    | inl k ↦ let f = first_on 116 _ keywords.True p (tally b acc) c cs w rest refl k run s g in rw f.0 f.1
    | inr other ↦ elim other [
      | inl k ↦ let f = first_on 102 _ keywords.False p (tally b acc) c cs w rest refl k run s g in rw f.0 f.1
      | inr k ↦ let f = first_on 110 _ keywords.Null p (tally b acc) c cs w rest refl k run s g in rw f.0 f.1
    ]
  ]

pub letter_begins : (p : Place) (c : ℕ) → is_first c ≡ true → begin p c ≡ opened p kinds.Letter c
unfolding begin
letter_begins p c e = rw e refl

digit_begins : (p : Place) (c : ℕ) → digit_of 10 c ≡ true → begin p c ≡ opened p kinds.Digit c
unfolding begin
digit_begins p c e = rw (digit_no_first c e, e) refl

sign_begins : (p : Place) (c : ℕ) → is_sign c ≡ true → begin p c ≡ opened p kinds.Sign c
unfolding begin
sign_begins p c e = rw (sign_no_first c e, sign_no_digit c e, e) refl

blank_is : (c : ℕ) → is_blank c ≡ true → (P : ℕ → Type 0) → P 32 → P 9 → P 10 → P 13 → P c
blank_is c e P space tab feed return = elim (test_or (c == 32)) [
  | inl is ↦ subst P (sym (eqb-true c 32 is)) space
  | inr no_space ↦ elim (test_or (c == 9)) [
    | inl is ↦ subst P (sym (eqb-true c 9 is)) tab
    | inr no_tab ↦ elim (test_or (c == 10)) [
      | inl is ↦ subst P (sym (eqb-true c 10 is)) feed
      | inr no_feed ↦ let last : c ≡ 13 = grind (arith, nat_tests) in subst P (sym last) return
    ]
  ]
]

blank_begins : (p : Place) (c : ℕ) → is_blank c ≡ true → begin p c ≡ go p halves.Gap
unfolding begin
blank_begins p c e = blank_is c e (λ (x : ℕ). begin p x ≡ go p halves.Gap) refl refl refl refl

run_first : (cs ds rest : List ℕ) → Run (digit_of 2) cs ds rest → (d : ℕ) (tail : List ℕ) → ds ≡ d ∷ tail → (c : ℕ) × (us : List ℕ) × (cs ≡ c ∷ us) × (digit_of 10 c ≡ true)
run_first cs ds rest (stop r) d tail e = absurd (differ d tail e)
  where
    differ : (d : ℕ) (tail : List ℕ) → [] ≡ d ∷ tail → ⊥
    differ d tail e = cc
run_first cs ds rest (more c us v r e run) d tail split = (c, us, refl, bit_digit c e)

number_first : (cs : List ℕ) (n : ℕ) (rest : List ℕ) → Magnitude cs n rest → (d : ℕ) × (us : List ℕ) × (cs ≡ d ∷ us) × (digit_of 10 d ≡ true)
number_first cs n rest (decimal_value d us ds r no_zero e run) = (d, us, refl, e)
number_first cs n rest (octal_value us ds r run) = (48, us, refl, refl)
number_first cs n rest (hex_value x d us ds r ex run) = (48, x ∷ us, refl, refl)
number_first cs n rest (binary_value d b us ds r run isb) = run_first us (d ∷ ds) (b ∷ r) run d ds refl

module _ (E : List Event → Type 0) (acc : List Event) (ts : List Lexeme) (rest : List ℕ) (r : (q : Place) (a : List Event) → Walks E q ts a → Runs E rest halves.Gap q a) where
  word_on : (p : Place) (c : ℕ) (cs w : List ℕ) → Run is_next cs w rest → Stops is_next rest → Walks E p (Word (c ∷ w) ∷ ts) acc → Next (opened p kinds.Letter c) (After E cs acc)
  word_on Start c cs w run s g = keyword_on E events.Declaration 105 _ keywords.Instance AfterInstance acc c cs w rest refl g.0 run s (r AfterInstance (events.Declaration ∷ acc) g.1)
  word_on AfterInstance c cs w run s g = keyword_on E events.Quiet 111 _ keywords.Of AfterOf acc c cs w rest refl g.0 run s (r AfterOf acc g.1)
  word_on AfterOf c cs w run s g = name_on E AfterClass acc cs w rest run s (r AfterClass acc g)
  word_on AfterClass c cs w run s g = keyword_on E events.Quiet 97 _ keywords.As AfterAs acc c cs w rest refl g.0 run s (r AfterAs acc g.1)
  word_on Body c cs w run s g = name_on E AfterName (events.Property ∷ acc) cs w rest run s (r AfterName (events.Property ∷ acc) g)
  word_on AfterEquals c cs w run s g = word_value_on E events.Quiet AfterValue acc c cs w rest g.0 run s (r AfterValue acc g.1)
  word_on InArray c cs w run s g = word_value_on E events.Element AfterElement acc c cs w rest g.0 run s (r AfterElement (events.Element ∷ acc) g.1)
  word_on AfterComma c cs w run s g = word_value_on E events.Element AfterElement acc c cs w rest g.0 run s (r AfterElement (events.Element ∷ acc) g.1)
  word_on p c cs w run s g = absurd g

  alias_on : (p : Place) (c : ℕ) (cs w : List ℕ) → is_first c ≡ true → Run is_next cs w rest → Stops is_next rest → Walks E p (AliasName (c ∷ w) ∷ ts) acc → Runs E (36 ∷ c ∷ cs) halves.Gap p acc
  unfolding begin
  alias_on AfterAs c cs w e run s g = rw e (name_on E AfterAlias acc cs w rest run s (r AfterAlias acc g))
  alias_on AfterEquals c cs w e run s g = rw e (name_on E AfterValue acc cs w rest run s (r AfterValue acc g))
  alias_on InArray c cs w e run s g = rw e (name_on E AfterElement (events.Element ∷ acc) cs w rest run s (r AfterElement (events.Element ∷ acc) g))
  alias_on AfterComma c cs w e run s g = rw e (name_on E AfterElement (events.Element ∷ acc) cs w rest run s (r AfterElement (events.Element ∷ acc) g))
  alias_on p c cs w e run s g = absurd g

  literal_on : (p : Place) (cs text : List ℕ) → Quoted cs text rest → Walks E p (Literal text ∷ ts) acc → Runs E (34 ∷ cs) halves.Gap p acc
  unfolding begin
  literal_on AfterEquals cs text q g = quoted_on E AfterStrings acc cs text rest q (r AfterStrings acc g)
  literal_on AfterStrings cs text q g = quoted_on E AfterStrings acc cs text rest q (r AfterStrings acc g)
  literal_on InArray cs text q g = quoted_on E AfterElementStrings (events.Element ∷ acc) cs text rest q (r AfterElementStrings (events.Element ∷ acc) g)
  literal_on AfterComma cs text q g = quoted_on E AfterElementStrings (events.Element ∷ acc) cs text rest q (r AfterElementStrings (events.Element ∷ acc) g)
  literal_on AfterElementStrings cs text q g = quoted_on E AfterElementStrings acc cs text rest q (r AfterElementStrings acc g)
  literal_on p cs text q g = absurd g

  digit_on : (p : Place) (z : ℤ) (n d : ℕ) (cs : List ℕ) → Magnitude (d ∷ cs) n rest → Stops is_next rest → Walks E p (Number z ∷ ts) acc → Next (opened p kinds.Digit d) (After E cs acc)
  digit_on AfterEquals z n d cs h s g = number_on (Ends E) AfterValue acc rest (λ f e. number_done E AfterValue acc f rest e s (r AfterValue acc g)) events.Quiet acc refl (d ∷ cs) n h
  digit_on InArray z n d cs h s g = number_on (Ends E) AfterElement (events.Element ∷ acc) rest (λ f e. number_done E AfterElement (events.Element ∷ acc) f rest e s (r AfterElement (events.Element ∷ acc) g)) events.Element acc refl (d ∷ cs) n h
  digit_on AfterComma z n d cs h s g = number_on (Ends E) AfterElement (events.Element ∷ acc) rest (λ f e. number_done E AfterElement (events.Element ∷ acc) f rest e s (r AfterElement (events.Element ∷ acc) g)) events.Element acc refl (d ∷ cs) n h
  digit_on p z n d cs h s g = absurd g

  -- after a sign
  signed_on : (q : Place) (a : List Event) (n : ℕ) (cs : List ℕ) → Magnitude cs n rest → Stops is_next rest → Runs E rest halves.Gap q a → Runs E cs (halves.Integer numerals.Sign) q a
  signed_on q a n cs h s g =
      after_sign (Ends E) q a rest (λ f e. number_done E q a f rest e s g) cs
      (number_on (Ends E) q a rest (λ f e. number_done E q a f rest e s g) events.Quiet a refl cs n h)

  sign_on : (p : Place) (z : ℤ) (n c : ℕ) (cs : List ℕ) → Magnitude cs n rest → Stops is_next rest → Walks E p (Number z ∷ ts) acc → Next (opened p kinds.Sign c) (After E cs acc)
  sign_on AfterEquals z n c cs h s g = signed_on AfterValue acc n cs h s (r AfterValue acc g)
  sign_on InArray z n c cs h s g = signed_on AfterElement (events.Element ∷ acc) n cs h s (r AfterElement (events.Element ∷ acc) g)
  sign_on AfterComma z n c cs h s g = signed_on AfterElement (events.Element ∷ acc) n cs h s (r AfterElement (events.Element ∷ acc) g)
  sign_on p z n c cs h s g = absurd g

  open_on : (p : Place) → Walks E p (LeftBrace ∷ ts) acc → Runs E (123 ∷ rest) halves.Gap p acc
  unfolding begin
  open_on AfterClass g = r Body acc g
  open_on AfterAlias g = r Body acc g
  open_on AfterEquals g = r InArray acc g
  open_on p g = absurd g

  close_on : (p : Place) → Walks E p (RightBrace ∷ ts) acc → Runs E (125 ∷ rest) halves.Gap p acc
  unfolding begin
  close_on Body g = r AfterBody acc g
  close_on InArray g = r AfterValue acc g
  close_on AfterElementStrings g = r AfterValue acc g
  close_on AfterElement g = r AfterValue acc g
  close_on p g = absurd g

  equals_on : (p : Place) → Walks E p (EqualsSign ∷ ts) acc → Runs E (61 ∷ rest) halves.Gap p acc
  unfolding begin
  equals_on AfterName g = r AfterEquals acc g
  equals_on p g = absurd g

  semicolon_on : (p : Place) → Walks E p (Semicolon ∷ ts) acc → Runs E (59 ∷ rest) halves.Gap p acc
  unfolding begin
  semicolon_on AfterBody g = r Start acc g
  semicolon_on AfterStrings g = r Body acc g
  semicolon_on AfterValue g = r Body acc g
  semicolon_on p g = absurd g

  comma_on : (p : Place) → Walks E p (Comma ∷ ts) acc → Runs E (44 ∷ rest) halves.Gap p acc
  unfolding begin
  comma_on AfterElementStrings g = r AfterComma acc g
  comma_on AfterElement g = r AfterComma acc g
  comma_on p g = absurd g

module _ (E : List Event → Type 0) where
  identifier_on : (p : Place) (acc : List Event) (cs name rest : List ℕ) (ts : List Lexeme) → Identifier cs name rest
      → ((q : Place) (a : List Event) → Walks E q ts a → Runs E rest halves.Gap q a) → Walks E p (Word name ∷ ts) acc → Runs E cs halves.Gap p acc
  identifier_on p acc cs name rest ts (identifier c us w r first run s) rs g =
      subst (λ (x : Option State). Next x (After E us acc)) (sym (letter_begins p c first)) (word_on E acc ts r rs p c us w run s g)

  alias_token_on : (p : Place) (acc : List Event) (cs name rest : List ℕ) (ts : List Lexeme) → Identifier cs name rest
      → ((q : Place) (a : List Event) → Walks E q ts a → Runs E rest halves.Gap q a) → Walks E p (AliasName name ∷ ts) acc → Runs E (36 ∷ cs) halves.Gap p acc
  alias_token_on p acc cs name rest ts (identifier c us w r first run s) rs g = alias_on E acc ts r rs p c us w first run s g

  integer_on : (p : Place) (acc : List Event) (cs : List ℕ) (z : ℤ) (rest : List ℕ) (ts : List Lexeme) → IntegerValue cs z rest → Stops is_next rest
      → ((q : Place) (a : List Event) → Walks E q ts a → Runs E rest halves.Gap q a) → Walks E p (Number z ∷ ts) acc → Runs E cs halves.Gap p acc
  integer_on p acc cs z rest ts (unsigned us n r h) s rs g =
      let f = number_first us n r h in
      subst (λ (x : List ℕ). Runs E x halves.Gap p acc) (sym f.2)
      (subst (λ (x : Option State). Next x (After E f.1 acc)) (sym (digit_begins p f.0 f.3)) (digit_on E acc ts r rs p (pos n) n f.0 f.1 (subst (λ (x : List ℕ). Magnitude x n r) f.2 h) s g))
  integer_on p acc cs z rest ts (plus us n r h) s rs g =
      subst (λ (x : Option State). Next x (After E us acc)) (sym (sign_begins p 43 refl)) (sign_on E acc ts r rs p (pos n) n 43 us h s g)
  integer_on p acc cs z rest ts (minus us n r h) s rs g =
      subst (λ (x : Option State). Next x (After E us acc)) (sym (sign_begins p 45 refl)) (sign_on E acc ts r rs p (neg_ℤ (pos n)) n 45 us h s g)

  token_on : (p : Place) (acc : List Event) (cs : List ℕ) (t : Lexeme) (rest : List ℕ) (ts : List Lexeme) → IsToken cs t rest
      → ((q : Place) (a : List Event) → Walks E q ts a → Runs E rest halves.Gap q a) → Walks E p (t ∷ ts) acc → Runs E cs halves.Gap p acc
  token_on p acc cs t rest ts (word us name r i) rs g = identifier_on p acc us name r ts i rs g
  token_on p acc cs t rest ts (alias us name r i) rs g = alias_token_on p acc us name r ts i rs g
  token_on p acc cs t rest ts (literal us text r q) rs g = literal_on E acc ts r rs p us text q g
  token_on p acc cs t rest ts (integer us z r i s) rs g = integer_on p acc us z r ts i s rs g
  token_on p acc cs t rest ts (left_brace_mark r) rs g = open_on E acc ts r rs p g
  token_on p acc cs t rest ts (right_brace_mark r) rs g = close_on E acc ts r rs p g
  token_on p acc cs t rest ts (equals_mark r) rs g = equals_on E acc ts r rs p g
  token_on p acc cs t rest ts (semicolon_mark r) rs g = semicolon_on E acc ts r rs p g
  token_on p acc cs t rest ts (comma_mark r) rs g = comma_on E acc ts r rs p g

  slashed : (p : Place) (acc : List Event) (c : ℕ) (cs : List ℕ) → Runs E (c ∷ cs) halves.Slash p acc → Runs E (47 ∷ c ∷ cs) halves.Gap p acc
  unfolding begin
  slashed p acc c cs g = g

  separator_on : (p : Place) (acc : List Event) (cs rest : List ℕ) → Separator cs rest → Runs E rest halves.Gap p acc → Runs E cs halves.Gap p acc
  separator_on p acc cs rest (blank c r e) g = subst (λ (x : Option State). Next x (After E r acc)) (sym (blank_begins p c e)) g
  separator_on p acc cs rest (line us r c) g = slashed p acc 47 us (line_on E p acc us r c g)
  separator_on p acc cs rest (block us r c) g = slashed p acc 42 us (block_on E p acc us r c g)

  empty_on : (p : Place) (acc : List Event) → Walks E p [] acc → Runs E [] halves.Gap p acc
  empty_on Start acc g = ((refl, refl), g)
  empty_on p acc g = absurd g

  -- a text whose tokens are such a walk is one that the machine takes
  pub runs_from : (cs : List ℕ) (ts : List Lexeme) → Lexes cs ts → (p : Place) (acc : List Event) → Walks E p ts acc → Runs E cs halves.Gap p acc
  runs_from cs ts end p acc g = empty_on p acc g
  runs_from cs ts (separator us rest vs sep l) p acc g = separator_on p acc us rest sep (runs_from rest vs l p acc g)
  runs_from cs ts (token us t rest vs is l) p acc g = token_on p acc us t rest vs is (λ q a h. runs_from rest vs l q a h) g
