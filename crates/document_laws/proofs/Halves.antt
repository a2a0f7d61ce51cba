-- To which half states the machine goes: from the gap by the first character of a token, and within a name, a keyword or an
-- integer.
use Rattle.std.proofs.Common.{◌≡◌, inl, inr, ℕ, ◌+◌, Bool, true, false, cond, List, [], ◌∷◌, Option, Some, None, drop, refl, sym, subst, arith}
use Rattle.std.specs.Prelude.{◌==◌, ◌&&◌, nat_le}
use Rattle.std.specs.Char.{to_ascii_lowercase}
use Rattle.std.proofs.lemmas.Bool.{eqb-true}
use Rattle.std.proofs.lemmas.Bool.Decides.{nat_tests}
use Rattle.mof_values.specs.Ident.{is_first, is_next}
use Rattle.mof_syntax.specs.Characters.{digit_of, is_b, is_blank, is_sign, is_x}
use Rattle.mof_codec.specs.Machine.{begin, ended, head_of, key_on, keyed, kind_of, letters, number_begun, opened, step, value_word}
use Rattle.mof_codec.proofs.Forward.{letter_begins}
use Rattle.mof_syntax.proofs.Scans.{test_or}
use Rattle.mof_syntax.proofs.Bodies.{and_left, and_right}
use Rattle.mof_codec.proofs.Runs.{digit_no_first, not_next, sign_no_digit, sign_no_first}
use Rattle.mof_codec.proofs.StepsBack.{small, small_dropped, small_letters}
use Rattle.document_laws.proofs.States.{AfterAlias, AfterAs, AfterBody, AfterClass, AfterComma, AfterElement, AfterElementStrings, AfterEquals, AfterInstance, AfterName, AfterOf, AfterStrings, AfterValue, Alias, Binary, Bits, Body, Decimal, Event, Gap, Half, Hexadecimal, InArray, Keyword, Line, Literal, Name, Octal, Place, Prefix, Sign, Slash, Start, State, Zero, ZeroBits, key_half}

-- the half state that a step leads to, where it leads to one
abbrev pub LeadsTo : (Half → Type 0) → Option State → Type 0
LeadsTo P None = Unit {0}
LeadsTo P (Some state) = P state.half

abbrev pub Is : Half → Half → Type 0
Is half other = other ≡ half

-- in a name, a keyword or an integer, whose further characters are those that go on an identifier
pub data InRun : Half → Type 0 where
  in_name : InRun Name
  in_key : (k : Keyword) (n : ℕ) → InRun (key_half k n)
  in_sign : InRun Sign
  in_zero : InRun Zero
  in_zero_bits : InRun ZeroBits
  in_octal : InRun Octal
  in_bits : InRun Bits
  in_decimal : InRun Decimal
  in_prefix : InRun Prefix
  in_hexadecimal : InRun Hexadecimal
  in_binary : InRun Binary

-- ---- choices

module _ (P : Half → Type 0) where
  pub either : (b : Bool) (x y : Option State) → LeadsTo P x → LeadsTo P y → LeadsTo P (cond b x y)
  either true x y on other = on
  either false x y on other = other

  pub chosen : (b : Bool) (x y : Option State) → b ≡ true → LeadsTo P x → LeadsTo P (cond b x y)
  chosen true x y so on = on
  chosen false x y so on = absurd cc

  pub other_chosen : (b : Bool) (x y : Option State) → b ≡ false → LeadsTo P y → LeadsTo P (cond b x y)
  other_chosen true x y so on = absurd cc
  other_chosen false x y so on = on

pub is_other : (b : Bool) (x y : Option State) (s : State) → b ≡ false → cond b x y ≡ Some s → y ≡ Some s
is_other true x y s so e = absurd cc
is_other false x y s so e = e

-- ---- in a name, a keyword or an integer

key_goes : (b : Event) (k : Keyword) (n : ℕ) (p : Place) (c : ℕ) (o : Option ℕ) → LeadsTo InRun (keyed o b k n p c)
key_goes b k n p c None = tt
key_goes b k n p c (Some l) = either InRun (to_ascii_lowercase c == l) _ _ (in_key k n) tt

number_goes : (b : Event) (p : Place) (c : ℕ) → LeadsTo InRun (number_begun b p c)
number_goes b p c = either InRun (c == 48) _ _ in_zero (either InRun (c == 49) _ _ in_bits (either InRun (digit_of 10 c) _ _ in_decimal tt))

value_goes : (b : Event) (p : Place) (c : ℕ) → LeadsTo InRun (value_word b p c)
value_goes b p c =
    either InRun (to_ascii_lowercase c == 116) _ _ (in_key _ 0) (either InRun (to_ascii_lowercase c == 102) _ _ (in_key _ 0) (either InRun (to_ascii_lowercase c == 110) _ _ (in_key _ 0) tt))

module _ (p : Place) (c : ℕ) (next : is_next c ≡ true) where
  ended_goes : LeadsTo InRun (ended p c)
  ended_goes = chosen InRun (is_next c) None (begin p c) next tt

  key_on_goes : (o : Option ℕ) (k : Keyword) (n : ℕ) → LeadsTo InRun (key_on o k n p c)
  key_on_goes None k n = ended_goes
  key_on_goes (Some l) k n = key_goes _ k n p c (Some l)

  -- a character that goes on an identifier leads on in it
  pub run_on : (h : Half) → InRun h → LeadsTo InRun (step h p c)
  run_on h in_name = chosen InRun (is_next c) _ _ next in_name
  run_on h (in_key k n) = key_on_goes (head_of (drop (n + 1) (letters k))) k (n + 1)
  run_on h in_sign = number_goes _ p c
  run_on h in_zero = either InRun (is_x c) _ _ in_prefix (either InRun (digit_of 2 c) _ _ in_zero_bits (either InRun (digit_of 8 c) _ _ in_octal (either InRun (is_b c) _ _ in_binary ended_goes)))
  run_on h in_zero_bits = either InRun (digit_of 2 c) _ _ in_zero_bits (either InRun (digit_of 8 c) _ _ in_octal (either InRun (is_b c) _ _ in_binary ended_goes))
  run_on h in_octal = either InRun (digit_of 8 c) _ _ in_octal ended_goes
  run_on h in_bits = either InRun (digit_of 2 c) _ _ in_bits (either InRun (digit_of 10 c) _ _ in_decimal (either InRun (is_b c) _ _ in_binary ended_goes))
  run_on h in_decimal = either InRun (digit_of 10 c) _ _ in_decimal ended_goes
  run_on h in_prefix = either InRun (digit_of 16 c) _ _ in_hexadecimal tt
  run_on h in_hexadecimal = either InRun (digit_of 16 c) _ _ in_hexadecimal ended_goes
  run_on h in_binary = ended_goes

-- ---- after it

clash : {b : Bool} → b ≡ true → b ≡ false → ⊥
clash e f = cc

none_some : (s : State) → None ≡ Some s → ⊥
none_some s e = cc

letter_next : (c l : ℕ) → nat_le 97 l ≡ true → nat_le l 122 ≡ true → (to_ascii_lowercase c == l) ≡ true → is_next c ≡ true
letter_next c l low high is = grind (arith, nat_tests)

no_zero : (c : ℕ) → digit_of 10 c ≡ false → (c == 48) ≡ false
no_zero c h = grind (arith, nat_tests)

no_one : (c : ℕ) → digit_of 10 c ≡ false → (c == 49) ≡ false
no_one c h = grind (arith, nat_tests)

module _ (p : Place) (c : ℕ) (s : State) (stops : is_next c ≡ false) where
  ended_begins : ended p c ≡ Some s → begin p c ≡ Some s
  ended_begins e = is_other (is_next c) None (begin p c) s stops e

  no_letter : (l : ℕ) (ls : List ℕ) → small (l ∷ ls) ≡ true → (to_ascii_lowercase c == l) ≡ false
  no_letter l ls letters_small = elim (test_or (to_ascii_lowercase c == l)) [
    | inl is ↦
        let low = and_left (nat_le 97 l) (nat_le l 122 && small ls) letters_small in
        let high = and_left (nat_le l 122) (small ls) (and_right (nat_le 97 l) (nat_le l 122 && small ls) letters_small) in
        absurd (clash (letter_next c l low high is) stops)
    | inr not ↦ not
  ]

  key_begins : (ls : List ℕ) (k : Keyword) (n : ℕ) → small ls ≡ true → key_on (head_of ls) k n p c ≡ Some s → begin p c ≡ Some s
  key_begins [] k n letters_small e = ended_begins e
  key_begins (l ∷ ls) k n letters_small e = absurd (none_some s (is_other (to_ascii_lowercase c == l) _ None s (no_letter l ls letters_small) e))

  -- any other character leads where it leads from the gap
  pub run_ends : (h : Half) → InRun h → step h p c ≡ Some s → step Gap p c ≡ Some s
  run_ends h in_name e = is_other (is_next c) _ _ s stops e
  run_ends h (in_key k n) e = key_begins (drop (n + 1) (letters k)) k (n + 1) (small_dropped (n + 1) (letters k) (small_letters k)) e
  run_ends h in_sign e =
      let no_digit = (not_next c stops).no_digit in
      absurd (none_some s (is_other (digit_of 10 c) _ None s no_digit (is_other (c == 49) _ _ s (no_one c no_digit) (is_other (c == 48) _ _ s (no_zero c no_digit) e))))
  run_ends h in_zero e =
      let n = not_next c stops in
      ended_begins (is_other (is_b c) _ _ s n.no_b (is_other (digit_of 8 c) _ _ s n.no_octal (is_other (digit_of 2 c) _ _ s n.no_bit (is_other (is_x c) _ _ s n.no_x e))))
  run_ends h in_zero_bits e =
      let n = not_next c stops in
      ended_begins (is_other (is_b c) _ _ s n.no_b (is_other (digit_of 8 c) _ _ s n.no_octal (is_other (digit_of 2 c) _ _ s n.no_bit e)))
  run_ends h in_octal e = ended_begins (is_other (digit_of 8 c) _ _ s (not_next c stops).no_octal e)
  run_ends h in_bits e =
      let n = not_next c stops in
      ended_begins (is_other (is_b c) _ _ s n.no_b (is_other (digit_of 10 c) _ _ s n.no_digit (is_other (digit_of 2 c) _ _ s n.no_bit e)))
  run_ends h in_decimal e = ended_begins (is_other (digit_of 10 c) _ _ s (not_next c stops).no_digit e)
  run_ends h in_prefix e = absurd (none_some s (is_other (digit_of 16 c) _ None s (not_next c stops).no_hex e))
  run_ends h in_hexadecimal e = ended_begins (is_other (digit_of 16 c) _ _ s (not_next c stops).no_hex e)
  run_ends h in_binary e = ended_begins e

-- ---- from the gap

letter_opens : (p : Place) (c : ℕ) → LeadsTo InRun (opened p (kind_of 97) c)
letter_opens Start c = either InRun (to_ascii_lowercase c == 105) _ _ (in_key _ 0) tt
letter_opens AfterInstance c = either InRun (to_ascii_lowercase c == 111) _ _ (in_key _ 0) tt
letter_opens AfterOf c = in_name
letter_opens AfterClass c = either InRun (to_ascii_lowercase c == 97) _ _ (in_key _ 0) tt
letter_opens Body c = in_name
letter_opens AfterEquals c = value_goes _ AfterValue c
letter_opens InArray c = value_goes _ AfterElement c
letter_opens AfterComma c = value_goes _ AfterElement c
letter_opens p c = tt

digit_opens : (p : Place) (c : ℕ) → LeadsTo InRun (opened p (kind_of 48) c)
digit_opens AfterEquals c = number_goes _ AfterValue c
digit_opens InArray c = number_goes _ AfterElement c
digit_opens AfterComma c = number_goes _ AfterElement c
digit_opens p c = tt

sign_opens : (p : Place) (c : ℕ) → LeadsTo InRun (opened p (kind_of 43) c)
sign_opens AfterEquals c = in_sign
sign_opens InArray c = in_sign
sign_opens AfterComma c = in_sign
sign_opens p c = tt

digit_begins : (p : Place) (c : ℕ) → digit_of 10 c ≡ true → begin p c ≡ opened p (kind_of 48) c
unfolding begin
digit_begins p c e = rw (digit_no_first c e, e) refl

sign_begins : (p : Place) (c : ℕ) → is_sign c ≡ true → begin p c ≡ opened p (kind_of 43) c
unfolding begin
sign_begins p c e = rw (sign_no_first c e, sign_no_digit c e, e) refl

pub letter_leads : (p : Place) (c : ℕ) → is_first c ≡ true → LeadsTo InRun (step Gap p c)
letter_leads p c first = subst (LeadsTo InRun) (sym (letter_begins p c first)) (letter_opens p c)

pub digit_leads : (p : Place) (c : ℕ) → digit_of 10 c ≡ true → LeadsTo InRun (step Gap p c)
digit_leads p c digit = subst (LeadsTo InRun) (sym (digit_begins p c digit)) (digit_opens p c)

pub sign_leads : (p : Place) (c : ℕ) → is_sign c ≡ true → LeadsTo InRun (step Gap p c)
sign_leads p c sign = subst (LeadsTo InRun) (sym (sign_begins p c sign)) (sign_opens p c)

pub quote_leads : (p : Place) → LeadsTo (Is Literal) (step Gap p 34)
unfolding begin
quote_leads AfterEquals = refl
quote_leads AfterStrings = refl
quote_leads InArray = refl
quote_leads AfterComma = refl
quote_leads AfterElementStrings = refl
quote_leads p = tt

pub dollar_leads : (p : Place) → LeadsTo (Is Alias) (step Gap p 36)
unfolding begin
dollar_leads AfterAs = refl
dollar_leads AfterEquals = refl
dollar_leads InArray = refl
dollar_leads AfterComma = refl
dollar_leads p = tt

pub left_brace_leads : (p : Place) → LeadsTo (Is Gap) (step Gap p 123)
unfolding begin
left_brace_leads AfterClass = refl
left_brace_leads AfterAlias = refl
left_brace_leads AfterEquals = refl
left_brace_leads p = tt

pub right_brace_leads : (p : Place) → LeadsTo (Is Gap) (step Gap p 125)
unfolding begin
right_brace_leads Body = refl
right_brace_leads InArray = refl
right_brace_leads AfterElementStrings = refl
right_brace_leads AfterElement = refl
right_brace_leads p = tt

pub equals_leads : (p : Place) → LeadsTo (Is Gap) (step Gap p 61)
unfolding begin
equals_leads AfterName = refl
equals_leads p = tt

pub semicolon_leads : (p : Place) → LeadsTo (Is Gap) (step Gap p 59)
unfolding begin
semicolon_leads AfterBody = refl
semicolon_leads AfterStrings = refl
semicolon_leads AfterValue = refl
semicolon_leads p = tt

pub comma_leads : (p : Place) → LeadsTo (Is Gap) (step Gap p 44)
unfolding begin
comma_leads AfterElementStrings = refl
comma_leads AfterElement = refl
comma_leads p = tt

pub slash_leads : (p : Place) → LeadsTo (Is Slash) (step Gap p 47)
unfolding begin
slash_leads p = refl

pub blank_leads : (p : Place) (c : ℕ) → is_blank c ≡ true → LeadsTo (Is Gap) (step Gap p c)
unfolding begin
blank_leads p c blank = elim (test_or (c == 32)) [
  | inl is ↦ at c 32 is refl
  | inr no_space ↦ elim (test_or (c == 9)) [
    | inl is ↦ at c 9 is refl
    | inr no_tab ↦ elim (test_or (c == 10)) [
      | inl is ↦ at c 10 is refl
      | inr no_feed ↦ let last : c ≡ 13 = grind (arith, nat_tests) in subst (λ (x : ℕ). LeadsTo (Is Gap) (step Gap p x)) (sym last) refl
    ]
  ]
]
  where
    at : (c n : ℕ) → (c == n) ≡ true → LeadsTo (Is Gap) (step Gap p n) → LeadsTo (Is Gap) (step Gap p c)
    at c n is leads = subst (λ (x : ℕ). LeadsTo (Is Gap) (step Gap p x)) (sym (eqb-true c n is)) leads

-- a line feed after the end of a comment is what it is in the gap
pub feed_same : (p : Place) → step Line p 10 ≡ step Gap p 10
unfolding begin
feed_same p = refl
