-- Characters divide into tokens in one way, and each token stands for one thing.
use Rattle.std.proofs.Common.{◌≡◌, inl, inr, ℕ, Bool, true, false, cond, List, [], ◌∷◌, Option, Some, None, is_some, refl, sym, ap, subst, ◌∙◌, arith}
use Rattle.std.specs.Prelude.{◌==◌, ◌||◌, if◌then◌else◌, unwrap_or, ℤ, pos, neg_ℤ}
use Rattle.std.proofs.lemmas.Bool.{true≢false}
use Rattle.std.proofs.lemmas.Bool.Decides.{nat_tests}
use Rattle.std.specs.Char.{digit_value}
use Rattle.std.specs.Str.Parse.{digits_value}
use Rattle.mof_values.specs.Ident.{is_first, is_next}
use Rattle.mof_syntax.specs.Characters.{quote, backslash, dollar, plus_sign, minus_sign, comma, semicolon, equals_sign, left_brace, right_brace, digit_zero, is_blank, digit_of, is_x, Run, stop, more, Stops}
use Rattle.mof_syntax.specs.Separators.{Separator, blank, line, block}
use Rattle.mof_syntax.specs.Strings.{short_escape, Escape, short, hexadecimal, Quoted, closed, plain, escaped}
use Rattle.mof_syntax.specs.Integers.{Magnitude, decimal_value, octal_value, hex_value, binary_value, IntegerValue, unsigned, plus, minus}
use Rattle.mof_syntax.specs.Tokens.{Identifier, identifier, Lexeme, Word, AliasName, Literal, Number, LeftBrace, RightBrace, EqualsSign, Semicolon, Comma, IsToken, word, alias, literal, integer, left_brace_mark, right_brace_mark, equals_mark, semicolon_mark, comma_mark, Lexes, end, separator, token}
use Rattle.mof_syntax.specs.Scanning.{binary_rest, hex_tail, run_of, zero_value, magnitude_value}
use Rattle.mof_syntax.specs.declared.lead.Lead.{Lead}
use Rattle.mof_syntax.specs.declared.lead.Lead.TheVariants as leads
use Rattle.mof_syntax.specs.Leads.{lead_of}
use Rattle.mof_syntax.proofs.Scans.{some_same, test_or, digit_wider, stops_digit, b_no_decimal, no_binary, no_b, no_binary_x, binary-read, no_x, digit_no_x, hex-read, x_no_short, identifier-read, magnitude-read, escape-read, separator-read}
use Rattle.mof_syntax.proofs.FirstTokens.{word_lead, digit_lead, identifier_first, magnitude_first}
use Rattle.mof_syntax.proofs.Suffixes.{EndsWithin, separator_ends, token_ends}

-- runs

run-of : (p : ℕ → Bool) (cs run rest : List ℕ) → Run p cs run rest → Stops p rest → run_of p cs ≡ run
run-of p cs run [] (stop r) s = refl
run-of p cs run (c ∷ rest) (stop r) s = rw s refl
run-of p cs run rest (more c us v r e on) s = rw e (ap (λ (xs : List ℕ). c ∷ xs) (run-of p us v r on s))

-- identifiers

name_of : List ℕ → List ℕ
name_of [] = []
name_of (c ∷ cs) = c ∷ run_of is_next cs

identifier_name : (cs name rest : List ℕ) → Identifier cs name rest → name_of cs ≡ name
unfolding name_of
identifier_name cs name rest (identifier c us tail r e run s) = ap (λ (xs : List ℕ). c ∷ xs) (run-of is_next us tail r run s)

-- integers

when_true : (b : Bool) (x y z : ℕ) → b ≡ true → x ≡ z → cond b x y ≡ z
when_true b x y z is e = rw is e

when_false : (b : Bool) (x y z : ℕ) → b ≡ false → y ≡ z → cond b x y ≡ z
when_false b x y z is e = rw is e

digits_are : (base : ℕ) (cs ds rest : List ℕ) → Run (digit_of base) cs ds rest → Stops (digit_of base) rest → digits_value base (run_of (digit_of base) cs) ≡ digits_value base ds
digits_are base cs ds rest run s = ap (digits_value base) (run-of (digit_of base) cs ds rest run s)

zero_is : (cs ds rest : List ℕ) → Run (digit_of 8) cs ds rest → Stops is_next rest → zero_value cs ≡ digits_value 8 ds
zero_is cs ds [] (stop r) s = refl
zero_is cs ds (c ∷ rest) (stop r) s = when_false (is_x c) _ _ _ (no_x c s) (digits_are 8 (c ∷ rest) [] (c ∷ rest) (stop (c ∷ rest)) (stops_digit 8 (c ∷ rest) (omega arith) s))
zero_is cs ds rest (more c us v r e run) s = when_false (is_x c) _ _ _ (digit_no_x 8 c (omega arith) e) (digits_are 8 (c ∷ us) (c ∷ v) r (more c us v r e run) (stops_digit 8 r (omega arith) s))

none_is : (o : Option (List ℕ)) → o ≡ None → is_some o ≡ false
none_is o e = ap (λ (x : Option (List ℕ)). is_some x) e

some_is : (o : Option (List ℕ)) (rest : List ℕ) → o ≡ Some rest → is_some o ≡ true
some_is o rest e = ap (λ (x : Option (List ℕ)). is_some x) e

pub magnitude_is : (cs : List ℕ) (n : ℕ) (rest : List ℕ) → Magnitude cs n rest → Stops is_next rest → magnitude_value cs ≡ n
magnitude_is cs n rest (decimal_value d us ds r nz is run) s =
    when_false (is_some (binary_rest (d ∷ us))) _ _ _ (none_is _ (no_binary 10 d us ds r (omega arith) run s))
    (when_false (d == digit_zero) _ _ _ nz (digits_are 10 (d ∷ us) (d ∷ ds) r (more d us ds r is run) (stops_digit 10 r (omega arith) s)))
magnitude_is cs n rest (octal_value us ds r run) s =
    when_false (is_some (binary_rest (digit_zero ∷ us))) _ _ _ (none_is _ (no_b 8 us ds r (omega arith) run s)) (zero_is us ds r run s)
magnitude_is cs n rest (hex_value x d us ds r is run) s =
    when_false (is_some (binary_rest (digit_zero ∷ x ∷ us))) _ _ _ (none_is _ (no_binary_x x us is))
    (when_true (is_x x) _ _ _ is (digits_are 16 us (d ∷ ds) r run (stops_digit 16 r (omega arith) s)))
magnitude_is cs n rest (binary_value d b us ds r run is) s =
    when_true (is_some (binary_rest us)) _ _ _ (some_is _ r (binary-read us r d b ds run is s)) (digits_are 2 us (d ∷ ds) (b ∷ r) run two)
  where
    two : digit_of 2 b ≡ false
    two = elim (test_or (digit_of 2 b)) [ inl f ↦ absurd (true≢false (sym (digit_wider 2 10 b (omega arith) f) ∙ b_no_decimal b is)) | inr not_two ↦ not_two ]

-- escapes and literals

abbrev hex_escape_value : List ℕ → ℕ
hex_escape_value [] = 0
hex_escape_value (d ∷ cs) = (hex_tail 3 (digit_value d) cs).0

abbrev escape_value : List ℕ → ℕ
escape_value [] = 0
escape_value (c ∷ cs) = if is_some (short_escape c) then unwrap_or (short_escape c) 0 else hex_escape_value cs

escape_is : (cs : List ℕ) (value : ℕ) (rest : List ℕ) → Escape cs value rest → escape_value cs ≡ value
escape_is cs value rest (short e v r is) = when_true (is_some (short_escape e)) _ _ _ (ap (λ (o : Option ℕ). is_some o) is) (ap (λ (o : Option ℕ). unwrap_or o 0) is)
escape_is cs value rest (hexadecimal x d v us r isx isd h ok) = when_false (is_some (short_escape x)) _ _ _ (x_no_short x isx) (hex-read 3 (digit_value d) v us r h).0

data QuotedView : ℕ → List ℕ → List ℕ → List ℕ → Type 0 where
  view_closed : (c : ℕ) (cs text rest : List ℕ) → c ≡ quote → text ≡ [] → cs ≡ rest → QuotedView c cs text rest
  view_plain : (c : ℕ) (cs text rest t : List ℕ) → (c == quote) ≡ false → (c == backslash) ≡ false → Quoted cs t rest → text ≡ c ∷ t → QuotedView c cs text rest
  view_escaped : (c : ℕ) (cs text rest : List ℕ) (value : ℕ) (after t : List ℕ) → c ≡ backslash → Escape cs value after → Quoted after t rest → text ≡ value ∷ t → QuotedView c cs text rest

quoted_view : (c : ℕ) (cs text rest : List ℕ) → Quoted (c ∷ cs) text rest → QuotedView c cs text rest
quoted_view c cs text rest (closed r) = view_closed c cs text rest refl refl refl
quoted_view c cs text rest (plain d us t r no_quote no_escape q) = view_plain c cs text rest t no_quote no_escape q refl
quoted_view c cs text rest (escaped v us after t r e q) = view_escaped c cs text rest v after t refl e q refl

test_clash : (a b : ℕ) → a ≡ b → (a == b) ≡ false → ⊥
test_clash a b e h = grind (arith, nat_tests)

closed_same : (x b q : List ℕ) → QuotedView quote x b q → ([] ≡ b) × (x ≡ q)
closed_same x b q (view_closed c us t y is text rest) = (sym text, rest)
closed_same x b q (view_plain c us t y w no_quote no_escape h text) = absurd (test_clash quote quote refl no_quote)
closed_same x b q (view_escaped c us t y v after w is e h text) = absurd (omega arith)

plain_same : (d : ℕ) (us t x b q : List ℕ) → (d == quote) ≡ false → (d == backslash) ≡ false → ((u y : List ℕ) → Quoted us u y → (t ≡ u) × (x ≡ y))
    → QuotedView d us b q → ((d ∷ t) ≡ b) × (x ≡ q)
plain_same d us t x b q no_quote no_escape on (view_closed c vs u y is text rest) = absurd (test_clash d quote is no_quote)
plain_same d us t x b q no_quote no_escape on (view_plain c vs u y w f g h text) = let same = on w q h in (ap (λ (xs : List ℕ). d ∷ xs) same.0 ∙ sym text, same.1)
plain_same d us t x b q no_quote no_escape on (view_escaped c vs u y v after w is e h text) = absurd (test_clash d backslash is no_escape)

escaped_same : (v : ℕ) (us after t x b q : List ℕ) → Escape us v after → ((u y : List ℕ) → Quoted after u y → (t ≡ u) × (x ≡ y))
    → QuotedView backslash us b q → ((v ∷ t) ≡ b) × (x ≡ q)
escaped_same v us after t x b q e on (view_closed c vs u y is text rest) = absurd (omega arith)
escaped_same v us after t x b q e on (view_plain c vs u y w f g h text) = absurd (test_clash backslash backslash refl g)
escaped_same v us after t x b q e on (view_escaped c vs u y value other w is f h text) =
    let where_is : other ≡ after = some_same other after (sym (escape-read us value other f) ∙ escape-read us v after e) in
    let what_is : v ≡ value = sym (escape_is us v after e) ∙ escape_is us value other f in
    let same = on w q (subst (λ (xs : List ℕ). Quoted xs w q) where_is h) in
    (ap (λ (n : ℕ). n ∷ t) what_is ∙ ap (λ (xs : List ℕ). value ∷ xs) same.0 ∙ sym text, same.1)

quoted_same : (cs a r b q : List ℕ) → Quoted cs a r → Quoted cs b q → (a ≡ b) × (r ≡ q)
quoted_same cs a r b q (closed x) second = closed_same x b q (quoted_view quote x b q second)
quoted_same cs a r b q (plain d us t x no_quote no_escape first) second =
    plain_same d us t x b q no_quote no_escape (λ u y h. quoted_same us t x u y first h) (quoted_view d us b q second)
quoted_same cs a r b q (escaped v us after t x e first) second =
    escaped_same v us after t x b q e (λ u y h. quoted_same after t x u y first h) (quoted_view backslash us b q second)

-- tokens

abbrev mark_lexeme : ℕ → Lexeme
mark_lexeme c = if c == left_brace then LeftBrace else if c == right_brace then RightBrace else if c == equals_sign then EqualsSign else if c == semicolon then Semicolon else Comma

abbrev signed_value : ℕ → ℕ → ℤ
signed_value c n = if c == minus_sign then neg_ℤ (pos n) else pos n

-- what a first character begins stands for, and what is after
abbrev NamedBy : Lead → ℕ → List ℕ → Lexeme → List ℕ → Type 0
NamedBy leads.Mark c cs t rest = (mark_lexeme c ≡ t) × (cs ≡ rest)
NamedBy leads.Quote c cs t rest = (text : List ℕ) × Quoted cs text rest × (Literal text ≡ t)
NamedBy leads.Dollar c cs t rest = (name : List ℕ) × Identifier cs name rest × (AliasName name ≡ t)
NamedBy leads.Sign c cs t rest = (n : ℕ) × Magnitude cs n rest × Stops is_next rest × (Number (signed_value c n) ≡ t)
NamedBy leads.Digit c cs t rest = (n : ℕ) × Magnitude (c ∷ cs) n rest × Stops is_next rest × (Number (pos n) ≡ t)
NamedBy leads.Other c cs t rest = (name : List ℕ) × Identifier (c ∷ cs) name rest × (Word name ≡ t)

named_at : (c : ℕ) (cs : List ℕ) (t : Lexeme) (rest : List ℕ) (lead : Lead) → lead_of c ≡ lead → NamedBy lead c cs t rest → NamedBy (lead_of c) c cs t rest
named_at c cs t rest lead is n = subst (λ (l : Lead). NamedBy l c cs t rest) (sym is) n

integer_named : (c : ℕ) (cs : List ℕ) (z : ℤ) (rest : List ℕ) → IntegerValue (c ∷ cs) z rest → Stops is_next rest → NamedBy (lead_of c) c cs (Number z) rest
integer_named c cs z rest (unsigned us n r m) s = named_at c cs (Number (pos n)) r leads.Digit (digit_lead c (magnitude_first c cs n r m)) (n, m, s, refl)
integer_named c cs z rest (plus us n r m) s = (n, m, s, refl)
integer_named c cs z rest (minus us n r m) s = (n, m, s, refl)

token_named : (c : ℕ) (cs : List ℕ) (t : Lexeme) (rest : List ℕ) → IsToken (c ∷ cs) t rest → NamedBy (lead_of c) c cs t rest
token_named c cs t rest (word us name r i) = named_at c cs (Word name) r leads.Other (word_lead c (identifier_first c cs name r i)) (name, i, refl)
token_named c cs t rest (alias us name r i) = (name, i, refl)
token_named c cs t rest (literal us text r q) = (text, q, refl)
token_named c cs t rest (integer us z r i s) = integer_named c cs z r i s
token_named c cs t rest (left_brace_mark r) = (refl, refl)
token_named c cs t rest (right_brace_mark r) = (refl, refl)
token_named c cs t rest (equals_mark r) = (refl, refl)
token_named c cs t rest (semicolon_mark r) = (refl, refl)
token_named c cs t rest (comma_mark r) = (refl, refl)

name_same : (cs a r b q : List ℕ) → Identifier cs a r → Identifier cs b q → (a ≡ b) × (r ≡ q)
name_same cs a r b q i j = (sym (identifier_name cs a r i) ∙ identifier_name cs b q j, some_same r q (sym (identifier-read cs a r i) ∙ identifier-read cs b q j))

number_same : (cs : List ℕ) (n m : ℕ) (r q : List ℕ) → Magnitude cs n r → Stops is_next r → Magnitude cs m q → Stops is_next q → (n ≡ m) × (r ≡ q)
number_same cs n m r q i s j t = (sym (magnitude_is cs n r i s) ∙ magnitude_is cs m q j t, some_same r q (sym (magnitude-read cs n r i s) ∙ magnitude-read cs m q j t))

named_same : (lead : Lead) (c : ℕ) (cs : List ℕ) (t : Lexeme) (r : List ℕ) (u : Lexeme) (q : List ℕ) → NamedBy lead c cs t r → NamedBy lead c cs u q → (t ≡ u) × (r ≡ q)
named_same leads.Mark c cs t r u q a b = (sym a.0 ∙ b.0, sym a.1 ∙ b.1)
named_same leads.Quote c cs t r u q a b = let s = quoted_same cs a.0 r b.0 q a.1 b.1 in (sym a.2 ∙ ap (λ (x : List ℕ). Literal x) s.0 ∙ b.2, s.1)
named_same leads.Dollar c cs t r u q a b = let s = name_same cs a.0 r b.0 q a.1 b.1 in (sym a.2 ∙ ap (λ (x : List ℕ). AliasName x) s.0 ∙ b.2, s.1)
named_same leads.Sign c cs t r u q a b = let s = number_same cs a.0 b.0 r q a.1 a.2 b.1 b.2 in (sym a.3 ∙ ap (λ (x : ℕ). Number (signed_value c x)) s.0 ∙ b.3, s.1)
named_same leads.Digit c cs t r u q a b = let s = number_same (c ∷ cs) a.0 b.0 r q a.1 a.2 b.1 b.2 in (sym a.3 ∙ ap (λ (x : ℕ). Number (pos x)) s.0 ∙ b.3, s.1)
named_same leads.Other c cs t r u q a b = let s = name_same (c ∷ cs) a.0 r b.0 q a.1 b.1 in (sym a.2 ∙ ap (λ (x : List ℕ). Word x) s.0 ∙ b.2, s.1)

pub nothing_within : (rest : List ℕ) → EndsWithin [] rest → ⊥
nothing_within rest e = cc

pub token_same : (cs : List ℕ) (t : Lexeme) (r : List ℕ) (u : Lexeme) (q : List ℕ) → IsToken cs t r → IsToken cs u q → (t ≡ u) × (r ≡ q)
token_same [] t r u q i j = absurd (nothing_within r (token_ends [] t r i))
token_same (c ∷ cs) t r u q i j = named_same (lead_of c) c cs t r u q (token_named c cs t r i) (token_named c cs u q j)

-- texts

blank_lead : (c : ℕ) → is_blank c ≡ true → lead_of c ≡ leads.Other
blank_lead c h =
    let m : (c == left_brace || c == right_brace || c == equals_sign || c == semicolon || c == comma) ≡ false = grind (arith, nat_tests) in
    let q : (c == quote) ≡ false = grind (arith, nat_tests) in
    let d : (c == dollar) ≡ false = grind (arith, nat_tests) in
    let s : (c == plus_sign || c == minus_sign) ≡ false = grind (arith, nat_tests) in
    let n : digit_of 10 c ≡ false = grind (arith, nat_tests) in
    rw (m, q, d, s, n) refl

blank_no_first : (c : ℕ) → is_blank c ≡ true → is_first c ≡ true → ⊥
blank_no_first c h f = absurd (true≢false (sym f ∙ no_first))
  where
    no_first : is_first c ≡ false
    no_first = grind (arith, nat_tests)

no_token_blank : (c : ℕ) (cs : List ℕ) (t : Lexeme) (rest : List ℕ) → is_blank c ≡ true → IsToken (c ∷ cs) t rest → ⊥
no_token_blank c cs t rest h i =
    let n : NamedBy leads.Other c cs t rest = subst (λ (l : Lead). NamedBy l c cs t rest) (blank_lead c h) (token_named c cs t rest i) in
    blank_no_first c h (identifier_first c cs n.0 rest n.1)

no_token_slash : (cs : List ℕ) (t : Lexeme) (rest : List ℕ) → IsToken (47 ∷ cs) t rest → ⊥
no_token_slash cs t rest i = let n = token_named 47 cs t rest i in true≢false (sym (identifier_first 47 cs n.0 rest n.1))

pub no_both : (cs : List ℕ) (t : Lexeme) (r q : List ℕ) → Separator cs r → IsToken cs t q → ⊥
no_both cs t r q (blank c x h) i = no_token_blank c x t q h i
no_both cs t r q (line us x l) i = no_token_slash (47 ∷ us) t q i
no_both cs t r q (block us x b) i = no_token_slash (42 ∷ us) t q i

pub separator_same : (cs r q : List ℕ) → Separator cs r → Separator cs q → r ≡ q
separator_same cs r q a b = some_same r q (sym (separator-read cs r a) ∙ separator-read cs q b)

separator_then : (cs r : List ℕ) (ts us : List Lexeme) → Separator cs r → ((ws : List Lexeme) → Lexes r ws → ts ≡ ws) → Lexes cs us → ts ≡ us
separator_then cs r ts us s on end = absurd (nothing_within r (separator_ends [] r s))
separator_then cs r ts us s on (separator ds q vs p m) = on vs (subst (λ (xs : List ℕ). Lexes xs vs) (separator_same ds q r p s) m)
separator_then cs r ts us s on (token ds t q vs i m) = absurd (no_both ds t r q s i)

token_then : (cs : List ℕ) (t : Lexeme) (r : List ℕ) (ts us : List Lexeme) → IsToken cs t r → ((ws : List Lexeme) → Lexes r ws → ts ≡ ws) → Lexes cs us → (t ∷ ts) ≡ us
token_then cs t r ts us i on end = absurd (nothing_within r (token_ends [] t r i))
token_then cs t r ts us i on (separator ds q vs p m) = absurd (no_both ds t q r p i)
token_then cs t r ts us i on (token ds u q vs j m) =
    let same = token_same ds t r u q i j in
    ap (λ (x : Lexeme). x ∷ ts) same.0 ∙ ap (λ (xs : List Lexeme). u ∷ xs) (on vs (subst (λ (xs : List ℕ). Lexes xs vs) (sym same.1) m))

-- characters divide into tokens in one way
pub lexes_same : (cs : List ℕ) (ts us : List Lexeme) → Lexes cs ts → Lexes cs us → ts ≡ us
lexes_same cs ts us end end = refl
lexes_same cs ts us end (separator ds r vs s l) = absurd (nothing_within r (separator_ends [] r s))
lexes_same cs ts us end (token ds t r vs i l) = absurd (nothing_within r (token_ends [] t r i))
lexes_same cs ts us (separator ds r vs s l) second = separator_then ds r vs us s (λ ws m. lexes_same r vs ws l m) second
lexes_same cs ts us (token ds t r vs i l) second = token_then ds t r vs us i (λ ws m. lexes_same r vs ws l m) second
