-- The token that the first character announces is the one that stands there.
use Rattle.std.proofs.Common.{◌≡◌, ◌⊎◌, inl, inr, ℕ, Bool, true, false, cond, List, [], ◌∷◌, Option, Some, None, refl, sym, subst, ◌∙◌, arith, Bor}
use Rattle.std.specs.Str.{chars}
use Rattle.std.specs.Prelude.{◌==◌, ◌||◌, IfSome, IfNone, ℤ, pos, neg_ℤ}
use Rattle.std.proofs.lemmas.Bool.Decides.{nat_tests}
use Rattle.mof_values.specs.Ident.{is_first, is_next}
use Rattle.mof_syntax.specs.Characters.{quote, dollar, plus_sign, minus_sign, comma, semicolon, equals_sign, left_brace, right_brace, digit_of, Run, more, Stops, is_sign}
use Rattle.mof_syntax.specs.Integers.{Magnitude, decimal_value, octal_value, hex_value, binary_value, IntegerValue, unsigned, plus, minus}
use Rattle.mof_syntax.specs.Tokens.{Identifier, identifier, Lexeme, Word, AliasName, Literal, Number, LeftBrace, RightBrace, EqualsSign, Semicolon, Comma, IsToken, word, alias, literal, integer, left_brace_mark, right_brace_mark, equals_mark, semicolon_mark, comma_mark}
use Rattle.mof_syntax.specs.declared.token.TokenKind.{TokenKind}
use Rattle.mof_syntax.specs.declared.token.TokenKind.TheVariants as kinds
use Rattle.mof_syntax.specs.declared.lead.Lead.{Lead}
use Rattle.mof_syntax.specs.declared.lead.Lead.TheVariants as leads
use Rattle.mof_syntax.specs.Scanning.{left_of, IsOnly, StandsQuoted}
use Rattle.mof_syntax.specs.Leads.{is_mark, lead_of, kind_by, StandsMagnitude, StandsBy, OnlyBy, NoneBy}
use Rattle.mof_syntax.specs.Walk.{token_kind, StandsToken, NoToken}
use Rattle.mof_syntax.proofs.Scans.{some_same, digit_wider}

-- what the first character announces

pub word_lead : (c : ℕ) → is_first c ≡ true → lead_of c ≡ leads.Other
word_lead c h =
    let m : is_mark c ≡ false = grind (arith, nat_tests) in
    let q : (c == quote) ≡ false = grind (arith, nat_tests) in
    let d : (c == dollar) ≡ false = grind (arith, nat_tests) in
    let s : is_sign c ≡ false = grind (arith, nat_tests) in
    let n : digit_of 10 c ≡ false = grind (arith, nat_tests) in
    rw (m, q, d, s, n) refl

pub digit_lead : (c : ℕ) → digit_of 10 c ≡ true → lead_of c ≡ leads.Digit
digit_lead c h =
    let m : is_mark c ≡ false = grind (arith, nat_tests) in
    let q : (c == quote) ≡ false = grind (arith, nat_tests) in
    let d : (c == dollar) ≡ false = grind (arith, nat_tests) in
    let s : is_sign c ≡ false = grind (arith, nat_tests) in
    rw (m, q, d, s, h) refl

pub identifier_first : (c : ℕ) (cs name rest : List ℕ) → Identifier (c ∷ cs) name rest → is_first c ≡ true
identifier_first c cs name rest (identifier d us tail r e run s) = e

run_first : (base c d : ℕ) (cs ds rest : List ℕ) → Run (digit_of base) (c ∷ cs) (d ∷ ds) rest → digit_of base c ≡ true
run_first base c d cs ds rest (more x us v r e run) = e

pub magnitude_first : (c : ℕ) (cs : List ℕ) (n : ℕ) (rest : List ℕ) → Magnitude (c ∷ cs) n rest → digit_of 10 c ≡ true
magnitude_first c cs n rest (decimal_value d us ds r nz is run) = is
magnitude_first c cs n rest (octal_value us ds r run) = refl
magnitude_first c cs n rest (hex_value x d us ds r is run) = refl
magnitude_first c cs n rest (binary_value d b us ds r run is) = digit_wider 2 10 c (omega arith) (run_first 2 c d cs ds (b ∷ r) run)

by_lead : (c : ℕ) (cs rest : List ℕ) (lead : Lead) → lead_of c ≡ lead → StandsBy lead (c ∷ cs) cs rest → StandsBy (lead_of c) (c ∷ cs) cs rest
by_lead c cs rest lead is s = subst (λ (l : Lead). StandsBy l (c ∷ cs) cs rest) (sym is) s

integer_stands : (c : ℕ) (cs : List ℕ) (z : ℤ) (rest : List ℕ) → IntegerValue (c ∷ cs) z rest → Stops is_next rest → StandsBy (lead_of c) (c ∷ cs) cs rest
integer_stands c cs z rest (unsigned us n r m) s = by_lead c cs r leads.Digit (digit_lead c (magnitude_first c cs n r m)) (n, m, s)
integer_stands c cs z rest (plus us n r m) s = (n, m, s)
integer_stands c cs z rest (minus us n r m) s = (n, m, s)

pub token_stands : (c : ℕ) (cs : List ℕ) (t : Lexeme) (rest : List ℕ) → IsToken (c ∷ cs) t rest → StandsBy (lead_of c) (c ∷ cs) cs rest
token_stands c cs t rest (word us name r i) = by_lead c cs r leads.Other (word_lead c (identifier_first c cs name r i)) (name, i)
token_stands c cs t rest (alias us name r i) = (name, i)
token_stands c cs t rest (literal us text r q) = (text, q)
token_stands c cs t rest (integer us z r i s) = integer_stands c cs z r i s
token_stands c cs t rest (left_brace_mark r) = refl
token_stands c cs t rest (right_brace_mark r) = refl
token_stands c cs t rest (equals_mark r) = refl
token_stands c cs t rest (semicolon_mark r) = refl
token_stands c cs t rest (comma_mark r) = refl

-- a token of that kind stands there

abbrev pub HasToken : List ℕ → TokenKind → List ℕ → Type 0
HasToken cs kind rest = (t : Lexeme) × IsToken cs t rest × (token_kind t ≡ kind)

equal : (x y : ℕ) → (x == y) ≡ true → x ≡ y
equal x y h = grind (arith, nat_tests)

split : (b : Bool) (x y z : Lead) → cond b x y ≡ z → ((b ≡ true) × (x ≡ z)) ⊎ ((b ≡ false) × (y ≡ z))
split true x y z e = inl (refl, e)
split false x y z e = inr (refl, e)

-- which of two tests holds
either : (a b : Bool) → (a || b) ≡ true → (a ≡ true) ⊎ (b ≡ true)
either true b h = inl refl
either false b h = inr h

-- the tests in their order
pub record Tests (c : ℕ) (lead : Lead) : Type 0 where
  pub mark : lead ≡ leads.Mark → is_mark c ≡ true
  pub quote_is : lead ≡ leads.Quote → (c == quote) ≡ true
  pub dollar_is : lead ≡ leads.Dollar → (c == dollar) ≡ true
  pub sign : lead ≡ leads.Sign → is_sign c ≡ true

tests_of : (c : ℕ) (lead : Lead) → lead_of c ≡ lead → Tests c lead
tests_of c lead h = elim (split (is_mark c) _ _ _ h) [
  | inl a ↦ record { mark = λ e. a.0; quote_is = λ e. absurd cc; dollar_is = λ e. absurd cc; sign = λ e. absurd cc }
  | inr a ↦ elim (split (c == quote) _ _ _ a.1) [
    | inl b ↦ record { mark = λ e. absurd cc; quote_is = λ e. b.0; dollar_is = λ e. absurd cc; sign = λ e. absurd cc }
    | inr b ↦ elim (split (c == dollar) _ _ _ b.1) [
      | inl d ↦ record { mark = λ e. absurd cc; quote_is = λ e. absurd cc; dollar_is = λ e. d.0; sign = λ e. absurd cc }
      | inr d ↦ elim (split (is_sign c) _ _ _ d.1) [
        | inl f ↦ record { mark = λ e. absurd cc; quote_is = λ e. absurd cc; dollar_is = λ e. absurd cc; sign = λ e. f.0 }
        | inr f ↦ elim (split (digit_of 10 c) _ _ _ f.1) [
          | inl g ↦ record { mark = λ e. absurd cc; quote_is = λ e. absurd cc; dollar_is = λ e. absurd cc; sign = λ e. absurd cc }
          | inr g ↦ record { mark = λ e. absurd cc; quote_is = λ e. absurd cc; dollar_is = λ e. absurd cc; sign = λ e. absurd cc }
        ]
      ]
    ]
  ]
]

tests : (c : ℕ) → Tests c (lead_of c)
tests c = tests_of c (lead_of c) refl

mark_at : (c d : ℕ) (cs : List ℕ) → (c == d) ≡ true → HasToken (d ∷ cs) kinds.Mark cs → HasToken (c ∷ cs) kinds.Mark cs
mark_at c d cs h t = subst (λ (x : ℕ). HasToken (x ∷ cs) kinds.Mark cs) (sym (equal c d h)) t

mark_is : (c : ℕ) (cs : List ℕ) → is_mark c ≡ true → HasToken (c ∷ cs) kinds.Mark cs
mark_is c cs h = elim (either _ _ h) [
  | inr last_is ↦ mark_at c comma cs last_is (Comma, comma_mark cs, refl)
  | inl h4 ↦ elim (either _ _ h4) [
    | inr is ↦ mark_at c semicolon cs is (Semicolon, semicolon_mark cs, refl)
    | inl h3 ↦ elim (either _ _ h3) [
      | inr is ↦ mark_at c equals_sign cs is (EqualsSign, equals_mark cs, refl)
      | inl h2 ↦ elim (either _ _ h2) [
        | inr is ↦ mark_at c right_brace cs is (RightBrace, right_brace_mark cs, refl)
        | inl is ↦ mark_at c left_brace cs is (LeftBrace, left_brace_mark cs, refl)
      ]
    ]
  ]
]

sign_is : (c : ℕ) (cs rest : List ℕ) → is_sign c ≡ true → StandsMagnitude cs rest → HasToken (c ∷ cs) kinds.Integer rest
sign_is c cs rest h m = elim (either _ _ h) [
  | inl is ↦ subst (λ (x : ℕ). HasToken (x ∷ cs) kinds.Integer rest) (sym (equal c plus_sign is)) (Number (pos m.0), integer (plus_sign ∷ cs) (pos m.0) rest (plus cs m.0 rest m.1) m.2, refl)
  | inr is ↦ subst (λ (x : ℕ). HasToken (x ∷ cs) kinds.Integer rest) (sym (equal c minus_sign is)) (Number (neg_ℤ (pos m.0)), integer (minus_sign ∷ cs) (neg_ℤ (pos m.0)) rest (minus cs m.0 rest m.1) m.2, refl)
]

stands_token : (c : ℕ) (cs rest : List ℕ) (lead : Lead) → Tests c lead → StandsBy lead (c ∷ cs) cs rest → HasToken (c ∷ cs) (kind_by lead) rest
stands_token c cs rest leads.Mark t s = subst (λ (r : List ℕ). HasToken (c ∷ cs) kinds.Mark r) s (mark_is c cs (t.mark refl))
stands_token c cs rest leads.Quote t s = subst (λ (x : ℕ). HasToken (x ∷ cs) kinds.Literal rest) (sym (equal c quote (t.quote_is refl))) (Literal s.0, literal cs s.0 rest s.1, refl)
stands_token c cs rest leads.Dollar t s = subst (λ (x : ℕ). HasToken (x ∷ cs) kinds.Alias rest) (sym (equal c dollar (t.dollar_is refl))) (AliasName s.0, alias cs s.0 rest s.1, refl)
stands_token c cs rest leads.Sign t s = sign_is c cs rest (t.sign refl) s
stands_token c cs rest leads.Digit t s = (Number (pos s.0), integer (c ∷ cs) (pos s.0) rest (unsigned (c ∷ cs) s.0 rest s.1) s.2, refl)
stands_token c cs rest leads.Other t s = (Word s.0, word (c ∷ cs) s.0 rest s.1, refl)

-- the answers of the steps

pub StandsToken-by : (chars others rest : List ℕ) (c : ℕ) (lead : Lead) → chars ≡ c ∷ others → lead ≡ lead_of c → OnlyBy lead chars others rest → StandsToken chars (kind_by lead) rest
StandsToken-by chars others rest c lead cut is o =
    let at : OnlyBy (lead_of c) (c ∷ others) others rest = subst (λ (l : Lead). OnlyBy l (c ∷ others) others rest) is (subst (λ (xs : List ℕ). OnlyBy lead xs others rest) cut o) in
    let t = stands_token c others rest (lead_of c) (tests c) at.stands in
    let there : StandsToken (c ∷ others) (kind_by (lead_of c)) rest = record {
      lexeme = t.0;
      stands = t.1;
      is_kind = t.2;
      only = λ other after i. at.only after (token_stands c others other after i);
    } in
    subst (λ (l : Lead). StandsToken chars (kind_by l) rest) (sym is) (subst (λ (xs : List ℕ). StandsToken xs (kind_by (lead_of c)) rest) (sym cut) there)

pub NoToken-by : (chars others : List ℕ) (c : ℕ) (lead : Lead) → chars ≡ c ∷ others → lead ≡ lead_of c → NoneBy lead chars others → NoToken chars
NoToken-by chars others c lead cut is n = λ t rest i.
    let i' : IsToken (c ∷ others) t rest = subst (λ (xs : List ℕ). IsToken xs t rest) cut i in
    n rest (subst (λ (xs : List ℕ). StandsBy lead xs others rest) (sym cut) (subst (λ (l : Lead). StandsBy l (c ∷ others) others rest) (sym is) (token_stands c others t rest i')))

pub NoToken-none : (chars : List ℕ) → chars ≡ [] → NoToken chars
NoToken-none chars h t rest i = absurd (none_begins t rest (subst (λ (xs : List ℕ). IsToken xs t rest) h i))
  where
    no_identifier : (name r : List ℕ) → Identifier [] name r → ⊥
    no_identifier name r e = elim e [ ]

    no_magnitude : (n : ℕ) (r : List ℕ) → Magnitude [] n r → ⊥
    no_magnitude n r (binary_value d b us ds q run is) = no_run d ds (b ∷ q) run
      where
        no_run : (x : ℕ) (xs ys : List ℕ) → Run (digit_of 2) [] (x ∷ xs) ys → ⊥
        no_run x xs ys e = elim e [ ]

    no_integer : (z : ℤ) (r : List ℕ) → IntegerValue [] z r → ⊥
    no_integer z r (unsigned us n q m) = no_magnitude n q m

    none_begins : (u : Lexeme) (r : List ℕ) → IsToken [] u r → ⊥
    none_begins u r (word us name q e) = no_identifier name q e
    none_begins u r (integer us z q e s) = no_integer z q e

-- the steps after the first character

pub some_after : (lead L : Lead) (cs others : List ℕ) (f : Option (List ℕ)) (r : Option (Bor (List ℕ))) → lead ≡ L → left_of r ≡ f
    → ((rest : List ℕ) → StandsBy L cs others rest → f ≡ Some rest) → ((rest : List ℕ) → f ≡ Some rest → StandsBy L cs others rest)
    → IfSome r (λ rest. OnlyBy lead cs others (chars rest.now))
some_after lead L cs others f None is e to from = tt
some_after lead L cs others f (Some b) is e to from = subst (λ (l : Lead). OnlyBy l cs others (chars b.now)) (sym is) (record {
  stands = from (chars b.now) (sym e);
  only = λ other s. some_same other (chars b.now) (sym (to other s) ∙ sym e);
})

pub none_after : (lead L : Lead) (cs others : List ℕ) (f : Option (List ℕ)) (r : Option (Bor (List ℕ))) → lead ≡ L → left_of r ≡ f
    → ((rest : List ℕ) → StandsBy L cs others rest → f ≡ Some rest) → IfNone r (NoneBy lead cs others)
none_after lead L cs others f (Some b) is e to = tt
none_after lead L cs others f None is e to = subst (λ (l : Lead). NoneBy l cs others) (sym is) (λ rest s. absurd (apart rest (e ∙ to rest s)))
  where
    apart : (xs : List ℕ) → None ≡ Some xs → ⊥
    apart xs h = cc

pub quoted_after : (lead : Lead) (cs others : List ℕ) (r : Option (Bor (List ℕ))) → lead ≡ leads.Quote
    → IfSome r (λ rest. IsOnly StandsQuoted others (chars rest.now)) → IfSome r (λ rest. OnlyBy lead cs others (chars rest.now))
quoted_after lead cs others None is h = tt
quoted_after lead cs others (Some b) is h = subst (λ (l : Lead). OnlyBy l cs others (chars b.now)) (sym is) (record { stands = h.stands; only = h.only })

pub no_quoted_after : (lead : Lead) (cs others : List ℕ) (r : Option (Bor (List ℕ))) → lead ≡ leads.Quote
    → IfNone r ((rest : List ℕ) → StandsQuoted others rest → ⊥) → IfNone r (NoneBy lead cs others)
no_quoted_after lead cs others (Some b) is h = tt
no_quoted_after lead cs others None is h = subst (λ (l : Lead). NoneBy l cs others) (sym is) h
