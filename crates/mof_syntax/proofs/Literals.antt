-- String literals, as far as they were read.
use Rattle.std.proofs.Common.{◌≡◌, ◌<◌, length, inl, inr, ℕ, true, false, List, [], ◌∷◌, Some, None, refl, sym, ap, subst, ◌∙◌, arith}
use Rattle.std.specs.Prelude.{◌==◌}
use Rattle.std.proofs.lemmas.Bool.Decides.{nat_tests}
use Rattle.mof_syntax.specs.Characters.{quote, backslash}
use Rattle.mof_syntax.specs.Strings.{Escape, Quoted, closed, plain, escaped}
use Rattle.mof_syntax.specs.Scanning.{escape_rest, StandsQuoted, IsOnly}
use Rattle.mof_syntax.proofs.Scans.{some_same, test_or, escape-read, read-escape}
use Rattle.mof_syntax.proofs.Suffixes.{EndsWithin-length, escape_ends}

-- what begins a literal's characters
pub data QuotedCase : ℕ → List ℕ → List ℕ → Type 0 where
  at_quote : (rest : List ℕ) → QuotedCase quote rest rest
  at_plain : (c : ℕ) (cs rest : List ℕ) → (c == quote) ≡ false → (c == backslash) ≡ false → StandsQuoted cs rest → QuotedCase c cs rest
  at_escape : (value : ℕ) (cs after rest : List ℕ) → Escape cs value after → StandsQuoted after rest → QuotedCase backslash cs rest

quoted_case : (c : ℕ) (cs text rest : List ℕ) → Quoted (c ∷ cs) text rest → QuotedCase c cs rest
quoted_case c cs text rest (closed r) = at_quote r
quoted_case c cs text rest (plain d us t r no_quote no_escape q) = at_plain d us r no_quote no_escape (t, q)
quoted_case c cs text rest (escaped v us after t r e q) = at_escape v us after r e (t, q)

pub no_quoted : (rest : List ℕ) → StandsQuoted [] rest → ⊥
no_quoted rest q = elim q.1 [ ]

-- the literal that goes on with `left` is the one that goes on with `all`
pub record SameLiteral (all left : List ℕ) : Type 0 where
  pub on : (rest : List ℕ) → StandsQuoted left rest → StandsQuoted all rest
  pub only : (rest : List ℕ) → StandsQuoted all rest → StandsQuoted left rest

pub SameLiteral-start : (all : List ℕ) → SameLiteral all all
SameLiteral-start all = record { on = λ rest q. q; only = λ rest q. q }

-- at the other quote

closed_only : (c : ℕ) (cs rest : List ℕ) → c ≡ quote → QuotedCase c cs rest → rest ≡ cs
closed_only c cs rest is (at_quote r) = refl
closed_only c cs rest is (at_plain d us r no_quote no_escape q) = absurd (plain_clash d no_quote is)
  where
    plain_clash : (x : ℕ) → (x == quote) ≡ false → x ≡ quote → ⊥
    plain_clash x h e = grind (arith, nat_tests)
closed_only c cs rest is (at_escape v us after r e q) = absurd (omega arith)

pub ends_at_quote : (all cs : List ℕ) → SameLiteral all (quote ∷ cs) → IsOnly StandsQuoted all cs
ends_at_quote all cs s = record {
  stands = s.on cs ([], closed cs);
  only = λ other q. let p = s.only other q in closed_only quote cs other refl (quoted_case quote cs p.0 other p.1);
}

-- at another character

plain_only : (c : ℕ) (cs rest : List ℕ) → (c == quote) ≡ false → (c == backslash) ≡ false → QuotedCase c cs rest → StandsQuoted cs rest
plain_only c cs rest no_quote no_escape (at_quote r) = absurd cc
plain_only c cs rest no_quote no_escape (at_plain d us r f g q) = q
plain_only c cs rest no_quote no_escape (at_escape v us after r e q) = absurd cc

pub goes_on_plain : (all cs : List ℕ) (c : ℕ) → (c == quote) ≡ false → (c == backslash) ≡ false → SameLiteral all (c ∷ cs) → SameLiteral all cs
goes_on_plain all cs c no_quote no_escape s = record {
  on = λ rest q. s.on rest (c ∷ q.0, plain c cs q.0 rest no_quote no_escape q.1);
  only = λ rest q. let p = s.only rest q in plain_only c cs rest no_quote no_escape (quoted_case c cs p.0 rest p.1);
}

-- at an escape

abbrev EscapeCase : List ℕ → List ℕ → Type 0
EscapeCase cs rest = (value : ℕ) × (after : List ℕ) × Escape cs value after × StandsQuoted after rest

escape_only : (c : ℕ) (cs rest : List ℕ) → c ≡ backslash → QuotedCase c cs rest → EscapeCase cs rest
escape_only c cs rest is (at_quote r) = absurd (omega arith)
escape_only c cs rest is (at_plain d us r no_quote no_escape q) = absurd (plain_clash d no_escape is)
  where
    plain_clash : (x : ℕ) → (x == backslash) ≡ false → x ≡ backslash → ⊥
    plain_clash x h e = grind (arith, nat_tests)
escape_only c cs rest is (at_escape v us after r e q) = (v, after, e, q)

pub goes_on_escaped : (all cs after : List ℕ) → escape_rest cs ≡ Some after → SameLiteral all (backslash ∷ cs) → SameLiteral all after
goes_on_escaped all cs after is s = record {
  on = λ rest q. let e = read-escape cs after is in s.on rest (e.0 ∷ q.0, escaped e.0 cs after q.0 rest e.1 q.1);
  only = λ rest q.
      let p = s.only rest q in
      let e = escape_only backslash cs rest refl (quoted_case backslash cs p.0 rest p.1) in
      subst (λ (xs : List ℕ). StandsQuoted xs rest) (some_same e.1 after (sym (escape-read cs e.0 e.1 e.2) ∙ is)) e.3;
}

pub no_escape_there : (all cs rest : List ℕ) → escape_rest cs ≡ None → SameLiteral all (backslash ∷ cs) → StandsQuoted all rest → ⊥
no_escape_there all cs rest is s q =
    let p = s.only rest q in
    let e = escape_only backslash cs rest refl (quoted_case backslash cs p.0 rest p.1) in
    absurd (different e.1 (sym is ∙ escape-read cs e.0 e.1 e.2))
  where
    different : (xs : List ℕ) → None ≡ Some xs → ⊥
    different xs e = cc

pub at_char : (all left others : List ℕ) (c d : ℕ) → left ≡ c ∷ others → c ≡ d → SameLiteral all left → SameLiteral all (d ∷ others)
at_char all left others c d split is s = subst (λ (xs : List ℕ). SameLiteral all xs) (split ∙ ap (λ (x : ℕ). x ∷ others) is) s

pub nothing_quoted : (cs rest : List ℕ) → cs ≡ [] → StandsQuoted cs rest → ⊥
nothing_quoted cs rest nothing q = no_quoted rest (subst (λ (xs : List ℕ). StandsQuoted xs rest) nothing q)

pub ne_test : (a b : ℕ) → (a ≡ b → ⊥) → (a == b) ≡ false
ne_test a b h = elim (test_or (a == b)) [ inl is ↦ absurd (h (same a b is)) | inr other ↦ other ]
  where
    same : (x y : ℕ) → (x == y) ≡ true → x ≡ y
    same x y e = grind (arith, nat_tests)

pub escape_shorter : (left others rest : List ℕ) (c : ℕ) → left ≡ c ∷ others → Some rest ≡ escape_rest others → length rest < length left
escape_shorter left others rest c split is =
    let e = read-escape others rest (sym is) in
    let shorter : length rest < length others = EndsWithin-length others rest (escape_ends others e.0 rest e.1) in
    rw split (omega arith)
