-- Texts in quotes at the front of characters.
use Rattle.std.proofs.Common.{◌≡◌, ◌≢◌, ◌⊎◌, ◌≤◌, ◌+◌, ◌-◌, ◌==◌, inl, inr, ℕ, List, [], ◌∷◌, ◌++◌, length, Bool, true, false, true≢false, refl, sym, ◌∙◌, ap, subst, arith, append_assoc, append-nil, length-append}
use Rattle.std.proofs.lemmas.Bool.{eqb-true}
use Rattle.std.specs.Prelude.{encode_utf8, encode_utf8_all}
use Rattle.std.specs.Str.{all_scalars}
use Rattle.std.proofs.lemmas.Str.{encodes-append, length-le-encodes, encode_ascii}
use Rattle.mof_values.specs.declared.limits.TheConstants.{MAX_NAME_BYTES}
use Rattle.pull_messages.specs.Stops.{Begins, StopsAt, IsAnyQuoted, IsEnd, IsValueChar}
use Rattle.pull_messages.specs.Targets.{doubled, IsValue, IsQuoted}
use Rattle.pull_messages.proofs.Languages.{fronts, PrefixFree}

tested : (c : ℕ) (b : Bool) → (c == 39) ≡ b → ((c ≡ 39) × (b ≡ true)) ⊎ ((c ≢ 39) × (b ≡ false))
tested c true is = inl (eqb-true c 39 is, refl)
tested c false is = inr ((λ same. true≢false (sym (rw same refl) ∙ is)), refl)

not_equal : (c : ℕ) (b : Bool) → (c == 39) ≡ b → c ≢ 39 → b ≡ false
not_equal c true is other = absurd (other (eqb-true c 39 is))
not_equal c false is other = refl

neq-eqb : (c : ℕ) → c ≢ 39 → (c == 39) ≡ false
neq-eqb c other = not_equal c (c == 39) refl other

-- a quote is doubled, any other character is not
pub doubled_cases : (c : ℕ) (cs : List ℕ) → ((c ≡ 39) × (doubled (c ∷ cs) ≡ 39 ∷ 39 ∷ doubled cs)) ⊎ ((c ≢ 39) × (doubled (c ∷ cs) ≡ c ∷ doubled cs))
doubled_cases c cs =
    elim (tested c (c == 39) refl) [
      | inl quote ↦ inl (quote.0, rw quote.1 refl)
      | inr other ↦ inr (other.0, rw other.1 refl)
    ]

quoted_more : (c : ℕ) (t s : List ℕ) → c ≡ 39 → doubled (t ++ s) ≡ doubled t ++ doubled s → doubled ((c ∷ t) ++ s) ≡ doubled (c ∷ t) ++ doubled s
quoted_more c t s is more = rw is (ap (λ (l : List ℕ). 39 ∷ 39 ∷ l) more)

plain_more : (c : ℕ) (t s : List ℕ) → c ≢ 39 → doubled (t ++ s) ≡ doubled t ++ doubled s → doubled ((c ∷ t) ++ s) ≡ doubled (c ∷ t) ++ doubled s
plain_more c t s other more =
    let no : (c == 39) ≡ false = neq-eqb c other in rw no (ap (λ (l : List ℕ). c ∷ l) more)

pub doubled-append : (t s : List ℕ) → doubled (t ++ s) ≡ doubled t ++ doubled s
doubled-append [] s = refl
doubled-append (c ∷ t) s =
    elim (doubled_cases c t) [
      | inl quote ↦ quoted_more c t s quote.0 (doubled-append t s)
      | inr other ↦ plain_more c t s other.0 (doubled-append t s)
    ]

plain_one : (d : ℕ) → d ≢ 39 → doubled (d ∷ []) ≡ d ∷ []
plain_one d other = let no : (d == 39) ≡ false = neq-eqb d other in rw no refl

abbrev pub closing : ℕ → List ℕ
closing end = 39 ∷ end ∷ []

not_quote : (end : ℕ) → IsEnd end → end ≢ 39
not_quote end is same = elim is [ inl a ↦ absurd (omega (arith, a, same)) | inr b ↦ absurd (omega (arith, b, same)) ]

-- what begins with the doubled text goes on in the value
pub peel : (end : ℕ) → IsEnd end → (t value y : List ℕ) → doubled value ++ closing end ≡ doubled t ++ y
    → (s : List ℕ) × (value ≡ t ++ s) × (doubled s ++ closing end ≡ y)
peel end is [] value y e = (value, refl, e)
peel end is (c ∷ t) [] y e =
    absurd (elim (doubled_cases c t) [
      | inl quote ↦
          let whole : 39 ∷ end ∷ [] ≡ 39 ∷ 39 ∷ (doubled t ++ y) = e ∙ ap (λ (l : List ℕ). l ++ y) quote.1 in
          let same : end ≡ 39 = cc whole in not_quote end is same
      | inr other ↦
          let whole : 39 ∷ end ∷ [] ≡ c ∷ (doubled t ++ y) = e ∙ ap (λ (l : List ℕ). l ++ y) other.1 in
          let same : c ≡ 39 = cc whole in other.0 same
    ])
peel end is (c ∷ t) (d ∷ value) y e =
    elim (doubled_cases c t) [
      | inl quote ↦ elim (doubled_cases d value) [
        | inl same ↦
            let whole : 39 ∷ 39 ∷ (doubled value ++ closing end) ≡ 39 ∷ 39 ∷ (doubled t ++ y) =
            ap (λ (l : List ℕ). l ++ closing end) (sym same.1) ∙ e ∙ ap (λ (l : List ℕ). l ++ y) quote.1 in
            let tail : doubled value ++ closing end ≡ doubled t ++ y = cc whole in
            let more = peel end is t value y tail in
            let head : d ≡ c = same.0 ∙ sym quote.0 in
            (more.0, (λ i. head i ∷ more.1 i), more.2)
        | inr other ↦
            let whole : d ∷ (doubled value ++ closing end) ≡ 39 ∷ 39 ∷ (doubled t ++ y) =
            ap (λ (l : List ℕ). l ++ closing end) (sym other.1) ∙ e ∙ ap (λ (l : List ℕ). l ++ y) quote.1 in
            let head : d ≡ 39 = cc whole in absurd (other.0 head)
      ]
      | inr plain ↦ elim (doubled_cases d value) [
        | inl same ↦
            let whole : 39 ∷ 39 ∷ (doubled value ++ closing end) ≡ c ∷ (doubled t ++ y) =
            ap (λ (l : List ℕ). l ++ closing end) (sym same.1) ∙ e ∙ ap (λ (l : List ℕ). l ++ y) plain.1 in
            let head : c ≡ 39 = cc whole in absurd (plain.0 head)
        | inr other ↦
            let whole : d ∷ (doubled value ++ closing end) ≡ c ∷ (doubled t ++ y) =
            ap (λ (l : List ℕ). l ++ closing end) (sym other.1) ∙ e ∙ ap (λ (l : List ℕ). l ++ y) plain.1 in
            let tail : doubled value ++ closing end ≡ doubled t ++ y = cc whole in
            let head : d ≡ c = cc whole in
            let more = peel end is t value y tail in
            (more.0, (λ i. head i ∷ more.1 i), more.2)
      ]
    ]

pub same_value : (end : ℕ) → IsEnd end → (t value r s : List ℕ) → doubled t ++ (closing end ++ r) ≡ doubled value ++ (closing end ++ s) → t ≡ value
same_value end is [] [] r s e = refl
same_value end is [] (d ∷ value) r s e =
    absurd (elim (doubled_cases d value) [
      | inl quote ↦
          let whole : 39 ∷ end ∷ r ≡ 39 ∷ 39 ∷ (doubled value ++ (closing end ++ s)) = e ∙ ap (λ (l : List ℕ). l ++ (closing end ++ s)) quote.1 in
          let same : end ≡ 39 = cc whole in not_quote end is same
      | inr other ↦
          let whole : 39 ∷ end ∷ r ≡ d ∷ (doubled value ++ (closing end ++ s)) = e ∙ ap (λ (l : List ℕ). l ++ (closing end ++ s)) other.1 in
          let same : d ≡ 39 = cc whole in other.0 same
    ])
same_value end is (c ∷ t) [] r s e =
    absurd (elim (doubled_cases c t) [
      | inl quote ↦
          let whole : 39 ∷ end ∷ s ≡ 39 ∷ 39 ∷ (doubled t ++ (closing end ++ r)) = sym e ∙ ap (λ (l : List ℕ). l ++ (closing end ++ r)) quote.1 in
          let same : end ≡ 39 = cc whole in not_quote end is same
      | inr other ↦
          let whole : 39 ∷ end ∷ s ≡ c ∷ (doubled t ++ (closing end ++ r)) = sym e ∙ ap (λ (l : List ℕ). l ++ (closing end ++ r)) other.1 in
          let same : c ≡ 39 = cc whole in other.0 same
    ])
same_value end is (c ∷ t) (d ∷ value) r s e =
    elim (doubled_cases c t) [
      | inl quote ↦ elim (doubled_cases d value) [
        | inl same ↦
            let whole : 39 ∷ 39 ∷ (doubled t ++ (closing end ++ r)) ≡ 39 ∷ 39 ∷ (doubled value ++ (closing end ++ s)) =
            ap (λ (l : List ℕ). l ++ (closing end ++ r)) (sym quote.1) ∙ e ∙ ap (λ (l : List ℕ). l ++ (closing end ++ s)) same.1 in
            let tail : doubled t ++ (closing end ++ r) ≡ doubled value ++ (closing end ++ s) = cc whole in
            let head : c ≡ d = quote.0 ∙ sym same.0 in
            let others = same_value end is t value r s tail in (λ i. head i ∷ others i)
        | inr other ↦
            let whole : 39 ∷ 39 ∷ (doubled t ++ (closing end ++ r)) ≡ d ∷ (doubled value ++ (closing end ++ s)) =
            ap (λ (l : List ℕ). l ++ (closing end ++ r)) (sym quote.1) ∙ e ∙ ap (λ (l : List ℕ). l ++ (closing end ++ s)) other.1 in
            let head : d ≡ 39 = cc whole in absurd (other.0 head)
      ]
      | inr plain ↦ elim (doubled_cases d value) [
        | inl same ↦
            let whole : c ∷ (doubled t ++ (closing end ++ r)) ≡ 39 ∷ 39 ∷ (doubled value ++ (closing end ++ s)) =
            ap (λ (l : List ℕ). l ++ (closing end ++ r)) (sym plain.1) ∙ e ∙ ap (λ (l : List ℕ). l ++ (closing end ++ s)) same.1 in
            let head : c ≡ 39 = cc whole in absurd (plain.0 head)
        | inr other ↦
            let whole : c ∷ (doubled t ++ (closing end ++ r)) ≡ d ∷ (doubled value ++ (closing end ++ s)) =
            ap (λ (l : List ℕ). l ++ (closing end ++ r)) (sym plain.1) ∙ e ∙ ap (λ (l : List ℕ). l ++ (closing end ++ s)) other.1 in
            let tail : doubled t ++ (closing end ++ r) ≡ doubled value ++ (closing end ++ s) = cc whole in
            let head : c ≡ d = cc whole in
            let others = same_value end is t value r s tail in (λ i. head i ∷ others i)
      ]
    ]

no_capacity : (t s : List ℕ) (d capacity : ℕ) → IsValue (t ++ d ∷ s) → length (encode_utf8_all t) + capacity ≡ MAX_NAME_BYTES → length (encode_utf8 d) ≤ capacity
no_capacity t s d capacity fits used =
    omega (
      arith,
      fits.1,
      used,
      ap length (encodes-append t (d ∷ s)),
      length-append (encode_utf8_all t) (encode_utf8_all (d ∷ s)),
      length-append (encode_utf8 d) (encode_utf8_all s),
    )

value_of : (t : List ℕ) → 1 ≤ length t → length (encode_utf8_all t) ≤ MAX_NAME_BYTES → IsValue t
value_of t some few = (omega (arith, length-le-encodes t, some), few)

letter_value : IsValue (97 ∷ [])
letter_value = value_of (97 ∷ []) (omega arith) (omega (arith, ap length (encode_ascii 97 (omega arith)), length-append (encode_utf8 97) []))

quote_value : IsValue (39 ∷ [])
quote_value = value_of (39 ∷ []) (omega arith) (omega (arith, ap length (encode_ascii 39 (omega arith)), length-append (encode_utf8 39) []))

closing_scalars : (end : ℕ) → IsEnd end → all_scalars (closing end) ≡ true
closing_scalars end is = elim is [ inl a ↦ rw a refl | inr b ↦ rw b refl ]

end_scalars : (end : ℕ) → IsEnd end → all_scalars (end ∷ []) ≡ true
end_scalars end is = elim is [ inl a ↦ rw a refl | inr b ↦ rw b refl ]

-- the front of a quoted text, where nothing after it goes on in one
quoted_stops : (end : ℕ) → IsEnd end → (chars t f rest : List ℕ) → chars ≡ (39 ∷ (doubled t ++ f)) ++ rest → length f ≤ 1
    → Begins (IsAnyQuoted end) (39 ∷ (doubled t ++ f))
    → ((s : List ℕ) (c : ℕ) (u tail after : List ℕ) → IsValue (t ++ s) → rest ≡ c ∷ (u ++ after) → doubled s ++ closing end ≡ f ++ c ∷ (u ++ tail) → ⊥)
    → StopsAt (IsAnyQuoted end) chars (length rest)
quoted_stops end is chars t f rest split short begins bad =
    record {
      front = 39 ∷ (doubled t ++ f);
      rest = rest;
      split = split;
      size = refl;
      begins = begins;
      whole = λ spelled.
          let whole : 39 ∷ (doubled t ++ f) ≡ 39 ∷ (doubled spelled.0 ++ closing end) = spelled.1.1 in
          let tail : doubled spelled.0 ++ closing end ≡ doubled t ++ f = cc whole in
          let more = peel end is t spelled.0 f tail in
          absurd (omega (arith, short, ap length more.2, length-append (doubled more.0) (closing end)));
      longest = λ more after fronts_is begun.
          elim (fronts more after (39 ∷ (doubled t ++ f)) rest (sym fronts_is ∙ split)) [
            | inl longer ↦ within longer.0 more after longer.1 longer.2 begun
            | inr shorter ↦ omega (arith, ap length shorter.2, length-append shorter.0 rest)
          ];
    }
  where
    within : (u more after : List ℕ) → more ≡ (39 ∷ (doubled t ++ f)) ++ u → rest ≡ u ++ after → Begins (IsAnyQuoted end) more → length rest ≤ length after
    within [] more after longer left begun = omega (arith, ap length left)
    within (c ∷ u) more after longer left begun =
        let value = begun.2.0 in
        let whole : 39 ∷ (doubled value ++ closing end) ≡ 39 ∷ (doubled t ++ (f ++ c ∷ (u ++ begun.0))) =
        sym begun.2.1.1 ∙ ap (λ (l : List ℕ). l ++ begun.0) longer ∙ append_assoc (39 ∷ (doubled t ++ f)) (c ∷ u) begun.0
        ∙ ap (λ (l : List ℕ). 39 ∷ l) (append_assoc (doubled t) f (c ∷ (u ++ begun.0))) in
        let tail : doubled value ++ closing end ≡ doubled t ++ (f ++ c ∷ (u ++ begun.0)) = cc whole in
        let rest_of = peel end is t value (f ++ c ∷ (u ++ begun.0)) tail in
        absurd (bad rest_of.0 c u begun.0 after (subst IsValue rest_of.1 begun.2.1.0) left rest_of.2)

-- no quote opens
pub no_open : (end : ℕ) → IsEnd end → (chars : List ℕ) → ((rest : List ℕ) → chars ≡ 39 ∷ rest → ⊥) → StopsAt (IsAnyQuoted end) chars (length chars)
no_open end is chars none =
    record {
      front = [];
      rest = chars;
      split = refl;
      size = refl;
      begins = (39 ∷ 97 ∷ closing end, rw (closing_scalars end is) refl, (97 ∷ [], (letter_value, refl)));
      whole = λ spelled. let no : [] ≡ 39 ∷ (doubled spelled.0 ++ closing end) = spelled.1.1 in cc no;
      longest = λ more after split begun. first more after split begun;
    }
  where
    first : (more after : List ℕ) → chars ≡ more ++ after → Begins (IsAnyQuoted end) more → length chars ≤ length after
    first [] after split begun = omega (arith, ap length split)
    first (c ∷ more) after split begun =
        let whole : c ∷ (more ++ begun.0) ≡ 39 ∷ (doubled begun.2.0 ++ closing end) = begun.2.1.1 in
        let head : c ≡ 39 = cc whole in
        absurd (none (more ++ after) (split ∙ ap (λ (x : ℕ). x ∷ (more ++ after)) head))

begins_open : (end : ℕ) → IsEnd end → (t : List ℕ) → length (encode_utf8_all t) ≤ MAX_NAME_BYTES → Begins (IsAnyQuoted end) (39 ∷ (doubled t ++ []))
begins_open end is [] few = (97 ∷ closing end, rw (closing_scalars end is) refl, (97 ∷ [], (letter_value, refl)))
begins_open end is (c ∷ t) few =
    (closing end, closing_scalars end is, (c ∷ t, (value_of (c ∷ t) (omega arith) few, ap (λ (l : List ℕ). (39 ∷ l) ++ closing end) (append-nil (doubled (c ∷ t))))))

-- the value does not go on, and no quote closes it
pub no_close : (end : ℕ) → IsEnd end → (chars t left : List ℕ) (capacity : ℕ) → chars ≡ (39 ∷ doubled t) ++ left → length (encode_utf8_all t) + capacity ≡ MAX_NAME_BYTES
    → ((c : ℕ) (rest : List ℕ) → IsValueChar left capacity c rest → ⊥) → ((rest : List ℕ) → left ≡ 39 ∷ rest → ⊥) → StopsAt (IsAnyQuoted end) chars (length left)
no_close end is chars t left capacity split used no_char no_quote =
    quoted_stops end is chars t [] left (split ∙ ap (λ (l : List ℕ). (39 ∷ l) ++ left) (sym (append-nil (doubled t)))) (omega arith)
    (begins_open end is t (omega (arith, used))) bad
  where
    bad : (s : List ℕ) (c : ℕ) (u tail after : List ℕ) → IsValue (t ++ s) → left ≡ c ∷ (u ++ after) → doubled s ++ closing end ≡ [] ++ c ∷ (u ++ tail) → ⊥
    bad [] c u tail after fits front e =
        let head : c ≡ 39 = cc e in no_quote (u ++ after) (front ∙ ap (λ (x : ℕ). x ∷ (u ++ after)) head)
    bad (d ∷ s) c u tail after fits front e =
        elim (doubled_cases d s) [
          | inl quote ↦
              let whole : 39 ∷ 39 ∷ (doubled s ++ closing end) ≡ c ∷ (u ++ tail) = ap (λ (l : List ℕ). l ++ closing end) (sym quote.1) ∙ e in
              let head : c ≡ 39 = cc whole in no_quote (u ++ after) (front ∙ ap (λ (x : ℕ). x ∷ (u ++ after)) head)
          | inr other ↦
              let whole : d ∷ (doubled s ++ closing end) ≡ c ∷ (u ++ tail) = ap (λ (l : List ℕ). l ++ closing end) (sym other.1) ∙ e in
              let head : c ≡ d = cc whole in
              let plain : doubled (d ∷ []) ≡ d ∷ [] = plain_one d other.0 in
              no_char d (u ++ after) (front ∙ ap (λ (x : ℕ). x ∷ (u ++ after)) head ∙ ap (λ (l : List ℕ). l ++ (u ++ after)) (sym plain), no_capacity t s d capacity fits used)
        ]

begins_closed : (end : ℕ) → IsEnd end → (t : List ℕ) → length (encode_utf8_all t) ≤ MAX_NAME_BYTES → Begins (IsAnyQuoted end) (39 ∷ (doubled t ++ 39 ∷ []))
begins_closed end is [] few = (39 ∷ closing end, rw (closing_scalars end is) refl, (39 ∷ [], (quote_value, refl)))
begins_closed end is (c ∷ t) few = (
  end ∷ [],
  end_scalars end is,
  (
    c ∷ t,
    (
      value_of (c ∷ t) (omega arith) few,
      ap (λ (l : List ℕ). 39 ∷ l) (append_assoc (doubled (c ∷ t)) (39 ∷ []) (end ∷ [])),
    ),
  ),
)

-- a quote closes the value, and what stands after it is wrong, or the value is empty
pub no_end : (end : ℕ) → IsEnd end → (chars t left rest : List ℕ) (capacity : ℕ) → chars ≡ (39 ∷ doubled t) ++ left → length (encode_utf8_all t) + capacity ≡ MAX_NAME_BYTES
    → ((c : ℕ) (rest : List ℕ) → IsValueChar left capacity c rest → ⊥) → left ≡ 39 ∷ rest
    → ((after : List ℕ) → IsValue t → rest ≡ end ∷ after → ⊥) → StopsAt (IsAnyQuoted end) chars (length rest)
no_end end is chars t left rest capacity split used no_char closes wrong =
    quoted_stops end is chars t (39 ∷ []) rest
    (split ∙ ap (λ (l : List ℕ). (39 ∷ doubled t) ++ l) closes ∙ ap (λ (l : List ℕ). 39 ∷ l) (sym (append_assoc (doubled t) (39 ∷ []) rest)))
    (omega arith) (begins_closed end is t (omega (arith, used))) bad
  where
    bad : (s : List ℕ) (c : ℕ) (u tail after : List ℕ) → IsValue (t ++ s) → rest ≡ c ∷ (u ++ after) → doubled s ++ closing end ≡ (39 ∷ []) ++ c ∷ (u ++ tail) → ⊥
    bad [] c u tail after fits front e =
        let head : c ≡ end = cc e in
        wrong (u ++ after) (subst IsValue (append-nil t) fits) (front ∙ ap (λ (x : ℕ). x ∷ (u ++ after)) head)
    bad (d ∷ s) c u tail after fits front e =
        elim (doubled_cases d s) [
          | inl quote ↦
              let whole : 39 ∷ 39 ∷ (doubled s ++ closing end) ≡ 39 ∷ c ∷ (u ++ tail) = ap (λ (l : List ℕ). l ++ closing end) (sym quote.1) ∙ e in
              let head : c ≡ 39 = cc whole in
              let room_for : length (encode_utf8 d) ≤ capacity = no_capacity t s d capacity fits used in
              let capacity_for_quote : length (encode_utf8 39) ≤ capacity = subst (λ (x : ℕ). length (encode_utf8 x) ≤ capacity) quote.0 room_for in
              no_char 39 (u ++ after) (closes ∙ ap (λ (l : List ℕ). 39 ∷ l) (front ∙ ap (λ (x : ℕ). x ∷ (u ++ after)) head), capacity_for_quote)
          | inr other ↦
              let whole : d ∷ (doubled s ++ closing end) ≡ 39 ∷ c ∷ (u ++ tail) = ap (λ (l : List ℕ). l ++ closing end) (sym other.1) ∙ e in
              let head : d ≡ 39 = cc whole in other.0 head
        ]

pub quoted_free : (end : ℕ) → IsEnd end → PrefixFree (IsAnyQuoted end)
quoted_free end is a r b s in_a in_b e =
    let whole : 39 ∷ (doubled in_a.0 ++ (closing end ++ r)) ≡ 39 ∷ (doubled in_b.0 ++ (closing end ++ s)) =
    ap (λ (l : List ℕ). 39 ∷ l) (sym (append_assoc (doubled in_a.0) (closing end) r)) ∙ ap (λ (l : List ℕ). l ++ r) (sym in_a.1.1) ∙ e
    ∙ ap (λ (l : List ℕ). l ++ s) in_b.1.1 ∙ ap (λ (l : List ℕ). 39 ∷ l) (append_assoc (doubled in_b.0) (closing end) s) in
    let tail : doubled in_a.0 ++ (closing end ++ r) ≡ doubled in_b.0 ++ (closing end ++ s) = cc whole in
    in_a.1.1 ∙ ap (λ (l : List ℕ). 39 ∷ (doubled l ++ closing end)) (same_value end is in_a.0 in_b.0 r s tail) ∙ sym in_b.1.1

pub value_more : (chars t left rest : List ℕ) (c : ℕ) → chars ≡ (39 ∷ doubled t) ++ left → left ≡ doubled (c ∷ []) ++ rest
    → chars ≡ (39 ∷ doubled (t ++ c ∷ [])) ++ rest
value_more chars t left rest c split is =
    split ∙ ap (λ (l : List ℕ). (39 ∷ doubled t) ++ l) is ∙ ap (λ (l : List ℕ). 39 ∷ l) (sym (append_assoc (doubled t) (doubled (c ∷ [])) rest))
    ∙ ap (λ (l : List ℕ). 39 ∷ (l ++ rest)) (sym (doubled-append t (c ∷ [])))

pub capacity_more : (t : List ℕ) (c capacity size : ℕ) → length (encode_utf8_all t) + capacity ≡ MAX_NAME_BYTES → length (encode_utf8 c) ≤ capacity → size ≡ length (encode_utf8 c)
    → length (encode_utf8_all (t ++ c ∷ [])) + (capacity - size) ≡ MAX_NAME_BYTES
capacity_more t c capacity size used fits is =
    omega (arith, used, fits, is, ap length (encodes-append t (c ∷ [])), length-append (encode_utf8_all t) (encode_utf8_all (c ∷ [])), length-append (encode_utf8 c) [])

pub quoted_taken : (chars t left rest after : List ℕ) (end capacity : ℕ) → chars ≡ (39 ∷ doubled t) ++ left → left ≡ 39 ∷ rest → rest ≡ end ∷ after
    → length (encode_utf8_all t) + capacity ≡ MAX_NAME_BYTES → 1 ≤ length t → (front : List ℕ) × (chars ≡ front ++ after) × IsQuoted t end front
quoted_taken chars t left rest after end capacity split closes ends used some = (
  39 ∷ (doubled t ++ closing end),
  split ∙ ap (λ (l : List ℕ). (39 ∷ doubled t) ++ l) (closes ∙ ap (λ (l : List ℕ). 39 ∷ l) ends)
      ∙ ap (λ (l : List ℕ). 39 ∷ l) (sym (append_assoc (doubled t) (closing end) after)),
  (value_of t some (omega (arith, used)), refl),
)

pub no_chars : (t : List ℕ) → length t ≡ 0 → length (encode_utf8_all t) ≤ 0
no_chars [] none = omega arith
no_chars (c ∷ t) none = absurd (omega (arith, none))

pub some_chars : (t : List ℕ) → (length t == 0) ≡ false → 1 ≤ length t
some_chars [] some = absurd (true≢false some)
some_chars (c ∷ t) some = omega arith

pub quoted_some : (end : ℕ) → IsEnd end → (text : List ℕ) × (all_scalars text ≡ true) × IsAnyQuoted end text
quoted_some end is = (39 ∷ 97 ∷ closing end, rw (closing_scalars end is) refl, (97 ∷ [], (letter_value, refl)))
