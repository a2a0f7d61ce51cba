-- Whether characters are the id of a resource is decided.
use Rattle.std.proofs.Common.{◌≡◌, ◌≢◌, inl, inr, ℕ, true, false, List, [], ◌∷◌, ◌++◌, length, refl, sym, ap, ◌∙◌}
use Rattle.std.specs.Prelude.{encode_utf8_all}
use Rattle.std.specs.List.{list_all}
use Rattle.std.proofs.lemmas.Bool.{and_from, and_parts, cases_Bool, cases_eq}
use Rattle.dsc_document.specs.Declarations.{HasKindAndName, IsResourceId, is_plain}
use Rattle.dsc_document.specs.declared.limits.TheConstants.{MAX_ID}
use Rattle.document_laws.proofs.Decided.{Decided, at_most_decided, both_decided, decided_as}

-- what is left of a kind, the bracket that ends it, and a name
record EndsKind (chars : List ℕ) : Type 0 where
  kind : List ℕ
  name : List ℕ
  spelled : chars ≡ kind ++ 93 ∷ name
  some_name : name ≢ []
  no_bracket : list_all is_plain kind ≡ true

nothing_ends : (kind name : List ℕ) → [] ≡ kind ++ 93 ∷ name → ⊥
nothing_ends [] name e = absurd cc
nothing_ends (k ∷ kind) name e = absurd cc

-- the closing bracket is in no kind
closing_first : (c : ℕ) (cs kind name : List ℕ) → c ≡ 93 → c ∷ cs ≡ kind ++ 93 ∷ name → list_all is_plain kind ≡ true → cs ≡ name
closing_first c cs [] name closes e plain = cc
closing_first c cs (k ∷ kind) name closes e plain =
    let same : k ≡ 93 = cc in
    let bracket : is_plain k ≡ false = ap is_plain same in
    absurd (cc ((and_parts (is_plain k) (list_all is_plain kind) plain).0, bracket))

-- what does not begin with it begins with the rest of the kind
record Goes (c : ℕ) (cs kind name : List ℕ) : Type 0 where
  plain : is_plain c ≡ true
  more : List ℕ
  is : kind ≡ c ∷ more
  spelled : cs ≡ more ++ 93 ∷ name
  no_bracket : list_all is_plain more ≡ true

goes_on : (c : ℕ) (cs kind name : List ℕ) → (c ≡ 93 → ⊥) → c ∷ cs ≡ kind ++ 93 ∷ name → list_all is_plain kind ≡ true → Goes c cs kind name
goes_on c cs [] name other e plain = let same : c ≡ 93 = cc in absurd (other same)
goes_on c cs (k ∷ kind) name other e plain =
    let same : k ≡ c = cc in
    let parts = and_parts (is_plain k) (list_all is_plain kind) plain in
    record { plain = sym (ap is_plain same) ∙ parts.0; more = kind; is = cc; spelled = cc; no_bracket = parts.1 }

cons_same : (c d : ℕ) (cs ds : List ℕ) → c ≡ d → cs ≡ ds → c ∷ cs ≡ d ∷ ds
cons_same c d cs ds first rest = cc

more_kind : (c : ℕ) (cs : List ℕ) → is_plain c ≡ true → EndsKind cs → EndsKind (c ∷ cs)
more_kind c cs plain ends = record {
  kind = c ∷ ends.kind;
  name = ends.name;
  spelled = ap (λ (l : List ℕ). c ∷ l) ends.spelled;
  some_name = ends.some_name;
  no_bracket = and_from (is_plain c) (list_all is_plain ends.kind) plain ends.no_bracket;
}

closes_decided : (c : ℕ) (cs : List ℕ) → c ≡ 93 → Decided (EndsKind (c ∷ cs))
closes_decided c [] closes = inr (λ ends. ends.some_name (sym (closing_first c [] ends.kind ends.name closes ends.spelled ends.no_bracket)))
closes_decided c (d ∷ ds) closes = inl (record {
  kind = [];
  name = d ∷ ds;
  spelled = cons_same c 93 (d ∷ ds) (d ∷ ds) closes refl;
  some_name = λ e. cc;
  no_bracket = refl;
})

ends_decided : (chars : List ℕ) → Decided (EndsKind chars)
ends_decided [] = inr (λ ends. nothing_ends ends.kind ends.name ends.spelled)
ends_decided (c ∷ cs) = elim (cases_eq c 93) [
  | inl closes ↦ closes_decided c cs closes
  | inr other ↦ elim (cases_Bool (is_plain c)) [
    | inl plain ↦ decided_as (ends_decided cs) (more_kind c cs plain) (λ ends.
        let on = goes_on c cs ends.kind ends.name other ends.spelled ends.no_bracket in
        record { kind = on.more; name = ends.name; spelled = on.spelled; some_name = ends.some_name; no_bracket = on.no_bracket })
    | inr bracket ↦ inr (λ ends. absurd (cc ((goes_on c cs ends.kind ends.name other ends.spelled ends.no_bracket).plain, bracket)))
  ]
]

-- a kind and a name, of which the first bracket was read
abbrev AfterBracket : List ℕ → Type 0
AfterBracket chars = (ends : EndsKind chars) × (ends.kind ≢ [])

some_kind : (c : ℕ) (cs : List ℕ) → is_plain c ≡ true → (kind name : List ℕ) → c ∷ cs ≡ kind ++ 93 ∷ name → kind ≢ []
some_kind c cs plain kind name e none =
    let same : c ∷ cs ≡ 93 ∷ name = e ∙ ap (λ (l : List ℕ). l ++ 93 ∷ name) none in
    let closes : c ≡ 93 = cc in
    absurd (cc (plain, ap is_plain closes))

no_kind : (c : ℕ) (cs : List ℕ) → is_plain c ≡ false → (kind name : List ℕ) → c ∷ cs ≡ kind ++ 93 ∷ name → list_all is_plain kind ≡ true → kind ≢ [] → ⊥
no_kind c cs bracket [] name e plain some = some refl
no_kind c cs bracket (k ∷ kind) name e plain some =
    let same : k ≡ c = cc in
    absurd (cc ((and_parts (is_plain k) (list_all is_plain kind) plain).0, bracket, ap is_plain same))

after_decided : (chars : List ℕ) → Decided (AfterBracket chars)
after_decided [] = inr (λ ends. nothing_ends ends.0.kind ends.0.name ends.0.spelled)
after_decided (c ∷ cs) = elim (cases_Bool (is_plain c)) [
  | inl plain ↦ decided_as (ends_decided (c ∷ cs)) (λ ends. (ends, some_kind c cs plain ends.kind ends.name ends.spelled)) (λ after. after.0)
  | inr bracket ↦ inr (λ after. no_kind c cs bracket after.0.kind after.0.name after.0.spelled after.0.no_bracket after.1)
]

kind_and_name_decided : (id : List ℕ) → Decided (HasKindAndName id)
kind_and_name_decided [] = inr (λ has. absurd (nothing_opens has.kind has.name has.spelled))
  where
    nothing_opens : (kind name : List ℕ) → [] ≡ 91 ∷ kind ++ 93 ∷ name → ⊥
    nothing_opens kind name e = absurd cc
kind_and_name_decided (c ∷ cs) = elim (cases_eq c 91) [
  | inl opens ↦ decided_as (after_decided cs) (λ after. record {
    kind = after.0.kind;
    name = after.0.name;
    spelled = cons_same c 91 cs (after.0.kind ++ 93 ∷ after.0.name) opens after.0.spelled;
    some_kind = after.1;
    some_name = after.0.some_name;
    no_bracket = after.0.no_bracket;
  }) (λ has. (
    record { kind = has.kind; name = has.name; spelled = rest_of has.kind has.name has.spelled; some_name = has.some_name; no_bracket = has.no_bracket },
    has.some_kind,
  ))
  | inr other ↦ inr (λ has. other (first_of has.kind has.name has.spelled))
]
  where
    first_of : (kind name : List ℕ) → c ∷ cs ≡ 91 ∷ kind ++ 93 ∷ name → c ≡ 91
    first_of kind name e = cc

    rest_of : (kind name : List ℕ) → c ∷ cs ≡ 91 ∷ kind ++ 93 ∷ name → cs ≡ kind ++ 93 ∷ name
    rest_of kind name e = cc

pub resource_id_decided : (id : List ℕ) → Decided (IsResourceId id)
resource_id_decided id = both_decided (kind_and_name_decided id) (at_most_decided (length (encode_utf8_all id)) MAX_ID)
