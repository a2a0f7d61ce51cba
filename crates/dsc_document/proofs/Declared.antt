-- The resources that instances declare, in their order.
use Rattle.std.proofs.Common.{◌≡◌, ◌⊎◌, inl, inr, ℕ, zero, suc, ◌+◌, ◌<◌, ◌≤◌, List, [], ◌∷◌, ◌++◌, length, All, Option, Some, None, filter_map, option_map, option_and_then, slice_get, slice_index_or, refl, sym, ap, subst, ◌∙◌, arith, append_assoc, append-nil}
use Rattle.mof_values.specs.declared.value.Value.{Value}
use Rattle.std.specs.Prelude.{if◌then◌else◌, codes, true, false, AllPairs, Any, IsSomeAnd}
use Rattle.std.specs.List.{cons_option, enumerate_from}
use Rattle.std.proofs.lemmas.List.Elements.{All-cons, All-nil, All-push}
use Rattle.std.proofs.lemmas.Bool.{cases_Bool}
use Rattle.std.proofs.lemmas.List.Kept.{AllPairs-cons}
use Rattle.std.proofs.lemmas.Option.{none-some, same_Some}
use Rattle.mof_values.specs.Fold.{SameName}
use Rattle.mof_values.specs.declared.instance.Instance.{Instance}
use Rattle.mof_values.specs.Values.{text_of, value_named}
use Rattle.dsc_document.specs.Declarations.{depends_of, id_of, is_header}
use Rattle.dsc_document.specs.Dependencies.{HasDistinctIds, IsId, NamesResources}
use Rattle.dsc_document.specs.Names.{IsName, ShareName}
use Rattle.dsc_document.specs.Tests.{KeepsUpTo, NoneApplies}
use Rattle.dsc_document.specs.Rules.{IsFirstUnknown, document_of, id_at, resource_at, texts_to_depend_on, known_dependencies}
use Rattle.dsc_document.specs.declared.document.Document.{Document}
use Rattle.dsc_document.specs.declared.error.DocError.TheVariants.{DependsUnknown, DuplicateId, NoHeader}
use Rattle.dsc_document.specs.declared.document.Resource.{Resource}
use Rattle.dsc_document.proofs.FoldKeys.{cases_same_name}

abbrev pub resources_from : ℕ → List Instance → List Resource
resources_from n instances = filter_map resource_at (enumerate_from n instances)

-- ---- what holds of each

module _ (P : Resource → Type 0) where
  abbrev OfInstances : List Instance → Type 0
  OfInstances instances = (k m : ℕ) (i : Instance) (r : Resource) → slice_get instances k ≡ Some i → resource_at (m, i) ≡ Some r → P r

  all_joined : (o : Option Resource) (rs : List Resource) → ((r : Resource) → o ≡ Some r → P r) → All P rs → All P (cons_option o rs)
  all_joined None rs here after = after
  all_joined (Some r) rs here after = All-cons P r rs (here r refl) after

  pub all_from : (n : ℕ) (instances : List Instance) → OfInstances instances → All P (resources_from n instances)
  all_from n [] each = All-nil P
  all_from n (i ∷ is) each =
      all_joined (resource_at (n, i)) (resources_from (n + 1) is) (λ r e. each 0 n i r refl e)
      (all_from (n + 1) is (λ k m j r at e. each (suc k) m j r at e))

  any_there : (r : Resource) (rs : List Resource) → Any P rs → Any P (r ∷ rs)
  any_there r rs found = (suc found.0, found.1, omega (arith, found.2), found.3, found.4)

  any_joined : (o : Option Resource) (rs : List Resource) → Any P rs → Any P (cons_option o rs)
  any_joined None rs found = found
  any_joined (Some r) rs found = any_there r rs found

  any_first : (o : Option Resource) (rs : List Resource) (r : Resource) → o ≡ Some r → P r → Any P (cons_option o rs)
  any_first o rs r is holds = subst (λ w. Any P (cons_option w rs)) (sym is) (0, r, omega arith, refl, holds)

  -- a resource that an instance declares is among them
  pub any_from : (n : ℕ) (instances : List Instance) (k : ℕ) (i : Instance) → slice_get instances k ≡ Some i
      → ((m : ℕ) → (r : Resource) × (resource_at (m, i) ≡ Some r) × P r) → Any P (resources_from n instances)
  any_from n [] k i at made = absurd (none-some i at)
  any_from n (j ∷ is) zero i at made =
      let found = made n in
      any_first (resource_at (n, j)) (resources_from (n + 1) is) found.0 (ap (λ x. resource_at (n, x)) (same_Some j i at) ∙ found.1) found.2
  any_from n (j ∷ is) (suc k) i at made = any_joined (resource_at (n, j)) (resources_from (n + 1) is) (any_from (n + 1) is k i at made)

-- what a declared resource is
abbrev declaration : ℕ → Instance → List ℕ → Resource
declaration n i id = record { id = id; part = 0; index = n; instance = i; depends = depends_of i }

declared : (n : ℕ) (i : Instance) (r : Resource) (o : Option (List ℕ)) → id_of i ≡ o
    → option_map (declaration n i) o ≡ Some r
    → (id_of i ≡ Some r.id) × (r.depends ≡ depends_of i) × (r.part ≡ 0)
declared n i r None is made = absurd (none-some r made)
declared n i r (Some id) is made =
    let same = same_Some _ r made in
    (is ∙ ap (λ (x : Resource). Some x.id) same, sym (ap (λ (x : Resource). x.depends) same), sym (ap (λ (x : Resource). x.part) same))

pub declared_by : (n : ℕ) (i : Instance) (r : Resource) → resource_at (n, i) ≡ Some r → (id_of i ≡ Some r.id) × (r.depends ≡ depends_of i) × (r.part ≡ 0)
declared_by n i r made = declared n i r (id_of i) refl made

-- ---- ids differ

at_instance : (instances : List Instance) (k : ℕ) (i : Instance) → slice_get instances k ≡ Some i → id_at instances k ≡ id_of i
at_instance instances k i at = ap (option_and_then id_of) at

abbrev Apart : Resource → Resource → Type 0
Apart a b = SameName a.id b.id → ⊥

apart_joined : (o : Option Resource) (rs : List Resource) → ((r : Resource) → o ≡ Some r → All (Apart r) rs) → AllPairs Apart rs → AllPairs Apart (cons_option o rs)
apart_joined None rs here after = after
apart_joined (Some r) rs here after = AllPairs-cons Apart r rs (here r refl) after

pub distinct_from : (n : ℕ) (instances : List Instance) → ((first second : ℕ) → ShareName (id_at instances) first second → ⊥) → AllPairs Apart (resources_from n instances)
distinct_from n [] none = λ i j d before within. absurd (omega (arith, before, within))
distinct_from n (i ∷ is) none =
    apart_joined (resource_at (n, i)) (resources_from (n + 1) is)
    (λ r e. all_from (Apart r) (n + 1) is (λ k m j s at made same.
    none 0 (suc k) (omega arith, r.id, s.id, (declared_by n i r e).0, at_instance is k j at ∙ (declared_by m j s made).0, same)))
    (distinct_from (n + 1) is (λ first second shared.
    none (suc first) (suc second) (omega (arith, shared.0), shared.1, shared.2, shared.3, shared.4, shared.5)))

-- ---- names are ids

module _ (i : Instance) (is : List Instance) (name : List ℕ) (elsewhere : (other : List ℕ) → id_of i ≡ Some other → SameName other name → ⊥) where
  not_after : (IsName (id_at is) name → ⊥) → (k : ℕ) (other : List ℕ) → id_at (i ∷ is) k ≡ Some other → SameName other name → ⊥
  not_after unnamed zero other at same = elsewhere other at same
  not_after unnamed (suc k) other at same = unnamed (k, other, at, same)

  named_after : IsName (id_at is) name ⊎ (IsName (id_at is) name → ⊥) → IsName (id_at (i ∷ is)) name ⊎ (IsName (id_at (i ∷ is)) name → ⊥)
  named_after (inl named) = inl (suc named.0, named.1, named.2, named.3)
  named_after (inr unnamed) = inr (λ named. not_after unnamed named.0 named.1 named.2 named.3)

module _ (i : Instance) (is : List Instance) (name : List ℕ) where
  named_here : IsName (id_at is) name ⊎ (IsName (id_at is) name → ⊥) → (o : Option (List ℕ)) → id_of i ≡ o
      → IsName (id_at (i ∷ is)) name ⊎ (IsName (id_at (i ∷ is)) name → ⊥)
  named_here after None none = named_after i is name (λ other at same. none-some other (sym none ∙ at)) after
  named_here after (Some id) is_id = elim (cases_same_name id name) [
    | inl same ↦ inl (0, id, is_id, same)
    | inr differs ↦ named_after i is name (λ other at same. differs (subst (λ x. SameName x name) (sym (same_Some id other (sym is_id ∙ at))) same)) after
  ]

is_name : (instances : List Instance) (name : List ℕ) → IsName (id_at instances) name ⊎ (IsName (id_at instances) name → ⊥)
is_name [] name = inr (λ named. none-some named.1 named.2)
is_name (i ∷ is) name = named_here i is name (is_name is name) (id_of i) refl

-- where no name is the first unknown one, all are known
known_from : (instances : List Instance) (names passed rest : List (List ℕ)) → ((name : List ℕ) → IsFirstUnknown instances names name → ⊥)
    → names ≡ passed ++ rest → All (IsName (id_at instances)) passed → All (IsName (id_at instances)) names
known_from instances names passed [] none split known = subst (All (IsName (id_at instances))) (sym (split ∙ append-nil passed)) known
known_from instances names passed (name ∷ rest) none split known = elim (is_name instances name) [
  | inl named ↦ known_from instances names (passed ++ name ∷ []) rest none
      (split ∙ sym (append_assoc passed (name ∷ []) rest)) (All-push (IsName (id_at instances)) passed name known named)
  | inr unnamed ↦ absurd (none name (passed, rest, split, known, unnamed))
]

-- a name that an instance has as its id is the id of a resource
id_declared : (instances : List Instance) (name : List ℕ) → IsName (id_at instances) name → IsId (resources_from 0 instances) name
id_declared instances name named = at (slice_get instances named.0) refl
  where
    made : (i : Instance) → id_of i ≡ Some named.1 → (m : ℕ) → (r : Resource) × (resource_at (m, i) ≡ Some r) × SameName name r.id
    made i is m = (record { id = named.1; part = 0; index = m; instance = i; depends = depends_of i }, ap (option_map (declaration m i)) is, sym named.3)

    at : (o : Option Instance) → slice_get instances named.0 ≡ o → IsId (resources_from 0 instances) name
    at None is = absurd (none-some named.1 (sym (ap (option_and_then id_of) is) ∙ named.2))
    at (Some i) is = any_from (λ r. SameName name r.id) 0 instances named.0 i is (made i (sym (at_instance instances named.0 i is) ∙ named.2))

pub known_declared : (instances : List Instance) → ((k : ℕ) (i : Instance) (name : List ℕ) → slice_get instances k ≡ Some i → IsFirstUnknown instances (depends_of i) name → ⊥)
    → All (λ r. All (IsId (resources_from 0 instances)) r.depends) (resources_from 0 instances)
known_declared instances none =
    all_from (λ r. All (IsId (resources_from 0 instances)) r.depends) 0 instances
    (λ k m i r at made.
    let known = known_from instances (depends_of i) [] (depends_of i) (λ name. none k i name at) refl (All-nil (IsName (id_at instances))) in
    subst (All (IsId (resources_from 0 instances))) (sym (declared_by m i r made).1)
    (λ j d within. id_declared instances (slice_index_or (depends_of i) j d) (known j d within)))

-- ---- how many

few_joined : (o : Option Resource) (rs : List Resource) (n : ℕ) → length rs < n → length (cons_option o rs) < n + 1
few_joined None rs n below = omega (arith, below)
few_joined (Some r) rs n below = omega (arith, below)

most_joined : (o : Option Resource) (rs : List Resource) (n : ℕ) → length rs ≤ n → length (cons_option o rs) ≤ n + 1
most_joined None rs n within = omega (arith, within)
most_joined (Some r) rs n within = omega (arith, within)

most_from : (n : ℕ) (instances : List Instance) → length (resources_from n instances) ≤ length instances
most_from n [] = omega arith
most_from n (i ∷ is) =
    let within = most_joined (resource_at (n, i)) (resources_from (n + 1) is) (length is) (most_from (n + 1) is) in
    omega (arith, within)

id_of_header : (i : Instance) (v : Option Value) → is_header i ≡ true → option_and_then text_of (if is_header i then None else v) ≡ None
id_of_header i v header = ap (λ b. option_and_then text_of (if b then None else v)) header

header_first : (n : ℕ) (i : Instance) (rs : List Resource) → is_header i ≡ true → length (cons_option (resource_at (n, i)) rs) ≡ length rs
header_first n i rs header =
    ap (λ id. length (cons_option (option_map (declaration n i) id) rs)) (id_of_header i (value_named (codes "ResourceID") i) header)

-- a header is no resource
few_from : (n : ℕ) (instances : List Instance) → (length (resources_from n instances) < length instances) ⊎ All (λ i. is_header i ≡ false) instances
few_from n [] = inr (All-nil (λ i. is_header i ≡ false))
few_from n (i ∷ is) = elim (cases_Bool (is_header i)) [
  | inl header ↦ inl (let same = header_first n i (resources_from (n + 1) is) header in omega (arith, same, most_from (n + 1) is))
  | inr plain ↦ elim (few_from (n + 1) is) [
    | inl few ↦ inl (let more = few_joined (resource_at (n, i)) (resources_from (n + 1) is) (length is) few in omega (arith, more))
    | inr none ↦ inr (All-cons (λ j. is_header j ≡ false) i is plain none)
  ]
]

-- ---- documents

module _ (instances : List Instance) (document : Document) (made : document ≡ document_of instances) where
  pub document_few : KeepsUpTo texts_to_depend_on instances → length document.resources < length instances
  document_few kept = elim (few_from 0 instances) [
    | inl few ↦ let same : length document.resources ≡ length (resources_from 0 instances) = ap (λ (d : Document). length d.resources) made in omega (arith, few, same)
    | inr none ↦ absurd (kept NoHeader (omega arith) none)
  ]

  pub document_distinct : KeepsUpTo texts_to_depend_on instances → HasDistinctIds document
  document_distinct kept = subst HasDistinctIds (sym made)
      (distinct_from 0 instances (λ first second shared. kept (DuplicateId first second) (omega arith) shared))

  pub document_known : NoneApplies known_dependencies instances → NamesResources document
  document_known none = subst NamesResources (sym made)
      (known_declared instances (λ k i name at first. none (DependsUnknown k name) refl (subst (λ o. IsSomeAnd o (λ j. IsFirstUnknown instances (depends_of j) name)) (sym at) first)))

  pub document_part : All (λ r. r.part ≡ 0) document.resources
  document_part = subst (λ (d : Document). All (λ r. r.part ≡ 0) d.resources) (sym made)
      (all_from (λ r. r.part ≡ 0) 0 instances (λ k m i r at is. (declared_by m i r is).2))
