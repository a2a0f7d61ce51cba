-- Of each rule of the rules of documents it is found that no refusal of it applies, or which one that applies is first.
use Rattle.std.proofs.Common.{◌≡◌, ◌⊎◌, inl, inr, ℕ, ◌<◌, false, List, All, Option, Some, None, IsSomeAnd, length, option_and_then, option_map, slice_get, refl, subst, arith}
use Rattle.std.specs.Prelude.{Contains, IsTrue, slice_index_or}
use Rattle.std.proofs.lemmas.Bool.{both_ways, cases_Bool, cases_lt}
use Rattle.std.proofs.lemmas.Option.{get_or_from_slice_get, slice_get-get_or, slice_get_within}
use Rattle.mof_values.specs.declared.instance.Instance.{Instance}
use Rattle.mof_values.specs.declared.instance.Property.{Property}
use Rattle.mof_values.specs.declared.value.Scalar.{Scalar}
use Rattle.mof_values.specs.declared.value.Scalar.TheVariants as scalars
use Rattle.mof_values.specs.declared.value.Scalar.TheVariants.{Alias}
use Rattle.mof_values.specs.declared.value.Value.{Value}
use Rattle.dsc_document.specs.Tests.{IsFirstOf, NoneApplies}
use Rattle.mof_values.specs.Values.{scalars_of, text_of}
use Rattle.dsc_document.specs.Declarations.{IsResourceId, depends_of, depends_value, id_of, id_value, is_header, is_list_of_texts}
use Rattle.dsc_document.specs.Names.{IsName}
use Rattle.dsc_document.specs.Rules.{Applies, HasAt, HasBadDependsOn, HasBadId, IsFirstUnknown, IsIdValue, NamesNoAlias, RepeatsName, StandsBefore, alias_at, distinct_aliases, distinct_ids, distinct_property_names, id_at, indexes_of, known_dependencies, one_header, property_name_at, resource_ids, some_header, texts_to_depend_on}
use Rattle.dsc_document.specs.Rules as rules
use Rattle.dsc_document.specs.declared.error.DocError.{DocError}
use Rattle.dsc_document.specs.declared.error.DocError.TheVariants.{AliasUnknown, BadDependsOn, BadResourceId, DependsUnknown, DuplicateId, DuplicateProperty, Memory, NoHeader, TwoAliases, TwoHeaders}
use Rattle.dsc_document.proofs.RefusalsOfRules.{earlier, only_alias_unknown, only_bad_depends_on, only_bad_resource_id, only_depends_unknown, only_duplicate_id, only_duplicate_property, only_no_header, only_two_aliases, only_two_headers}
use Rattle.depend_order.proofs.Options.{some_is, some_of}
use Rattle.document_laws.proofs.Decided.{Decided, both_decided, decided_as, false_decided, less_decided, opposite_decided, some_decided, true_decided}
use Rattle.document_laws.proofs.Ids.{resource_id_decided}
use Rattle.document_laws.proofs.Least.{IsLeast}
use Rattle.document_laws.proofs.Members.{first_place_or_none, first_without_decided, member_decided, within_list}
use Rattle.document_laws.proofs.Names.{name_decided, shared_or_apart}
use Rattle.document_laws.proofs.Pairs.{pair_or_none}

-- a name that a fact of an option's value has, taken out of the option, and put into it
module _ {A : Type 0} (P : A → List ℕ → Type 0) where
  name_out : (o : Option A) → IsSomeAnd o (λ x. (name : List ℕ) × P x name) → (name : List ℕ) × IsSomeAnd o (λ x. P x name)
  name_out None none = absurd none
  name_out (Some x) named = named

  name_in : (o : Option A) (name : List ℕ) → IsSomeAnd o (λ x. P x name) → IsSomeAnd o (λ x. (name : List ℕ) × P x name)
  name_in None name none = none
  name_in (Some x) name holds = (name, holds)

module _ (instances : List Instance) where
  abbrev pub Tested : ℕ → Type 0
  Tested rule = NoneApplies rule instances ⊎ ((refusal : DocError) × IsFirstOf rule instances refusal)

  -- what applies at one index, and at none before it
  module _ (Has : Instance → Type 0) (decided : (i : Instance) → Decided (Has i)) where
    index_or_none : ((index : ℕ) × IsLeast (λ k. HasAt instances k Has) index) ⊎ ((k : ℕ) → HasAt instances k Has → ⊥)
    index_or_none = first_place_or_none Has decided instances

    none_before : (index : ℕ) → IsLeast (λ k. HasAt instances k Has) index → (k : ℕ) → StandsBefore (k, 0) (index, 0) → HasAt instances k Has → ⊥
    none_before index is k before has = is.least k (earlier k index before) has

  -- out of memory never applies
  pub memory : Tested 0
  memory = inl none
    where
      none : NoneApplies 0 instances
      none Memory is applies = applies
      none _ is applies = absurd (omega (arith, is))

  -- a property's name that stands before it

  repeats_decided : (i : Instance) → Decided ((name : List ℕ) × RepeatsName i.properties name)
  repeats_decided i = elim (shared_or_apart (property_name_at i.properties) (length i.properties) (λ k name is. within_list (option_map (λ (p : Property). p.name)) i.properties refl k name is)) [
    | inl found ↦ inl (
      found.2.related.2,
      record {
        first = found.0;
        second = found.1;
        shared = found.2.related;
        least = λ a b shared. elim (cases_lt b found.1) [
          | inl before ↦ absurd (found.2.earliest a b (inl before) shared)
          | inr past ↦ past
        ];
        spelled = found.2.related.4;
      },
    )
    | inr apart ↦ inr (λ repeats. apart repeats.1.first repeats.1.second repeats.1.shared)
  ]

  abbrev Repeats : Instance → List ℕ → Type 0
  Repeats i name = RepeatsName i.properties name

  pub properties : Tested distinct_property_names
  properties = elim (index_or_none (λ i. (name : List ℕ) × Repeats i name) repeats_decided) [
    | inl found ↦
        let named = name_out Repeats (slice_get instances found.0) found.1.holds in
        inr (
          DuplicateProperty found.0 named.0,
          record {
            is = refl;
            applies = named.1;
            first = only_duplicate_property (λ r. StandsBefore (indexes_of r) (found.0, 0) → Applies instances r → ⊥)
                (λ k name before has. none_before (λ i. (name : List ℕ) × Repeats i name) repeats_decided found.0 found.1 k before (name_in Repeats (slice_get instances k) name has));
          },
        )
    | inr none ↦ inl (only_duplicate_property (λ r. Applies instances r → ⊥) (λ k name has. none k (name_in Repeats (slice_get instances k) name has)))
  ]

  -- aliases

  within_aliases : (k : ℕ) (name : List ℕ) → alias_at instances k ≡ Some name → k < length instances
  within_aliases k name is = within_list (option_and_then (λ (i : Instance). i.alias)) instances refl k name is

  pub aliases : Tested distinct_aliases
  aliases = elim (shared_or_apart (alias_at instances) (length instances) within_aliases) [
    | inl found ↦ inr (
      TwoAliases found.0 found.1,
      record {
        is = refl;
        applies = found.2.related;
        first = only_two_aliases (λ r. StandsBefore (indexes_of r) (found.1, found.0) → Applies instances r → ⊥) (λ i j before shared. found.2.earliest i j before shared);
      },
    )
    | inr apart ↦ inl (only_two_aliases (λ r. Applies instances r → ⊥) apart)
  ]

  abbrev IsUnknownAlias : Scalar → Type 0
  IsUnknownAlias scalar = (alias : List ℕ) × (scalar ≡ Alias alias) × (IsName (alias_at instances) alias → ⊥)

  unknown_alias_decided : (scalar : Scalar) → Decided (IsUnknownAlias scalar)
  unknown_alias_decided (scalars.Alias name) = elim (name_decided (alias_at instances) (length instances) within_aliases name) [
    | inl known ↦ inr (λ unknown. let same : name ≡ unknown.0 = same_alias name unknown.0 unknown.1 in unknown.2 (subst (IsName (alias_at instances)) same known))
    | inr unknown ↦ inl (name, refl, unknown)
  ]
    where
      same_alias : (a b : List ℕ) → scalars.Alias a ≡ Alias b → a ≡ b
      same_alias a b e = cc
  unknown_alias_decided (scalars.Text text) = inr (λ unknown. no_alias unknown.0 unknown.1)
    where
      no_alias : (alias : List ℕ) → scalars.Text text ≡ Alias alias → ⊥
      no_alias alias e = absurd cc
  unknown_alias_decided (scalars.Integer z) = inr (λ unknown. no_alias unknown.0 unknown.1)
    where
      no_alias : (alias : List ℕ) → scalars.Integer z ≡ Alias alias → ⊥
      no_alias alias e = absurd cc
  unknown_alias_decided (scalars.Bool b) = inr (λ unknown. no_alias unknown.0 unknown.1)
    where
      no_alias : (alias : List ℕ) → scalars.Bool b ≡ Alias alias → ⊥
      no_alias alias e = absurd cc
  unknown_alias_decided scalars.Null = inr (λ unknown. no_alias unknown.0 unknown.1)
    where
      no_alias : (alias : List ℕ) → scalars.Null ≡ Alias alias → ⊥
      no_alias alias e = absurd cc

  abbrev HoldsUnknownAlias : Property → Type 0
  HoldsUnknownAlias property = (scalar : Scalar) × Contains (scalars_of property.value) scalar × IsUnknownAlias scalar

  names_no_alias_decided : (i : Instance) → Decided (NamesNoAlias instances i)
  names_no_alias_decided i =
      decided_as (member_decided HoldsUnknownAlias (λ property. member_decided IsUnknownAlias unknown_alias_decided (scalars_of property.value)) i.properties)
      (λ found. record {
        property = found.0;
        alias = found.2.2.0;
        declared = found.1;
        named = subst (Contains (scalars_of found.0.value)) found.2.2.1 found.2.1;
        unknown = found.2.2.2;
      })
      (λ names. (names.property, names.declared, (Alias names.alias, names.named, (names.alias, refl, names.unknown))))

  pub known_aliases : Tested rules.known_aliases
  known_aliases = elim (index_or_none (NamesNoAlias instances) names_no_alias_decided) [
    | inl found ↦ inr (
      AliasUnknown found.0,
      record {
        is = refl;
        applies = found.1.holds;
        first = only_alias_unknown (λ r. StandsBefore (indexes_of r) (found.0, 0) → Applies instances r → ⊥) (none_before (NamesNoAlias instances) names_no_alias_decided found.0 found.1);
      },
    )
    | inr none ↦ inl (only_alias_unknown (λ r. Applies instances r → ⊥) none)
  ]

  -- headers

  abbrev IsHeader : Instance → Type 0
  IsHeader i = IsTrue (is_header i)

  header_decided : (i : Instance) → Decided (IsHeader i)
  header_decided i = true_decided (is_header i)

  no_header_unless : ((k : ℕ) → HasAt instances k IsHeader → ⊥) → All (λ i. is_header i ≡ false) instances
  no_header_unless none k d within = elim (cases_Bool (is_header (slice_index_or instances k d))) [
    | inl header ↦ absurd (none k (some_is (slice_get instances k) IsHeader (slice_index_or instances k d) (slice_get-get_or instances k d within) header))
    | inr plain ↦ plain
  ]

  never_a_header : All (λ i. is_header i ≡ false) instances → (k : ℕ) → HasAt instances k IsHeader → ⊥
  never_a_header plain k header =
      let here = some_of (slice_get instances k) IsHeader header in
      let within = slice_get_within instances k here.0 here.1 in
      both_ways (is_header here.0) (subst (λ (i : Instance). is_header i ≡ false) (get_or_from_slice_get instances k here.0 here.0 here.1) (plain k here.0 within)) here.2

  pub one_header_at_least : Tested some_header
  one_header_at_least = elim (index_or_none IsHeader header_decided) [
    | inl found ↦ inl (only_no_header (λ r. Applies instances r → ⊥) (λ plain. never_a_header plain found.0 found.1.holds))
    | inr none ↦ inr (
      NoHeader,
      record {
        is = refl;
        applies = no_header_unless none;
        first = only_no_header (λ r. StandsBefore (indexes_of r) (0, 0) → Applies instances r → ⊥) (λ before. absurd (never_before before));
      },
    )
  ]
    where
      never_before : StandsBefore (0, 0) (0, 0) → ⊥
      never_before (inl less) = omega (arith, less)
      never_before (inr same) = omega (arith, same.1)

  abbrev AreHeaders : ℕ → ℕ → Type 0
  AreHeaders first second = (first < second) × HasAt instances first IsHeader × HasAt instances second IsHeader

  headers_decided : (first second : ℕ) → Decided (AreHeaders first second)
  headers_decided first second =
      decided_as (both_decided (less_decided first second) (both_decided (some_decided IsHeader header_decided (slice_get instances first)) (some_decided IsHeader header_decided (slice_get instances second))))
      (λ both. (both.0, both.1.0, both.1.1)) (λ are. (are.0, (are.1, are.2)))

  pub one_header_at_most : Tested one_header
  one_header_at_most = elim (pair_or_none AreHeaders headers_decided (λ i j are. are.0) (length instances) within) [
    | inl found ↦ inr (
      TwoHeaders found.0 found.1,
      record {
        is = refl;
        applies = found.2.related;
        first = only_two_headers (λ r. StandsBefore (indexes_of r) (found.1, found.0) → Applies instances r → ⊥) (λ i j before are. found.2.earliest i j before are);
      },
    )
    | inr apart ↦ inl (only_two_headers (λ r. Applies instances r → ⊥) apart)
  ]
    where
      within : (i j : ℕ) → AreHeaders i j → j < length instances
      within i j are = let there = some_of (slice_get instances j) IsHeader are.2 in slice_get_within instances j there.0 there.1

  -- ids

  bad_id_decided : (i : Instance) → Decided (HasBadId i)
  bad_id_decided i =
      some_decided (λ (value : Value). IsIdValue value → ⊥) (λ value. opposite_decided (some_decided IsResourceId resource_id_decided (text_of value))) (id_value i)

  pub id_forms : Tested resource_ids
  id_forms = elim (index_or_none HasBadId bad_id_decided) [
    | inl found ↦ inr (
      BadResourceId found.0,
      record {
        is = refl;
        applies = found.1.holds;
        first = only_bad_resource_id (λ r. StandsBefore (indexes_of r) (found.0, 0) → Applies instances r → ⊥) (none_before HasBadId bad_id_decided found.0 found.1);
      },
    )
    | inr none ↦ inl (only_bad_resource_id (λ r. Applies instances r → ⊥) none)
  ]

  within_ids : (k : ℕ) (name : List ℕ) → id_at instances k ≡ Some name → k < length instances
  within_ids k name is = within_list (option_and_then id_of) instances refl k name is

  pub ids : Tested distinct_ids
  ids = elim (shared_or_apart (id_at instances) (length instances) within_ids) [
    | inl found ↦ inr (
      DuplicateId found.0 found.1,
      record {
        is = refl;
        applies = found.2.related;
        first = only_duplicate_id (λ r. StandsBefore (indexes_of r) (found.1, found.0) → Applies instances r → ⊥) (λ i j before shared. found.2.earliest i j before shared);
      },
    )
    | inr apart ↦ inl (only_duplicate_id (λ r. Applies instances r → ⊥) apart)
  ]

  -- dependencies

  bad_depends_decided : (i : Instance) → Decided (HasBadDependsOn i)
  bad_depends_decided i = some_decided (λ (value : Value). is_list_of_texts value ≡ false) (λ value. false_decided (is_list_of_texts value)) (depends_value i)

  pub depends_forms : Tested texts_to_depend_on
  depends_forms = elim (index_or_none HasBadDependsOn bad_depends_decided) [
    | inl found ↦ inr (
      BadDependsOn found.0,
      record {
        is = refl;
        applies = found.1.holds;
        first = only_bad_depends_on (λ r. StandsBefore (indexes_of r) (found.0, 0) → Applies instances r → ⊥) (none_before HasBadDependsOn bad_depends_decided found.0 found.1);
      },
    )
    | inr none ↦ inl (only_bad_depends_on (λ r. Applies instances r → ⊥) none)
  ]

  abbrev HasUnknown : Instance → List ℕ → Type 0
  HasUnknown i name = IsFirstUnknown instances (depends_of i) name

  unknown_decided : (i : Instance) → Decided ((name : List ℕ) × HasUnknown i name)
  unknown_decided i = first_without_decided (IsName (id_at instances)) (name_decided (id_at instances) (length instances) within_ids) (depends_of i)

  pub known_ids : Tested known_dependencies
  known_ids = elim (index_or_none (λ i. (name : List ℕ) × HasUnknown i name) unknown_decided) [
    | inl found ↦
        let named = name_out HasUnknown (slice_get instances found.0) found.1.holds in
        inr (
          DependsUnknown found.0 named.0,
          record {
            is = refl;
            applies = named.1;
            first = only_depends_unknown (λ r. StandsBefore (indexes_of r) (found.0, 0) → Applies instances r → ⊥)
                (λ k name before has. none_before (λ i. (name : List ℕ) × HasUnknown i name) unknown_decided found.0 found.1 k before (name_in HasUnknown (slice_get instances k) name has));
          },
        )
    | inr none ↦ inl (only_depends_unknown (λ r. Applies instances r → ⊥) (λ k name has. none k (name_in HasUnknown (slice_get instances k) name has)))
  ]
