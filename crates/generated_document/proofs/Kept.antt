-- Generated instances keep the rules of a part.
use Rattle.std.proofs.Common.{◌≡◌, ℕ, zero, suc, ◌<◌, ◌≤◌, true, false, All, IsTrue, slice_get, refl, sym, ap, ◌∙◌, arith, inl, inr}
use Rattle.std.proofs.lemmas.Bool.{both_ways}
use Rattle.std.proofs.lemmas.List.Elements.{All-tail}
use Rattle.mof_values.specs.Fold.{SameName, fold_case}
use Rattle.dsc_document.specs.Declarations.{is_header}
use Rattle.dsc_document.specs.Names.{ShareName}
use Rattle.dsc_document.specs.Rules.{Applies, HasAt, HasBadDependsOn, HasBadId, NamesNoAlias, RepeatsName, rule_of, id_at, known_dependencies}
use Rattle.dsc_document.specs.declared.error.DocError.{DocError}
use Rattle.dsc_document.specs.declared.error.DocError.TheVariants.{DuplicateProperty, TwoAliases, AliasUnknown, NoHeader, TwoHeaders, BadResourceId, DuplicateId, BadDependsOn, DependsUnknown, Memory}
use Rattle.depend_order.proofs.Options.{some_of}
use Rattle.generated_document.specs.Generated.{generated_header, generated_instances, generated_resource, id_of_number}
use Rattle.generated_document.proofs.Decimals.{same_number}
use Rattle.generated_document.proofs.Placed.{id_at_place, no_alias, nowhere, stands_at}
use Rattle.generated_document.proofs.Properties.{header_names_known_alias, header_repeats_none, names_known_alias, no_bad_dependency, no_bad_id, none_repeats}
use Rattle.dsc_document.specs.declared.limits.TheConstants.{MAX_RESOURCES}

some_header : (n : ℕ) → All (λ i. is_header i ≡ false) (generated_instances n) → ⊥
some_header zero none = both_ways true (none 0 generated_header (omega arith)) refl
some_header (suc i) none = some_header i (All-tail (λ i. is_header i ≡ false) (generated_resource i) (generated_instances i) none)

-- a header stands after all resources
header_place : (n k : ℕ) → HasAt (generated_instances n) k (λ i. IsTrue (is_header i)) → k ≡ n
header_place n k has =
    let found = some_of (slice_get (generated_instances n) k) (λ i. IsTrue (is_header i)) has in
    elim (stands_at n k found.0 found.1) [
      | inl header ↦ header.1
      | inr resource ↦ absurd (both_ways (is_header found.0) (ap is_header resource.1) found.2)
    ]

distinct_ids : (n first second : ℕ) → n ≤ MAX_RESOURCES → ShareName (id_at (generated_instances n)) first second → ⊥
distinct_ids n first second few shared =
    let one = id_at_place n first shared.1 shared.3 in
    let other = id_at_place n second shared.2 shared.4 in
    let same : SameName (id_of_number one.0) (id_of_number other.0) = ap fold_case (sym one.1) ∙ shared.5 ∙ ap fold_case other.1 in
    omega (arith, shared.0, one.2, other.2, same_number one.0 other.0 (omega (arith, few, one.2)) (omega (arith, few, other.2)) same)

-- no rule is broken, but maybe that what a resource depends on is in the document
pub rules_kept : (n : ℕ) → n ≤ MAX_RESOURCES → (refusal : DocError) → rule_of refusal < known_dependencies → Applies (generated_instances n) refusal → ⊥
rules_kept n few (DuplicateProperty index name) below applies =
    nowhere n index (λ i. RepeatsName i.properties name) (header_repeats_none name) (λ i within. none_repeats i name) applies
rules_kept n few (TwoAliases first second) below applies = no_alias n first applies.1 applies.3
rules_kept n few (AliasUnknown index) below applies =
    nowhere n index (NamesNoAlias (generated_instances n)) (header_names_known_alias (generated_instances n)) (λ i within. names_known_alias (generated_instances n) i) applies
rules_kept n few NoHeader below applies = some_header n applies
rules_kept n few (TwoHeaders first second) below applies = absurd (omega (arith, applies.0, header_place n first applies.1, header_place n second applies.2))
rules_kept n few (BadResourceId index) below applies = nowhere n index HasBadId (λ bad. bad) (λ i within. no_bad_id i (omega (arith, few, within))) applies
rules_kept n few (DuplicateId first second) below applies = distinct_ids n first second few applies
rules_kept n few (BadDependsOn index) below applies = nowhere n index HasBadDependsOn (λ bad. bad) (λ i within. no_bad_dependency i) applies
rules_kept n few (DependsUnknown index name) below applies = absurd (omega (arith, below))
rules_kept n few Memory below applies = applies
