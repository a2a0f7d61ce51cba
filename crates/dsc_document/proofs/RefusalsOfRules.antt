-- Refusals of one rule, and of rules one after another.
use Rattle.std.proofs.Common.{◌≡◌, ℕ, ◌+◌, ◌<◌, ◌≤◌, List, length, get_or, slice_get, Option, Some, None, IsSomeAnd, refl, sym, ap, subst, ◌∙◌, ⊎_elim, arith}
use Rattle.std.proofs.lemmas.Bool.{cases_eq}
use Rattle.std.proofs.lemmas.Option.{slice_get-get_or, slice_get_within, get_or_from_slice_get}
use Rattle.std.proofs.lemmas.List.{get_or_default}
use Rattle.mof_values.specs.declared.instance.Instance.{Instance}
use Rattle.dsc_document.specs.declared.error.DocError.{DocError}
use Rattle.dsc_document.specs.declared.error.DocError.TheVariants.{DuplicateProperty, TwoAliases, AliasUnknown, NoHeader, TwoHeaders, BadResourceId, DuplicateId, BadDependsOn, DependsUnknown}
use Rattle.dsc_document.specs.Rules.{HasAt, StandsBefore, rule_of, distinct_property_names, distinct_aliases, known_aliases, some_header, one_header, resource_ids, distinct_ids, texts_to_depend_on, known_dependencies}

-- ---- which refusals are of a rule

module _ (P : DocError → Type 0) where
  pub only_duplicate_property : ((index : ℕ) (name : List ℕ) → P (DuplicateProperty index name)) → (refusal : DocError) → rule_of refusal ≡ distinct_property_names → P refusal
  only_duplicate_property here (DuplicateProperty index name) is = here index name
  only_duplicate_property here _ is = absurd (omega arith)

  pub only_two_aliases : ((first second : ℕ) → P (TwoAliases first second)) → (refusal : DocError) → rule_of refusal ≡ distinct_aliases → P refusal
  only_two_aliases here (TwoAliases first second) is = here first second
  only_two_aliases here _ is = absurd (omega arith)

  pub only_alias_unknown : ((index : ℕ) → P (AliasUnknown index)) → (refusal : DocError) → rule_of refusal ≡ known_aliases → P refusal
  only_alias_unknown here (AliasUnknown index) is = here index
  only_alias_unknown here _ is = absurd (omega arith)

  pub only_no_header : P NoHeader → (refusal : DocError) → rule_of refusal ≡ some_header → P refusal
  only_no_header here NoHeader is = here
  only_no_header here _ is = absurd (omega arith)

  pub only_two_headers : ((first second : ℕ) → P (TwoHeaders first second)) → (refusal : DocError) → rule_of refusal ≡ one_header → P refusal
  only_two_headers here (TwoHeaders first second) is = here first second
  only_two_headers here _ is = absurd (omega arith)

  pub only_bad_resource_id : ((index : ℕ) → P (BadResourceId index)) → (refusal : DocError) → rule_of refusal ≡ resource_ids → P refusal
  only_bad_resource_id here (BadResourceId index) is = here index
  only_bad_resource_id here _ is = absurd (omega arith)

  pub only_duplicate_id : ((first second : ℕ) → P (DuplicateId first second)) → (refusal : DocError) → rule_of refusal ≡ distinct_ids → P refusal
  only_duplicate_id here (DuplicateId first second) is = here first second
  only_duplicate_id here _ is = absurd (omega arith)

  pub only_bad_depends_on : ((index : ℕ) → P (BadDependsOn index)) → (refusal : DocError) → rule_of refusal ≡ texts_to_depend_on → P refusal
  only_bad_depends_on here (BadDependsOn index) is = here index
  only_bad_depends_on here _ is = absurd (omega arith)

  pub only_depends_unknown : ((index : ℕ) (name : List ℕ) → P (DependsUnknown index name)) → (refusal : DocError) → rule_of refusal ≡ known_dependencies → P refusal
  only_depends_unknown here (DependsUnknown index name) is = here index name
  only_depends_unknown here _ is = absurd (omega arith)

-- ---- the least index

pub earlier : (k n : ℕ) → StandsBefore (k, 0) (n, 0) → k < n
earlier k n before = ⊎_elim (λ below. below) (λ same. absurd (omega arith)) before

module _ (instances : List Instance) (Has : Instance → Type 0) where
  of_some : (o : Option Instance) → IsSomeAnd o Has → (item : Instance) × (o ≡ Some item) × Has item
  of_some None h = absurd h
  of_some (Some item) h = (item, refl, h)

  pub HasAt-here : (n : ℕ) (item : Instance) → n < length instances → item ≡ get_or instances n item → Has item → HasAt instances n Has
  HasAt-here n item within is has = subst (λ o. IsSomeAnd o Has) (sym (slice_get-get_or instances n item within)) (subst Has is has)

  pub HasAt-before : (n : ℕ) → ((k : ℕ) (d : Instance) → k < n → Has (get_or instances k d) → ⊥) → (k : ℕ) → k < n → HasAt instances k Has → ⊥
  HasAt-before n none k below has =
      let found = of_some (slice_get instances k) has in
      none k found.0 below (subst Has (sym (get_or_from_slice_get instances k found.0 found.0 found.1)) found.2)

  pub HasAt-never : (n : ℕ) → length instances ≤ n → ((k : ℕ) (d : Instance) → k < n → Has (get_or instances k d) → ⊥) → (k : ℕ) → HasAt instances k Has → ⊥
  HasAt-never n all none k has =
      let found = of_some (slice_get instances k) has in
      let within : k < length instances = slice_get_within instances k found.0 found.1 in
      HasAt-before n none k (omega arith) has

-- what holds of each instance so far, and of the next
pub each_more : (P : Instance → Type 0) (instances : List Instance) (n : ℕ) (item : Instance) → n < length instances → item ≡ get_or instances n item → P item
    → ((k : ℕ) (d : Instance) → k < n → P (get_or instances k d)) → (k : ℕ) (d : Instance) → k < n + 1 → P (get_or instances k d)
each_more P instances n item within is here before k d below =
    ⊎_elim
    (λ e. subst P (is ∙ get_or_default instances n item d within ∙ ap (λ i. get_or instances i d) (sym e)) here)
    (λ ne. before k d (omega arith))
    (cases_eq k n)
