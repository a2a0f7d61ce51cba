-- The resources of a document whose dependencies are resources have an order or a cycle.
use Rattle.std.proofs.Common.{◌≡◌, inl, inr, ℕ, zero, suc, ◌<◌, List, [], ◌∷◌, All, Option, Some, None, length, refl, ◌∙◌, ap, subst, arith}
use Rattle.std.proofs.lemmas.List.Elements.{All-tail}
use Rattle.std.proofs.lemmas.Option.{none-some, same_Some, get_or_from_slice_get, slice_get-get_or, slice_get_within}
use Rattle.std.specs.Prelude.{IsSomeAnd, slice_get}
use Rattle.mof_values.specs.Fold.{SameName}
use Rattle.dsc_document.specs.declared.document.Document.{Document}
use Rattle.dsc_document.specs.declared.document.Resource.{Resource}
use Rattle.dsc_document.specs.Dependencies.{HasDistinctIds, IsId, Means, Names, NamesResources}
use Rattle.depend_order.specs.Laws.{OrderOrCycle}
use Rattle.depend_order.proofs.Existing.{NumbersName, order_or_cycle}
use Rattle.depend_order.proofs.Options.{some_of, some_is}
use Rattle.depend_order.proofs.Resolved.{means_one}
use Rattle.depend_order.proofs.SameNames.{cycle_over, order_over}

-- the places that names mean
places_of : (resources : List Resource) (names : List (List ℕ)) → All (IsId resources) names → List ℕ
places_of resources [] known = []
places_of resources (name ∷ names) known = (known 0 name (omega arith)).0 ∷ places_of resources names (All-tail (IsId resources) name names known)

module _ (document : Document) (distinct : HasDistinctIds document) where
  meant : (name : List ℕ) → (is : IsId document.resources name) → Means document.resources name is.0
  meant name is =
      some_is (slice_get document.resources is.0) (λ resource. SameName name resource.id) is.1
      (slice_get-get_or document.resources is.0 is.1 is.2 ∙ ap Some is.3) is.4

  means_at : (names : List (List ℕ)) (known : All (IsId document.resources) names) (k q : ℕ) → slice_get (places_of document.resources names known) k ≡ Some q
      → IsSomeAnd (slice_get names k) (λ name. Means document.resources name q)
  unfolding places_of
  means_at [] known k q at = absurd (none-some q at)
  means_at (name ∷ names) known zero q at =
      let is = known 0 name (omega arith) in
      subst (Means document.resources name) (same_Some is.0 q at) (meant name is)
  means_at (name ∷ names) known (suc k) q at = means_at names (All-tail (IsId document.resources) name names known) k q at

  at_means : (names : List (List ℕ)) (known : All (IsId document.resources) names) (k q : ℕ) → IsSomeAnd (slice_get names k) (λ name. Means document.resources name q)
      → slice_get (places_of document.resources names known) k ≡ Some q
  unfolding places_of
  at_means [] known k q means = absurd means
  at_means (name ∷ names) known zero q means =
      let is = known 0 name (omega arith) in
      ap Some (means_one document distinct name is.0 q (meant name is) means)
  at_means (name ∷ names) known (suc k) q means = at_means names (All-tail (IsId document.resources) name names known) k q means

  -- the places that a resource depends on, where there is one
  numbers_at : (o : Option Resource) → ((resource : Resource) → o ≡ Some resource → All (IsId document.resources) resource.depends) → List ℕ
  numbers_at None known = []
  numbers_at (Some resource) known = places_of document.resources resource.depends (known resource refl)

  named_at : (o : Option Resource) (known : (resource : Resource) → o ≡ Some resource → All (IsId document.resources) resource.depends) (k q : ℕ)
      → slice_get (numbers_at o known) k ≡ Some q → IsSomeAnd o (λ resource. IsSomeAnd (slice_get resource.depends k) (λ name. Means document.resources name q))
  unfolding numbers_at
  named_at None known k q at = absurd (none-some q at)
  named_at (Some resource) known k q at = means_at resource.depends (known resource refl) k q at

  at_named : (o : Option Resource) (known : (resource : Resource) → o ≡ Some resource → All (IsId document.resources) resource.depends) (k q : ℕ)
      → IsSomeAnd o (λ resource. IsSomeAnd (slice_get resource.depends k) (λ name. Means document.resources name q)) → slice_get (numbers_at o known) k ≡ Some q
  unfolding numbers_at places_of
  at_named None known k q named = absurd named
  at_named (Some resource) known k q named = at_means resource.depends (known resource refl) k q named

  module _ (known : NamesResources document) where
    known_at : (r : ℕ) (resource : Resource) → slice_get document.resources r ≡ Some resource → All (IsId document.resources) resource.depends
    known_at r resource at =
        subst (λ (x : Resource). All (IsId document.resources) x.depends) (get_or_from_slice_get document.resources r resource resource at)
        (known r resource (slice_get_within document.resources r resource at))

    numbers : ℕ → List ℕ
    numbers r = numbers_at (slice_get document.resources r) (known_at r)

    to_names : (r k q : ℕ) → NumbersName numbers r k q → Names document r k q
    unfolding numbers numbers_at
    to_names r k q at = named_at (slice_get document.resources r) (known_at r) k q at

    from_names : (r k q : ℕ) → Names document r k q → NumbersName numbers r k q
    unfolding numbers numbers_at
    from_names r k q named = at_named (slice_get document.resources r) (known_at r) k q named

    below : (r k q : ℕ) → NumbersName numbers r k q → q < length document.resources
    below r k q at =
        let resource = some_of (slice_get document.resources r) (λ resource. IsSomeAnd (slice_get resource.depends k) (λ name. Means document.resources name q)) (to_names r k q at) in
        let name = some_of (slice_get resource.0.depends k) (λ name. Means document.resources name q) resource.2 in
        let there = some_of (slice_get document.resources q) (λ other. SameName name.0 other.id) name.2 in
        slice_get_within document.resources q there.0 there.1

    pub document_order_or_cycle : OrderOrCycle (length document.resources) (Names document)
    document_order_or_cycle = elim (order_or_cycle (length document.resources) numbers below) [
      | inl order ↦ inl (order.0, order_over (length document.resources) (NumbersName numbers) (Names document) to_names from_names order.0 order.1)
      | inr cycle ↦ inr (cycle.0, cycle_over (length document.resources) (NumbersName numbers) (Names document) to_names from_names cycle.0 cycle.1)
    ]
