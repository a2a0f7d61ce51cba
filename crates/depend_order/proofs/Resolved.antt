-- Names and the numbers that they were resolved to.
use Rattle.std.proofs.Common.{◌≡◌, inl, inr, ℕ, ◌<◌, List, [], Option, Some, None, length, get_or, sym, ◌∙◌, ap, subst, arith}
use Rattle.std.proofs.lemmas.Bool.{cases_eq, cases_lt}
use Rattle.std.proofs.lemmas.Option.{none-some, MatchOption-at_some, slice_get_within, slice_get-get_or, get_or_from_slice_get}
use Rattle.std.proofs.lemmas.Slice.Zip.{AllZip-long, AllZip-left, AllZip-right}
use Rattle.std.specs.Global.{Vec}
use Rattle.std.specs.List.{AllZip}
use Rattle.std.specs.Option.{option_map_or}
use Rattle.std.specs.Prelude.{IsSomeAnd, MatchOption, slice_get}
use Rattle.dsc_document.specs.declared.document.Document.{Document}
use Rattle.dsc_document.specs.declared.document.Resource.{Resource}
use Rattle.mof_values.specs.Fold.{fold_case, SameName}
use Rattle.depend_order.specs.Cycle.{DependsOn, IsCycle}
use Rattle.dsc_document.specs.Dependencies.{Means, Names, HasDistinctIds}
use Rattle.depend_order.specs.Documents.{AreDependencies, IsOrderOfDocument, IsCycleOfDocument}
use Rattle.depend_order.specs.Index.{AreResolved}
use Rattle.depend_order.specs.Numbers.{Lists, AreBelow, IsOrderOfNumbers, IsCycleOfNumbers}
use Rattle.depend_order.specs.Order.{IsOrder}
use Rattle.depend_order.proofs.NumberLemmas.{listed_at}
use Rattle.depend_order.proofs.Options.{some_of, some_is}
use Rattle.depend_order.proofs.SameNames.{Within, order_over, cycle_over}

-- names of one place
module _ (document : Document) (distinct : HasDistinctIds document) where
  apart : (name : List ℕ) (q s : ℕ) → q < s → Means document.resources name q → Means document.resources name s → ⊥
  apart name q s lt first second =
      let one = some_of (slice_get document.resources q) (λ r. SameName name r.id) first in
      let other = some_of (slice_get document.resources s) (λ r. SameName name r.id) second in
      let here = get_or_from_slice_get document.resources q one.0 one.0 one.1 in
      let there = get_or_from_slice_get document.resources s other.0 one.0 other.1 in
      distinct q s one.0 lt (slice_get_within document.resources s other.0 other.1) (ap (λ (r : Resource). fold_case r.id) here ∙ sym one.2 ∙ other.2 ∙ sym (ap (λ (r : Resource). fold_case r.id) there))

  pub means_one : (name : List ℕ) (q s : ℕ) → Means document.resources name q → Means document.resources name s → q ≡ s
  means_one name q s first second = elim (cases_eq q s) [
    | inl same ↦ same
    | inr other ↦ elim (cases_lt q s) [
      | inl before ↦ absurd (apart name q s before first second)
      | inr after ↦ absurd (apart name s q (omega arith) second first)
    ]
  ]

  -- a name means one place
  pub names_one : (r k q s : ℕ) → Names document r k q → Names document r k s → q ≡ s
  names_one r k q s first second = listed (slice_get document.resources r) first second
    where
      named : (o : Option (List ℕ)) → IsSomeAnd o (λ name. Means document.resources name q) → IsSomeAnd o (λ name. Means document.resources name s) → q ≡ s
      named None one other = absurd one
      named (Some name) one other = means_one name q s one other

      listed : (o : Option Resource) → IsSomeAnd o (λ resource. IsSomeAnd (slice_get resource.depends k) (λ name. Means document.resources name q))
          → IsSomeAnd o (λ resource. IsSomeAnd (slice_get resource.depends k) (λ name. Means document.resources name s)) → q ≡ s
      listed None one other = absurd one
      listed (Some resource) one other = named (slice_get resource.depends k) one other

module _ (document : Document) (depends : List (Vec ℕ)) (resolved : AreResolved document.resources document.resources depends) where
  pub resolved_count : length depends ≡ length document.resources
  resolved_count = AllZip-long (λ (resource : Resource) (places : Vec ℕ). AllZip (Means document.resources) resource.depends places.items) document.resources depends resolved

  pub lists_are_names : Within (Lists depends) (Names document)
  lists_are_names r k q listed = go (slice_get depends r) (AllZip-right (λ (resource : Resource) (places : Vec ℕ). AllZip (Means document.resources) resource.depends places.items) document.resources depends resolved r) listed
    where
      go : (o : Option (Vec ℕ)) → MatchOption o (Unit {0}) (λ places. IsSomeAnd (slice_get document.resources r) (λ resource. AllZip (Means document.resources) resource.depends places.items))
          → slice_get (option_map_or (λ places. places.items) o []) k ≡ Some q → Names document r k q
      go None all at = absurd (none-some q at)
      go (Some places) all at =
          let here = some_of (slice_get document.resources r) (λ resource. AllZip (Means document.resources) resource.depends places.items) all in
          some_is (slice_get document.resources r) (λ resource. IsSomeAnd (slice_get resource.depends k) (λ name. Means document.resources name q)) here.0 here.1
          (MatchOption-at_some (Unit {0}) (λ place. IsSomeAnd (slice_get here.0.depends k) (λ name. Means document.resources name place)) q at (AllZip-right (Means document.resources) here.0.depends places.items here.2 k))

  pub names_are_lists : HasDistinctIds document → Within (Names document) (Lists depends)
  names_are_lists distinct r k q named =
      let resource = some_of (slice_get document.resources r) (λ resource. IsSomeAnd (slice_get resource.depends k) (λ name. Means document.resources name q)) named in
      let name = some_of (slice_get resource.0.depends k) (λ name. Means document.resources name q) resource.2 in
      let places = some_of (slice_get depends r) (λ places. AllZip (Means document.resources) resource.0.depends places.items)
      (MatchOption-at_some (Unit {0}) (λ w. IsSomeAnd (slice_get depends r) (λ places. AllZip (Means document.resources) w.depends places.items)) resource.0 resource.1 (AllZip-left (λ (w : Resource) (ps : Vec ℕ). AllZip (Means document.resources) w.depends ps.items) document.resources depends resolved r)) in
      let place = some_of (slice_get places.0.items k) (Means document.resources name.0)
      (MatchOption-at_some (Unit {0}) (λ w. IsSomeAnd (slice_get places.0.items k) (Means document.resources w)) name.0 name.1 (AllZip-left (Means document.resources) resource.0.depends places.0.items places.2 k)) in
      let same : place.0 ≡ q = means_one document distinct name.0 place.0 q place.2 name.2 in
      listed_at depends r places.0 k q places.1 (rw same at place.1)

  pub resolved_below : AreBelow (length depends) depends
  resolved_below r places lt k q within =
      let numbers = get_or depends r places in
      let listed : Lists depends r k (get_or numbers.items k q) =
      listed_at depends r numbers k (get_or numbers.items k q) (slice_get-get_or depends r places lt) (slice_get-get_or numbers.items k q within) in
      let resource = some_of (slice_get document.resources r) (λ resource. IsSomeAnd (slice_get resource.depends k) (λ name. Means document.resources name (get_or numbers.items k q))) (lists_are_names r k (get_or numbers.items k q) listed) in
      let name = some_of (slice_get resource.0.depends k) (λ name. Means document.resources name (get_or numbers.items k q)) resource.2 in
      let there = some_of (slice_get document.resources (get_or numbers.items k q)) (λ other. SameName name.0 other.id) name.2 in
      omega (arith, resolved_count, slice_get_within document.resources (get_or numbers.items k q) there.0 there.1)

  -- the orders and cycles of the numbers are those of the document
  module _ (distinct : HasDistinctIds document) where
    pub order_resolved : (order : List ℕ) → IsOrderOfNumbers depends order → IsOrderOfDocument document order
    order_resolved order is = order_over (length document.resources) (Lists depends) (Names document) lists_are_names (names_are_lists distinct) order
        (subst (λ (count : ℕ). IsOrder count (DependsOn (Lists depends)) order) resolved_count is)

    pub order_of_names : (order : List ℕ) → IsOrderOfDocument document order → IsOrderOfNumbers depends order
    order_of_names order is = subst (λ (count : ℕ). IsOrder count (DependsOn (Lists depends)) order) (sym resolved_count)
        (order_over (length document.resources) (Names document) (Lists depends) (names_are_lists distinct) lists_are_names order is)

    pub cycle_resolved : (cycle : List ℕ) → IsCycleOfNumbers depends cycle → IsCycleOfDocument document cycle
    cycle_resolved cycle is = cycle_over (length document.resources) (Lists depends) (Names document) lists_are_names (names_are_lists distinct) cycle
        (subst (λ (count : ℕ). IsCycle count (Lists depends) cycle) resolved_count is)

    pub are_dependencies : AreDependencies document depends
    are_dependencies = record {
      count = resolved_count;
      below = resolved_below;
      listed = λ r k q. (lists_are_names r k q, names_are_lists distinct r k q);
    }
