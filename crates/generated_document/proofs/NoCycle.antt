-- A generated resource depends on one after it, so that no walk along dependencies comes back.
use Rattle.std.proofs.Common.{◌≡◌, ◌∙◌, ℕ, zero, suc, ◌/◌, ◌<◌, ◌≤◌, List, [], ◌∷◌, ◌++◌, length, Some, IsSomeAnd, slice_get, refl, sym, ap, subst, arith}
use Rattle.std.proofs.lemmas.Option.{none-some, same_Some}
use Rattle.mof_values.specs.Fold.{SameName, fold_case}
use Rattle.dsc_document.specs.declared.document.Document.{Document}
use Rattle.dsc_document.specs.declared.document.Resource.{Resource}
use Rattle.dsc_document.specs.Declarations.{depends_of}
use Rattle.dsc_document.specs.Dependencies.{Means, Names}
use Rattle.depend_order.specs.Cycle.{DependsOn, IsClosed}
use Rattle.depend_order.specs.Documents.{IsCycleOfDocument}
use Rattle.depend_order.proofs.Cycles.{closed}
use Rattle.depend_order.proofs.Options.{some_of}
use Rattle.generated_document.specs.Generated.{generated_resource, id_of_number}
use Rattle.generated_document.proofs.Decimals.{same_number}
use Rattle.generated_document.proofs.Resources.{resources, resource_stands_at}
use Rattle.dsc_document.specs.declared.limits.TheConstants.{MAX_RESOURCES}

-- where each step of a list leads further, its last place is after its first
rises : (first : ℕ) (rest : List ℕ) (last : ℕ) → ((a : List ℕ) (r s : ℕ) (b : List ℕ) → first ∷ rest ++ last ∷ [] ≡ a ++ r ∷ s ∷ b → r < s) → first < last
rises first [] last step = step [] first last [] refl
rises first (next ∷ rest) last step =
    let here : first < next = step [] first next (rest ++ last ∷ []) refl in
    let after : next < last = rises next rest last (λ a r s b split. step (first ∷ a) r s b (ap (λ (l : List ℕ). first ∷ l) split)) in
    omega (arith, here, after)

never_closed : (depends : ℕ → ℕ → Type 0) → ((r q : ℕ) → depends r q → r < q) → (cycle : List ℕ) → IsClosed depends cycle → ⊥
never_closed depends further [] is = is
never_closed depends further (first ∷ rest) is =
    absurd (omega (arith, rises first rest first (λ a r s b split. further r s (is a r s b split))))

-- a name on which a resource depends is the id of a lesser number
lesser : (i k : ℕ) (name : List ℕ) → slice_get (depends_of (generated_resource i)) k ≡ Some name → (j : ℕ) × (j < i) × (name ≡ id_of_number j)
lesser zero k name at = absurd (none-some name at)
lesser (suc i) zero name at = (i / 2, omega arith, sym (same_Some (id_of_number (i / 2)) name at))
lesser (suc i) (suc k) name at = absurd (none-some name at)

module _ (document : Document) (n : ℕ) (few : n ≤ MAX_RESOURCES) (are : document.resources ≡ resources 0 n) where
  -- where a resource of one number depends on the one of another, the other stands after
  after : (r q k : ℕ) → Names document r k q → r < q
  after r q k names =
      let from = some_of (slice_get document.resources r) (λ resource. IsSomeAnd (slice_get resource.depends k) (λ name. Means document.resources name q)) names in
      let named = some_of (slice_get from.0.depends k) (λ name. Means document.resources name q) from.2 in
      let to = some_of (slice_get document.resources q) (λ (resource : Resource). SameName named.0 resource.id) named.2 in
      let one = resource_stands_at 0 n r from.0 (subst (λ (rs : List Resource). slice_get rs r ≡ Some from.0) are from.1) in
      let other = resource_stands_at 0 n q to.0 (subst (λ (rs : List Resource). slice_get rs q ≡ Some to.0) are to.1) in
      let less = lesser one.number k named.0 (subst (λ (ds : List (List ℕ)). slice_get ds k ≡ Some named.0) one.depends named.1) in
      let same : SameName (id_of_number less.0) (id_of_number other.number) = ap fold_case (sym less.2) ∙ to.2 ∙ ap fold_case other.id in
      omega (arith, one.place, other.place, less.1, same_number less.0 other.number (omega (arith, few, less.1, one.place)) (omega (arith, few, other.place)) same)

  pub no_cycle : (cycle : List ℕ) → IsCycleOfDocument document cycle → ⊥
  no_cycle cycle is =
      never_closed (DependsOn (Names document)) (λ r q depends. after r q depends.0 depends.1) cycle
      (closed (length document.resources) (Names document) cycle is)
