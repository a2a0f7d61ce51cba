-- Which generated instance stands where.
use Rattle.std.proofs.Common.{◌≡◌, ◌⊎◌, inl, inr, ℕ, zero, suc, ◌+◌, ◌<◌, List, Some, slice_get, refl, sym, subst, arith}
use Rattle.std.proofs.lemmas.Option.{none-some, same_Some}
use Rattle.mof_values.specs.declared.instance.Instance.{Instance}
use Rattle.dsc_document.specs.Rules.{HasAt, alias_at, id_at}
use Rattle.depend_order.proofs.Options.{some_of}
use Rattle.generated_document.specs.Generated.{generated_header, generated_instances, generated_resource, id_of_number}

-- at a place stands the header, after all resources, or the resource of the number that the place leaves
abbrev pub StandsAt : ℕ → ℕ → Instance → Type 0
StandsAt count place instance =
    ((instance ≡ generated_header) × (place ≡ count)) ⊎ ((i : ℕ) × (instance ≡ generated_resource i) × (i + place + 1 ≡ count))

pub stands_at : (n k : ℕ) (x : Instance) → slice_get (generated_instances n) k ≡ Some x → StandsAt n k x
stands_at zero zero x at = inl (sym (same_Some generated_header x at), refl)
stands_at zero (suc k) x at = absurd (none-some x at)
stands_at (suc i) zero x at = inr (i, sym (same_Some (generated_resource i) x at), omega arith)
stands_at (suc i) (suc k) x at = elim (stands_at i k x at) [
  | inl header ↦ inl (header.0, omega (arith, header.1))
  | inr resource ↦ inr (resource.0, resource.1, omega (arith, resource.2))
]

-- what neither the header nor a resource has holds nowhere
pub nowhere : (n k : ℕ) (P : Instance → Type 0) → (P generated_header → ⊥) → ((i : ℕ) → i < n → P (generated_resource i) → ⊥) → HasAt (generated_instances n) k P → ⊥
nowhere n k P no_header no_resource has =
    let found = some_of (slice_get (generated_instances n) k) P has in
    elim (stands_at n k found.0 found.1) [
      | inl header ↦ no_header (subst P header.0 found.2)
      | inr resource ↦ no_resource resource.0 (omega (arith, resource.2)) (subst P resource.1 found.2)
    ]

-- no instance has an alias
pub no_alias : (n k : ℕ) (name : List ℕ) → alias_at (generated_instances n) k ≡ Some name → ⊥
no_alias zero zero name at = none-some name at
no_alias zero (suc k) name at = none-some name at
no_alias (suc i) zero name at = none-some name at
no_alias (suc i) (suc k) name at = no_alias i k name at

-- the id at a place is that of the number that the place leaves
pub id_at_place : (n k : ℕ) (id : List ℕ) → id_at (generated_instances n) k ≡ Some id → (i : ℕ) × (id ≡ id_of_number i) × (i + k + 1 ≡ n)
id_at_place zero zero id at = absurd (none-some id at)
id_at_place zero (suc k) id at = absurd (none-some id at)
id_at_place (suc i) zero id at = (i, sym (same_Some (id_of_number i) id at), omega arith)
id_at_place (suc i) (suc k) id at = let after = id_at_place i k id at in (after.0, after.1, omega (arith, after.2))
