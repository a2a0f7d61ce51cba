-- Of a document either each dependency is a resource, or there is a first unknown id.
use Rattle.std.proofs.Common.{◌≡◌, ◌⊎◌, inl, inr, ℕ, zero, suc, ◌<◌, List, [], ◌∷◌, ◌++◌, All, length, refl, sym, subst, ◌∙◌, arith, append_assoc, append-nil}
use Rattle.std.specs.Prelude.{slice_index_or}
use Rattle.std.proofs.lemmas.List.Elements.{All-nil, All-push}
use Rattle.mof_values.specs.Fold.{SameName}
use Rattle.dsc_document.specs.Dependencies.{DependsOnUnknown, IsFirstUnknownId, IsId, NamesResources}
use Rattle.dsc_document.specs.declared.document.Document.{Document}
use Rattle.dsc_document.specs.declared.document.Resource.{Resource}
use Rattle.dsc_document.specs.declared.spot.Spot.{Spot}
use Rattle.dsc_document.proofs.FoldKeys.{cases_same_name}

module _ (name : List ℕ) (r : Resource) (rs : List Resource) (differs : SameName name r.id → ⊥) (none : IsId rs name → ⊥) where
  nowhere : (k : ℕ) (x : Resource) → k < length (r ∷ rs) → slice_index_or (r ∷ rs) k x ≡ x → SameName name x.id → ⊥
  nowhere zero x within at same = differs (subst (λ (z : Resource). SameName name z.id) (sym at) same)
  nowhere (suc k) x within at same = none (k, x, omega (arith, within), at, same)

is_id : (resources : List Resource) (name : List ℕ) → IsId resources name ⊎ (IsId resources name → ⊥)
is_id [] name = inr (λ found. absurd (omega (arith, found.2)))
is_id (r ∷ rs) name = elim (cases_same_name name r.id) [
  | inl same ↦ inl (0, r, omega arith, refl, same)
  | inr differs ↦ elim (is_id rs name) [
    | inl there ↦ inl (suc there.0, there.1, omega (arith, there.2), there.3, there.4)
    | inr none ↦ inr (λ found. nowhere name r rs differs none found.0 found.1 found.2 found.3 found.4)
  ]
]

module _ (resources : List Resource) (resource : Resource) where
  unknown_from : (passed rest : List (List ℕ)) → resource.depends ≡ passed ++ rest → All (IsId resources) passed
      → ((name : List ℕ) × DependsOnUnknown resources resource name) ⊎ All (IsId resources) resource.depends
  unknown_from passed [] split known = inr (subst (All (IsId resources)) (sym (split ∙ append-nil passed)) known)
  unknown_from passed (name ∷ rest) split known = elim (is_id resources name) [
    | inl named ↦ unknown_from (passed ++ name ∷ []) rest (split ∙ sym (append_assoc passed (name ∷ []) rest)) (All-push (IsId resources) passed name known named)
    | inr unnamed ↦ inl (name, record { known = passed; rest = rest; stands = split; before = known; unknown = unnamed })
  ]

module _ (document : Document) where
  abbrev DependsOnIds : Resource → Type 0
  DependsOnIds resource = All (IsId document.resources) resource.depends

  first_from : (passed rest : List Resource) → document.resources ≡ passed ++ rest → All DependsOnIds passed
      → ((spot : Spot) × (name : List ℕ) × IsFirstUnknownId document spot name) ⊎ NamesResources document
  first_from passed [] split known = inr (subst (All DependsOnIds) (sym (split ∙ append-nil passed)) known)
  first_from passed (r ∷ rest) split known = elim (unknown_from document.resources r [] r.depends refl (All-nil (IsId document.resources))) [
    | inl found ↦ inl (
      record { part = r.part; index = r.index },
      found.0,
      record {
        known = passed;
        resource = r;
        rest = rest;
        stands = split;
        before = known;
        depends = found.1;
        at = refl;
      },
    )
    | inr each ↦ first_from (passed ++ r ∷ []) rest (split ∙ sym (append_assoc passed (r ∷ []) rest)) (All-push DependsOnIds passed r known each)
  ]

  pub unknown_or_known : ((spot : Spot) × (name : List ℕ) × IsFirstUnknownId document spot name) ⊎ NamesResources document
  unknown_or_known = first_from [] document.resources refl (All-nil DependsOnIds)
