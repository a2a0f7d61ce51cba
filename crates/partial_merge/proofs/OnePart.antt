-- The document of one part.
use Rattle.std.proofs.Common.{◌≡◌, ℕ, zero, suc, ◌≤◌, List, [], ◌∷◌, All, IsSomeAnd, length, map, slice_get, refl, sym, ap, subst, ◌∙◌, arith, append-nil}
use Rattle.std.proofs.lemmas.List.Elements.{All-tail}
use Rattle.std.proofs.lemmas.Option.{none-some}
use Rattle.mof_values.specs.declared.instance.Instance.{Instance}
use Rattle.dsc_document.specs.declared.document.Document.{Document}
use Rattle.dsc_document.specs.declared.document.Resource.{Resource}
use Rattle.dsc_document.specs.Names.{ShareName}
use Rattle.dsc_document.specs.Dependencies.{HasDistinctIds}
use Rattle.dsc_document.specs.declared.limits.TheConstants.{MAX_RESOURCES}
use Rattle.dsc_document.proofs.Declared.{document_part}
use Rattle.partial_merge.specs.declared.part.Part.{Part}
use Rattle.partial_merge.specs.declared.error.MergeError.{MergeError}
use Rattle.partial_merge.specs.declared.error.MergeError.TheVariants as refusals
use Rattle.partial_merge.specs.Parts.{AreJoined, AreParts, IsWhole, NamesDiffer, in_part, part_name_at, joined, named}
use Rattle.partial_merge.specs.Refused.{HasFault, IsPartFault, Refused}
use Rattle.partial_merge.proofs.Joining.{same_document}

in_first : (resource : Resource) → resource.part ≡ 0 → in_part 0 resource ≡ resource
in_first resource is = ap (λ place. in_part place resource) (sym is)

all_in_first : (resources : List Resource) → All (λ r. r.part ≡ 0) resources → map (in_part 0) resources ≡ resources
all_in_first [] each = refl
all_in_first (r ∷ rs) each =
    let here : in_part 0 r ≡ r = in_first r (each 0 r (omega arith)) in
    let after : map (in_part 0) rs ≡ rs = all_in_first rs (All-tail (λ r. r.part ≡ 0) r rs each) in
    cc

joined_one : (part : Part) (document : Document) → All (λ r. r.part ≡ 0) document.resources → named document (part.name ∷ []) ≡ joined (part ∷ []) (document ∷ [])
joined_one part document each =
    same_document refl (sym (append-nil (map (in_part 0) document.resources) ∙ all_in_first document.resources each)) (sym (append-nil document.others)) refl

-- the name of one part differs from that of each other
pub one_name : (part : Part) → NamesDiffer (part ∷ [])
one_name part i j d before within = absurd (omega (arith, before, within))

pub one_differs : (part : Part) (first second : ℕ) → ShareName (part_name_at (part ∷ [])) first second → ⊥
one_differs part first zero shares = absurd (omega (arith, shares.0))
one_differs part first (suc second) shares = none-some shares.2 shares.4

pub are_joined : (part : Part) (document : Document) (names : List (List ℕ)) → names ≡ part.name ∷ []
    → IsWhole part document → AreJoined (part ∷ []) (named document names)
are_joined part document names called whole = subst (λ ns. AreJoined (part ∷ []) (named document ns)) (sym called) (record {
  names = one_name part;
  documents = document ∷ [];
  whole = (whole, tt);
  joined = joined_one part document (document_part whole.instances document whole.rules.made);
})

pub are_parts : (part : Part) (document : Document) (names : List (List ℕ)) → names ≡ part.name ∷ []
    → IsWhole part document → length document.resources ≤ MAX_RESOURCES → HasDistinctIds document → AreParts (part ∷ []) (named document names)
are_parts part document names called whole few ids =
    record { are_joined = are_joined part document names called whole; few = few; ids = ids }

-- a fault of the one part is the first
pub refused_first : (part : Part) (refusal : MergeError) → IsPartFault (λ index fault. (index ≡ 0) × HasFault part fault) refusal → Refused (part ∷ []) refusal
refused_first part (refusals.Part index fault) is = record {
  names = one_name part;
  here = subst (λ k. IsSomeAnd (slice_get (part ∷ []) k) (λ p. HasFault p fault)) (sym is.0) is.1;
  before = λ k before. absurd (omega (arith, before, is.0));
}
refused_first part (refusals.TwoNames first second) is = absurd is
refused_first part (refusals.TooMany count) is = absurd is
refused_first part (refusals.DuplicateId first second) is = absurd is
refused_first part (refusals.DependsUnknown spot name) is = absurd is
refused_first part (refusals.Cycle cycle) is = absurd is
refused_first part refusals.Memory is = tt
