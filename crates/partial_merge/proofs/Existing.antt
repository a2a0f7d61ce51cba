-- Parts each of which is a document or has a fault are merged or refused.
use Rattle.std.proofs.Common.{◌≢◌, ◌⊎◌, inl, inr, ℕ, zero, suc, ◌<◌, ◌≤◌, List, [], ◌∷◌, All, IsSomeAnd, length, slice_get, refl, arith}
use Rattle.std.specs.List.{AllZip}
use Rattle.std.proofs.lemmas.Bool.{cases_lt}
use Rattle.std.proofs.lemmas.List.Elements.{All-tail}
use Rattle.dsc_document.specs.Dependencies.{NamesResources}
use Rattle.dsc_document.specs.declared.document.Document.{Document}
use Rattle.dsc_document.specs.declared.document.Resource.{Resource}
use Rattle.dsc_document.specs.declared.limits.TheConstants.{MAX_RESOURCES}
use Rattle.depend_order.proofs.KnownNames.{document_order_or_cycle}
use Rattle.partial_merge.specs.declared.error.MergeError.{MergeError}
use Rattle.partial_merge.specs.declared.error.MergeError.TheVariants as refusals
use Rattle.partial_merge.specs.declared.error.PartFault.{PartFault}
use Rattle.partial_merge.specs.declared.part.Part.{Part}
use Rattle.partial_merge.specs.Laws.{AnswersExist, IsRead}
use Rattle.partial_merge.specs.Merged.{Merged}
use Rattle.partial_merge.specs.Parts.{AreJoined, AreParts, IsWhole, NamesDiffer, joined}
use Rattle.partial_merge.specs.Refused.{HasFault, Refused}
use Rattle.partial_merge.proofs.KnownIds.{unknown_or_known}
use Rattle.partial_merge.proofs.Repeating.{repeats_or_apart}
use Rattle.depend_order.proofs.Spots.{spot_is}

-- ---- the parts one after another

abbrev IsWholeAt : List Part → ℕ → Type 0
IsWholeAt parts k = IsSomeAnd (slice_get parts k) (λ part. (document : Document) × IsWhole part document)

record FirstFault (parts : List Part) : Type 0 where
  index : ℕ
  fault : PartFault
  here : IsSomeAnd (slice_get parts index) (λ part. HasFault part fault)
  before : (k : ℕ) → k < index → IsWholeAt parts k

fault_after : (part : Part) (parts : List Part) (document : Document) → IsWhole part document → FirstFault parts → FirstFault (part ∷ parts)
fault_after part parts document whole first = record { index = suc first.index; fault = first.fault; here = first.here; before = before }
  where
    before : (k : ℕ) → k < suc first.index → IsWholeAt (part ∷ parts) k
    before zero within = (document, whole)
    before (suc k) within = first.before k (omega (arith, within))

whole_or_fault : (parts : List Part) → All IsRead parts → ((documents : List Document) × AllZip IsWhole parts documents) ⊎ FirstFault parts
whole_or_fault [] each = inl ([], tt)
whole_or_fault (part ∷ parts) each = elim (each 0 part (omega arith)) [
  | inl whole ↦ elim (whole_or_fault parts (All-tail IsRead part parts each)) [
    | inl rest ↦ inl (whole.0 ∷ rest.0, (whole.1, rest.1))
    | inr first ↦ inr (fault_after part parts whole.0 whole.1 first)
  ]
  | inr fault ↦ inr (record { index = 0; fault = fault.0; here = fault.1; before = λ k before. absurd (omega (arith, before)) })
]

-- ---- the document that they are joined to

module _ (parts : List Part) where
  abbrev Answer : Type 0
  Answer = ((document : Document) × Merged parts document) ⊎ ((refusal : MergeError) × (refusal ≢ refusals.Memory) × Refused parts refusal)

  ordered_or_round : (document : Document) → AreParts parts document → NamesResources document → Answer
  ordered_or_round document are known = elim (document_order_or_cycle document are.ids known) [
    | inl order ↦ inl (document, record { parts_are = are; known = known; ordered = order })
    | inr cycle ↦ inr (refusals.Cycle cycle.0, (λ e. absurd cc), record { document = document; parts_are = are; known = known; leads_round = cycle.1 })
  ]

  known_or_unknown : (document : Document) → AreParts parts document → Answer
  known_or_unknown document are = elim (unknown_or_known document) [
    | inl found ↦ inr (refusals.DependsUnknown found.0 found.1, (λ e. absurd cc), record { document = document; parts_are = are; unknown = found.2 })
    | inr known ↦ ordered_or_round document are known
  ]

  ids_or_twins : (document : Document) → AreJoined parts document → length document.resources ≤ MAX_RESOURCES → Answer
  ids_or_twins document are few = elim (repeats_or_apart (λ (r : Resource). r.id) document.resources) [
    | inl found ↦
        let first = spot_is document.resources found.0 found.2.repeats.1 found.2.repeats.3 in
        let second = spot_is document.resources found.1 found.2.repeats.2 found.2.repeats.4 in
        inr (
          refusals.DuplicateId first.0 second.0,
          (λ e. absurd cc),
          record {
            document = document;
            are_joined = are;
            few = few;
            repeats = record { earlier = found.0; later = found.1; repeats = found.2; first_is = first.1; second_is = second.1 };
          },
        )
    | inr ids ↦ known_or_unknown document (record { are_joined = are; few = few; ids = ids })
  ]

  few_or_many : (document : Document) → AreJoined parts document → Answer
  few_or_many document are = elim (cases_lt MAX_RESOURCES (length document.resources)) [
    | inl many ↦ inr (refusals.TooMany (length document.resources), (λ e. absurd cc), record { document = document; are_joined = are; counted = refl; many = many })
    | inr few ↦ ids_or_twins document are few
  ]

  joined_or_fault : NamesDiffer parts → All IsRead parts → Answer
  joined_or_fault names each = elim (whole_or_fault parts each) [
    | inl whole ↦ few_or_many (joined parts whole.0) (record { names = names; documents = whole.0; whole = whole.1; joined = refl })
    | inr first ↦ inr (refusals.Part first.index first.fault, (λ e. absurd cc), record { names = names; here = first.here; before = first.before })
  ]

  pub answers_exist : AnswersExist parts
  answers_exist each = elim (repeats_or_apart (λ (part : Part). part.name) parts) [
    | inl found ↦ inr (refusals.TwoNames found.0 found.1, (λ e. absurd cc), found.2)
    | inr names ↦ joined_or_fault names each
  ]
