-- The part of generated instances is merged, or memory is lacking.
use Rattle.std.proofs.Common.{◌≡◌, ℕ, zero, suc, ◌≤◌, List, [], ◌∷◌, refl, subst}
use Rattle.mof_values.specs.declared.instance.Instance.{Instance}
use Rattle.mof_syntax.specs.Refusals.{Reads}
use Rattle.mof_codec.proofs.OneRefusal.{reads_once}
use Rattle.dsc_document.specs.Rules.{Applies}
use Rattle.dsc_document.proofs.FirstUnknown.{unknown_unknown}
use Rattle.partial_merge.specs.declared.part.Part.{Part}
use Rattle.partial_merge.specs.declared.error.PartFault.{PartFault}
use Rattle.partial_merge.specs.declared.error.PartFault.TheVariants.{Mof, Doc}
use Rattle.partial_merge.specs.declared.error.MergeError.{MergeError}
use Rattle.partial_merge.specs.declared.error.MergeError.TheVariants as refusals
use Rattle.partial_merge.proofs.OnePart.{one_differs}
use Rattle.partial_merge.proofs.OnePartRefusals.{one_not_many, one_not_same}
use Rattle.partial_merge.specs.Refused.{HasFault, IsFirstFault, Refused}
use Rattle.generated_document.specs.Generated.{generated_instances}
use Rattle.generated_document.proofs.Kept.{rules_kept}
use Rattle.generated_document.proofs.NoCycle.{no_cycle}
use Rattle.generated_document.proofs.Resources.{names_resources, resources_are}
use Rattle.dsc_document.specs.declared.limits.TheConstants.{MAX_RESOURCES}

module _ (part : Part) (n : ℕ) (few : n ≤ MAX_RESOURCES) (reads : Reads part.bytes (generated_instances n)) where
  no_fault : (fault : PartFault) → HasFault part fault → ⊥
  no_fault (Mof refusal) has = has.unspelled (generated_instances n) reads
  no_fault (Doc refusal) has =
      rules_kept n few refusal has.3
      (subst (λ (instances : List Instance). Applies instances refusal) (reads_once part.bytes has.0 (generated_instances n) has.1 reads) has.2.applies)

  no_first_fault : (index : ℕ) (fault : PartFault) → IsFirstFault (part ∷ []) index fault → ⊥
  no_first_fault zero fault first = no_fault fault first.here
  no_first_fault (suc index) fault first = first.here

  pub only_memory : (error : MergeError) → Refused (part ∷ []) error → error ≡ refusals.Memory
  only_memory (refusals.TwoNames i j) refused = absurd (one_differs part i j refused.repeats)
  only_memory (refusals.TooMany count) refused = absurd (one_not_many part count refused)
  only_memory (refusals.DuplicateId first second) refused = absurd (one_not_same part first second refused)
  only_memory (refusals.Part index fault) refused = absurd (no_first_fault index fault refused)
  only_memory (refusals.DependsUnknown spot name) refused =
      absurd (unknown_unknown refused.document spot name refused.unknown
      (names_resources refused.document n (resources_are part n reads refused.document refused.parts_are)))
  only_memory (refusals.Cycle cycle) refused =
      absurd (no_cycle refused.document n few (resources_are part n reads refused.document refused.parts_are) cycle refused.leads_round)
  only_memory refusals.Memory refused = refl
