-- What parts that are merged come to.
use Rattle.std.proofs.Common.{◌≡◌, ◌*◌, ◌^◌, ◌<◌, ◌≤◌, List, [], ◌∷◌, length, ◌∙◌, ap, arith, inl, inr, false}
use Rattle.std.specs.List.{AllZip}
use Rattle.std.proofs.lemmas.List.{length-map}
use Rattle.std.proofs.lemmas.Bool.{cases_lt}
use Rattle.std.proofs.lemmas.List.Sums.{sum_by-cons}
use Rattle.std.proofs.lemmas.Grind.{not_there}
use Rattle.std.specs.Prelude.{◌≢◌, ◌↔◌, Bool, Result, Ok, Err, IfOk, IsTrue}
use Rattle.dsc_document.specs.declared.document.Document.{Document}
use Rattle.partial_merge.specs.declared.part.Part.{Part}
use Rattle.partial_merge.specs.Merged.{Merged}
use Rattle.partial_merge.specs.Parts.{IsWhole}
use Rattle.partial_merge.specs.declared.error.MergeError.{MergeError}
use Rattle.partial_merge.specs.declared.error.MergeError.TheVariants.{Memory}
use Rattle.partial_merge.specs.Refused.{Refused}
use Rattle.partial_merge.proofs.OneMerge.{never_both}
use Rattle.meta_config.specs.declared.meta.Meta.{Meta}
use Rattle.meta_config.specs.Parts.{IsMeta}
use Rattle.meta_config.proofs.ReadBack.{is_well_formed}
use Rattle.meta_config.proofs.WrittenTexts.{at_most}
use Rattle.node_state.specs.Lists.{bytes_of, IsMerged}
use Rattle.mof_syntax.specs.declared.limits.TheConstants.{MAX_DOCUMENT}

-- the document names its parts
pub parts_named : (parts : List Part) (document : Document) → Merged parts document → length document.parts ≡ length parts
parts_named parts document merged =
    ap (λ (d : Document). length d.parts) merged.parts_are.are_joined.joined ∙ length-map parts (λ part. part.name)

-- whole parts are not too long together
whole_small : (parts : List Part) (documents : List Document) → AllZip IsWhole parts documents → bytes_of parts ≤ length parts * MAX_DOCUMENT
whole_small [] documents whole = omega arith
whole_small (part ∷ parts) [] whole = absurd whole
whole_small (part ∷ parts) (document ∷ documents) whole =
    omega (arith, sum_by-cons (λ (p : Part). length p.bytes) part parts, whole.0.spelled.within, whole_small parts documents whole.1)

pub merged_small : (parts : List Part) (document : Document) → Merged parts document → length parts ≤ 8 → bytes_of parts < 2 ^ 64
merged_small parts document merged few =
    let joined = merged.parts_are.are_joined in
    omega (arith, whole_small parts joined.documents joined.whole, few)

-- parts that are refused for another cause than memory are not merged
pub refused_unmerged : (parts : List Part) (refusal : MergeError) → refusal ≢ Memory → Refused parts refusal → IsMerged parts → ⊥
refused_unmerged parts refusal caused refused merged =
    not_there merged (λ found. never_both parts found.0 refusal caused found.1 refused)

pub small_of_merged : (parts : List Part) → IsMerged parts → length parts ≤ 8 → bytes_of parts < 2 ^ 64
small_of_merged parts merged few =
    elim (cases_lt (bytes_of parts) (2 ^ 64)) [
      | inl small ↦ small
      | inr large ↦ absurd (not_there merged (λ found. omega (arith, merged_small parts found.0 found.1 few, large)))
    ]

-- what is answered of parts that are refused
pub unmerged : {E : Type 0} (parts : List Part) (refusal : MergeError) (answer : Result Bool E) → Refused parts refusal
    → IfOk answer (λ merged. (merged ≡ false) × (refusal ≢ Memory)) → IfOk answer (λ merged. IsTrue merged ↔ IsMerged parts)
unmerged parts refusal (Err e) refused answered = tt
unmerged parts refusal (Ok merged) refused answered =
    (λ yes. cc (yes, answered.0), λ is. absurd (refused_unmerged parts refusal answered.1 refused is))

-- the partial configurations of a meta-configuration are few
pub few_partials : (meta : Meta) → IsMeta meta → length meta.partials < 2 ^ 32
few_partials meta is = omega (arith, at_most (length meta.partials) 8 (is_well_formed meta is).few_partials)
