-- Bodies by digests: what they are, and how long.
use Rattle.std.proofs.Common.{◌≡◌, ℕ, ◌+◌, ◌*◌, ◌≤◌, List, [], ◌∷◌, ◌++◌, map, length, refl, sym, ap, ◌∙◌, subst, arith, length-append}
use Rattle.std.specs.Prelude.{Bool}
use Rattle.std.specs.List.{AllByRecursion, flat_map}
use Rattle.std.proofs.lemmas.List.{length-map}
use Rattle.std.proofs.lemmas.List.Concat.{flat_map-cons}
use Rattle.std.proofs.lemmas.List.Elements.{recursion_from_All}
use Rattle.sha2.specs.Sha256.{sha256}
use Rattle.sha2.proofs.Facts256.{length-sha256}
use Rattle.dsc_document.specs.Sizes.{Fits}
use Rattle.gate_log.specs.Text.{AllFit}
use Rattle.mof_values.specs.declared.limits.TheConstants.{MAX_NAME_BYTES}
use Rattle.store_fields.specs.Fields.{IsBlob, bytes_of_digest, bytes_of_text}
use Rattle.partial_merge.specs.declared.part.Part.{Part}
use Rattle.report_log.specs.declared.limits.TheConstants.{MAX_PARTS}
use Rattle.node_state.specs.declared.event.Event.{Event}
use Rattle.node_state.specs.declared.event.Stage.{Stage}
use Rattle.node_state.specs.declared.limits.TheConstants.{MAX_BYTES}
use Rattle.node_state.specs.Lists.{IsStaged}
use Rattle.node_store.specs.declared.limits.TheConstants.{MAX_BODY}
use Rattle.node_store.specs.Digests.{Blobs, blob_body, mark_of, slot_body, stage_body}
use Rattle.node_store.specs.Bodies.{bytes_of_stage}
use Rattle.node_store.specs.Growing.{marks_of}
use Rattle.node_store.specs.Reports.{bytes_of_mark}
use Rattle.node_store.specs.Store.{IsStage, TakesMemory, reserved_after}
use Rattle.node_store.proofs.Sizes.{text_long}

-- ---- the body of a Stage by digests

marks_are : (parts : List Part) → flat_map bytes_of_mark (map mark_of parts) ≡ marks_of parts
marks_are [] = refl
marks_are (part ∷ parts) = flat_map-cons bytes_of_mark (mark_of part) (map mark_of parts) ∙ ap (λ (l : List ℕ). bytes_of_mark (mark_of part) ++ l) (marks_are parts)

pub stage_is : (parts : List Part) → 17 ∷ length parts ∷ marks_of parts ≡ stage_body parts
stage_is parts = λ i. 17 ∷ sym (length-map parts mark_of) i ∷ sym (marks_are parts) i

-- the body of a Slot by digests
pub slot_is : (stage : Stage) (parts : List Part) → 18 ∷ (bytes_of_stage stage ++ (length parts ∷ marks_of parts)) ≡ slot_body stage parts
slot_is stage parts = λ i. 18 ∷ (bytes_of_stage stage ++ (sym (length-map parts mark_of) i ∷ sym (marks_are parts) i))

marks_long : (parts : List Part) → AllByRecursion (λ part. Fits MAX_NAME_BYTES part.name) parts → length (marks_of parts) ≤ 289 * length parts
marks_long [] all = omega arith
marks_long (part ∷ parts) all =
    omega (
      arith,
      all.0,
      marks_long parts all.1,
      text_long part.name,
      ap length part.whole,
      length-sha256 part.bytes,
      length-append (bytes_of_text part.name) (bytes_of_digest part.digest),
      length-append (bytes_of_mark (mark_of part)) (marks_of parts),
    )

pub stage_long : (parts : List Part) → IsStaged parts → length (stage_body parts) ≤ 2 + 289 * MAX_PARTS
stage_long parts staged =
    let few : length parts ≤ MAX_PARTS = staged.named.few in
    omega (arith, few, marks_long parts (recursion_from_All (λ part. Fits MAX_NAME_BYTES part.name) parts staged.named.names), sym (ap length (stage_is parts)))

-- ---- the bodies of a Stage

pub blobs_fit_before : (texts : Blobs) (rest : List (List ℕ)) → AllByRecursion (λ text. length text ≤ MAX_BYTES) texts → AllFit MAX_BODY rest → AllFit MAX_BODY (map blob_body texts ++ rest)
blobs_fit_before [] rest all fits = fits
blobs_fit_before (text ∷ texts) rest all fits =
    let long : length text ≤ MAX_BYTES = all.0 in
    (omega (arith, long, length-append (sha256 text) text, length-sha256 text), blobs_fit_before texts rest all.1 fits)

pub are_blobs : (texts : Blobs) → AllByRecursion (λ text. length text ≤ MAX_BYTES) texts → AllByRecursion IsBlob texts
are_blobs [] all = tt
are_blobs (text ∷ texts) all = let long : length text ≤ MAX_BYTES = all.0 in (omega (arith, long), are_blobs texts all.1)

-- a Stage takes memory, and leaves what was reserved
pub stage_takes : (event : Event) (reserved : Bool) → IsStage event → TakesMemory reserved event
stage_takes event reserved (staged, is) = subst (λ (e : Event). TakesMemory reserved e) (sym is) tt

pub stage_leaves : (event : Event) (reserved : Bool) → IsStage event → reserved_after event reserved ≡ reserved
stage_leaves event reserved (staged, is) = subst (λ (e : Event). reserved_after e reserved ≡ reserved) (sym is) refl
