-- A bank has capacity for a whole node in either format.
use Rattle.std.proofs.Common.{ℕ, ◌+◌, ◌*◌, ◌≤◌, ◌<◌, All, Option, Some, None, List, [], ◌++◌, length, map, refl, arith, length-append}
use Rattle.std.specs.Prelude.{IfSome}
use Rattle.std.specs.List.{AllByRecursion}
use Rattle.std.proofs.lemmas.List.{length-map}
use Rattle.store_fields.specs.Fields.{IsBlob}
use Rattle.gate_log.specs.Text.{AllFit, after_gate, cells}
use Rattle.gate_log.proofs.Cells.{length-after_gate}
use Rattle.gate_log.proofs.OneByOne.{cells_both}
use Rattle.partial_merge.specs.declared.part.Part.{Part}
use Rattle.report_log.specs.declared.limits.TheConstants.{MAX_PARTS}
use Rattle.node_state.specs.declared.event.Stage.{Stage}
use Rattle.node_state.specs.declared.limits.TheConstants.{MAX_BYTES}
use Rattle.node_state.specs.declared.node.Kept.{Kept}
use Rattle.node_state.specs.declared.node.Node.{Node}
use Rattle.node_state.specs.Lists.{IsStaged}
use Rattle.node_state.specs.Pieces.{front}
use Rattle.node_state.specs.Sound.{Sound}
use Rattle.node_store.specs.Bodies.{HasDigests}
use Rattle.node_store.specs.Digests.{Blobs, Lack, blob_body, format_body, slot_body, texts_in, texts_of_node}
use Rattle.node_store.specs.Whole.{AreBlobsOf, body_by_digests, whole_bodies}
use Rattle.node_store.specs.declared.limits.TheConstants.{BANK, MAX_BODY}
use Rattle.node_store.proofs.AddedByDigests.{AreShort, lack_long, lack_short, parts_short, short_both, total, total_both, total_is}
use Rattle.node_store.proofs.Sizes.{front_fits, front_small}
use Rattle.node_store.proofs.ByDigests.{are_blobs, blobs_fit_before, stage_long}

-- the texts of a stage are few, and not long together
record AreFew (count size : ℕ) (texts : List (List ℕ)) : Type 0 where
  pub few : length texts ≤ count
  pub long : total texts ≤ size
  pub short : AreShort MAX_BYTES texts

slot_few : (slot : Option (List Part)) → IfSome slot IsStaged → AreFew MAX_PARTS MAX_BYTES (texts_in slot)
slot_few None staged = record { few = omega arith; long = omega (arith, total_is []); short = tt }
slot_few (Some parts) staged = record {
  few = omega (arith, staged.named.few, length-map parts (λ (p : Part). p.bytes));
  long = omega (arith, staged.long, total_is parts);
  short = parts_short parts MAX_BYTES staged.long;
}

both_few : (a b c d : ℕ) (xs ys : List (List ℕ)) → AreFew a b xs → AreFew c d ys → AreFew (a + c) (b + d) (xs ++ ys)
both_few a b c d xs ys one other = record {
  few = omega (arith, one.few, other.few, length-append xs ys);
  long = omega (arith, one.long, other.long, total_both xs ys);
  short = short_both MAX_BYTES xs ys one.short other.short;
}

node_few : (node : Node) → Sound node → AreFew (MAX_PARTS + (MAX_PARTS + MAX_PARTS)) (MAX_BYTES + (MAX_BYTES + MAX_BYTES)) (texts_of_node node)
node_few node sound =
    both_few MAX_PARTS MAX_BYTES (MAX_PARTS + MAX_PARTS) (MAX_BYTES + MAX_BYTES) (texts_in node.pending) (texts_in node.current ++ texts_in node.previous) (slot_few node.pending sound.pending)
    (both_few MAX_PARTS MAX_BYTES MAX_PARTS MAX_BYTES (texts_in node.current) (texts_in node.previous) (slot_few node.current sound.current) (slot_few node.previous sound.previous))

-- the Blobs of a node are small
pub node_blobs : (blobs : Blobs) (node : Node) → Lack [] (texts_of_node node) blobs → Sound node → AllByRecursion IsBlob blobs
node_blobs blobs node lack sound = are_blobs blobs (lack_short [] (texts_of_node node) blobs MAX_BYTES (node_few node sound).short lack)

-- the most bytes of a Slot's cell
abbrev slot_most : ℕ
slot_most = 8 + 289 * MAX_PARTS

slot_long : (stage : Stage) (parts : List Part) → IsStaged parts → 5 + length (slot_body stage parts) ≤ slot_most
slot_long stage parts staged = omega (arith, stage_long parts staged)

pub whole_fits : (blobs : Option Blobs) (agent : ℕ) (node : Node) → AreBlobsOf blobs node → Sound node → All (λ (k : Kept). HasDigests k.report) node.reports
    → (length (cells (whole_bodies blobs agent node)) < BANK) × AllFit MAX_BODY (whole_bodies blobs agent node)
whole_fits (Some blobs) agent node lack sound digests =
    let fits = front_fits (λ piece. body_by_digests piece) (λ agent node. refl) (λ kept. refl) slot_most (omega arith) slot_long agent node sound digests in
    let few = node_few node sound in
    let rest = map body_by_digests (front agent node) in (
      omega (
        arith,
        fits.0,
        few.few,
        few.long,
        lack_long [] (texts_of_node node) blobs lack,
        cells_both (map blob_body blobs) rest,
        length-append (after_gate format_body) (cells (map blob_body blobs ++ rest)),
        length-after_gate format_body,
      ),
      (omega arith, blobs_fit_before blobs rest (lack_short [] (texts_of_node node) blobs MAX_BYTES few.short lack) fits.1),
    )
whole_fits None agent node lack sound digests = front_small agent node sound digests
