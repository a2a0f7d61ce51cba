-- What a rewrite leaves.
use Rattle.std.proofs.Common.{◌≡◌, ◌⊎◌, inl, inr, ℕ, Bool, true, false, Bor, List, [], ◌++◌, Option, Some, Result, Ok, Err, refl, sym, subst}
use Rattle.std.specs.Prelude.{OnOk}
use Rattle.dsc_outside.specs.declared.disk.Disk.{Ghosts}
use Rattle.dsc_outside.specs.declared.failed.Failed.{Failed}
use Rattle.gate_log.specs.Kept.{Replaced}
use Rattle.gate_log.specs.Log.{IsLogOf, LogTerm}
use Rattle.partial_merge.specs.declared.part.Part.{Part}
use Rattle.node_state.specs.declared.node.Node.{Node}
use Rattle.node_store.specs.Bank.{blobs_as}
use Rattle.node_store.specs.Digests.{Blobs, HaveOneDigest, Lack, texts_in, texts_of_node}
use Rattle.node_store.specs.Growing.{AddsTexts, AllAmong}
use Rattle.node_store.specs.Store.{IsRewritten}
use Rattle.node_store.specs.Whole.{AreBlobsOf, parts_in, whole_bodies}
use Rattle.node_store.proofs.Lacking.{adds_all}

pub rewritten_to : {T D : Type 0} (d : Ghosts D) (before now : D) (old new : LogTerm) (blobs : Option Blobs) (node : Node) (agent : ℕ) (bodies whole : List (List ℕ)) → node.agent ≡ Some agent → AreBlobsOf blobs node
    → whole ≡ whole_bodies blobs agent node → (result : Result T Failed) → Replaced old whole (d.faults before) (d.faults now) result new → OnOk result (IsLogOf d now new whole)
    → OnOk result (IsRewritten d now old new blobs node)
rewritten_to d before now old new blobs node agent bodies whole is are same (Ok v) answer of = record {
  agent = agent;
  is = is;
  texts = are;
  second = answer.second;
  bodies = subst (λ (l : List (List ℕ)). IsLogOf d now new l) same of;
}
rewritten_to d before now old new blobs node agent bodies whole is are same (Err e) answer of = tt

-- ---- the texts of a node, chosen

module _ (new : Blobs) (node : Node) (pending current previous : Option (Bor (List Part))) (first : parts_in pending ≡ node.pending) (second : parts_in current ≡ node.current) (third : parts_in previous ≡ node.previous) where
  same_texts : texts_in (parts_in pending) ++ (texts_in (parts_in current) ++ texts_in (parts_in previous)) ≡ texts_of_node node
  same_texts = λ i. texts_in (first i) ++ (texts_in (second i) ++ texts_in (third i))

  pub chosen_texts : (apart : Bool) → AddsTexts [] (texts_in (parts_in pending) ++ (texts_in (parts_in current) ++ texts_in (parts_in previous))) apart new → AddsTexts [] (texts_of_node node) apart new
  chosen_texts apart adds = subst (λ (l : List (List ℕ)). AddsTexts [] l apart new) same_texts adds

  -- they are all there
  pub chosen_all : (apart : Bool) → AddsTexts [] (texts_in (parts_in pending) ++ (texts_in (parts_in current) ++ texts_in (parts_in previous))) apart new → AllAmong new (texts_of_node node)
  chosen_all apart adds = adds_all [] new (texts_of_node node) apart (chosen_texts apart adds)

-- they are its Blobs, where no two have one digest
pub chosen_blobs : (new : Blobs) (node : Node) (apart : Bool) → AddsTexts [] (texts_of_node node) apart new → AreBlobsOf (blobs_as apart new) node
chosen_blobs new node true adds = subst (λ (b : Blobs). Lack [] (texts_of_node node) b) (sym adds.is) adds.lack
chosen_blobs new node false adds = tt

pub chosen_format : (new : Blobs) (node : Node) (apart : Bool) → AddsTexts [] (texts_of_node node) apart new → (apart ≡ true) ⊎ HaveOneDigest (texts_of_node node)
chosen_format new node true adds = inl refl
chosen_format new node false adds = inr adds.pair
