-- A pushed document as one part, and parts that a node keeps.
use Rattle.std.proofs.Common.{◌≡◌, ◌≢◌, ℕ, List, [], ◌∷◌, Result, Ok, Err, refl, ap, subst, ◌∙◌}
use Rattle.std.specs.Prelude.{IfErr, IfOk}
use Rattle.std.proofs.lemmas.Grind.{not_there}
use Rattle.sha2.specs.Sha256.{sha256}
use Rattle.depend_order.specs.declared.ordered.OrderedDocument.{OrderedDocument}
use Rattle.meta_config.specs.declared.meta.Meta.{Meta}
use Rattle.partial_merge.specs.declared.error.MergeError.{MergeError}
use Rattle.partial_merge.specs.declared.error.MergeError.TheVariants as merging
use Rattle.partial_merge.specs.declared.part.Part.{Part}
use Rattle.partial_merge.specs.Parts.{text_part}
use Rattle.partial_merge.specs.Refused.{Refused}
use Rattle.partial_merge.proofs.OneMerge.{never_both}
use Rattle.node_state.specs.declared.error.StageError.{StageError}
use Rattle.node_state.specs.declared.error.StageError.TheVariants as stages
use Rattle.node_state.specs.declared.list.Staged.{Staged}
use Rattle.node_state.specs.declared.node.Node.{Node}
use Rattle.node_state.specs.Lists.{IsMerged}
use Rattle.node_state.specs.StagedParts.{parts_of}
use Rattle.node_state.specs.Staging.{AreFitting, AreRefused}
use Rattle.partial_merge.proofs.SameParts.{part_same}
use Rattle.node_pull.specs.Laying.{AreLaid, AreLaidRefused}
use Rattle.dsc_node.specs.Bringing.{Lays, held_of, list_by}

pub part_is : (part : Part) (name bytes : List ℕ) → part.name ≡ name → part.bytes ≡ bytes → part ≡ text_part name bytes
part_is part name bytes named is = part_same part (text_part name bytes) named (part.whole ∙ ap sha256 is) is

-- parts that are not staged since they are no document
pub refused_of : {T : Type 0} (meta : Meta) (parts : List Part) (result : Result T StageError) (refusal : StageError) (error : MergeError) → result ≡ Err refusal → refusal ≡ stages.Merge error
    → IfErr result (AreRefused meta parts) → Refused parts error
refused_of {T} meta parts result refusal error is same refused =
    (subst (λ (e : StageError). AreRefused meta parts e) same (subst (λ (r : Result T StageError). IfErr r (AreRefused meta parts)) is refused)).1

pub memory_of : (error : MergeError) → (error ≢ merging.Memory → ⊥) → error ≡ merging.Memory
memory_of merging.Memory none = refl
memory_of (merging.TwoNames first second) none = absurd (none (λ is. cc is))
memory_of (merging.Part index fault) none = absurd (none (λ is. cc is))
memory_of (merging.TooMany count) none = absurd (none (λ is. cc is))
memory_of (merging.DuplicateId first second) none = absurd (none (λ is. cc is))
memory_of (merging.DependsUnknown spot name) none = absurd (none (λ is. cc is))
memory_of (merging.Cycle walk) none = absurd (none (λ is. cc is))

-- parts that are merged are refused for memory alone
pub refused_for_memory : (parts : List Part) (error : MergeError) → IsMerged parts → Refused parts error → error ≡ merging.Memory
refused_for_memory parts error merged refused =
    memory_of error (λ other. not_there merged (λ found. never_both parts found.0 error other found.1 refused))

-- ---- a part under a name

module _ (node : Node) (part one : Part) (held : List Part) (same : part ≡ one) (is : held ≡ held_of node) where
  -- what comes of the part as it was made, over the parts that were handed over
  laid_here : (parts : List Part) → AreLaid node.meta (part ∷ []) held parts → AreLaid node.meta (one ∷ []) (held_of node) parts
  laid_here parts laid =
      subst (λ (p : Part). AreLaid node.meta (p ∷ []) (held_of node) parts) same
      (subst (λ (hs : List Part). AreLaid node.meta (part ∷ []) hs parts) is laid)

  refused_here : (error : StageError) → AreLaidRefused node.meta (part ∷ []) held error → AreLaidRefused node.meta (one ∷ []) (held_of node) error
  refused_here error refused =
      subst (λ (p : Part). AreLaidRefused node.meta (p ∷ []) (held_of node) error) same
      (subst (λ (hs : List Part). AreLaidRefused node.meta (part ∷ []) hs error) is refused)

  pub lays : (result : Result (Staged × OrderedDocument) StageError) → IfOk result (λ pair. AreLaid node.meta (part ∷ []) held (parts_of pair.0))
      → IfOk result (λ pair. AreFitting node.meta (parts_of pair.0)) → IfErr result (AreLaidRefused node.meta (part ∷ []) held) → Lays node one (list_by result)
  lays (Ok pair) laid fits refused = (laid_here (parts_of pair.0) laid, fits)
  lays (Err error) laid fits refused = refused_here error refused
