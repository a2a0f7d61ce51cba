-- Lists of parts that a node may keep.
use Rattle.std.specs.Prelude.{ℕ, ◌≤◌, List, All, length, sum_by}
use Rattle.dsc_document.specs.declared.document.Document.{Document}
use Rattle.dsc_document.specs.Sizes.{Fits}
use Rattle.partial_merge.specs.declared.part.Part.{Part}
use Rattle.partial_merge.specs.Merged.{Merged}
use Rattle.node_state.specs.declared.limits.TheConstants.{MAX_BYTES}
use Rattle.mof_values.specs.declared.limits.TheConstants.{MAX_NAME_BYTES}
use Rattle.report_log.specs.declared.limits.TheConstants.{MAX_PARTS}

-- the bytes of all the parts together
abbrev pub bytes_of : List Part → ℕ
bytes_of parts = sum_by (λ part. length part.bytes) parts

-- a part, and at most MAX_PARTS, with names that are not too long
pub record AreNamed (parts : List Part) : Type 0 where
  pub some : 1 ≤ length parts
  pub few : length parts ≤ MAX_PARTS
  pub names : All (λ part. Fits MAX_NAME_BYTES part.name) parts

-- they are merged to some document
abbrev pub IsMerged : List Part → Type 0
IsMerged parts = ∥ ((document : Document) × Merged parts document) ∥₁

-- within these limits, not too long together, and one document
pub record IsStaged (parts : List Part) : Type 0 where
  pub named : AreNamed parts
  pub long : bytes_of parts ≤ MAX_BYTES
  pub merged : IsMerged parts
