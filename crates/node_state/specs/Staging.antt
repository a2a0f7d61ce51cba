-- Why parts are not staged. A reason stands only where none that wins over it does.
use Rattle.std.specs.Prelude.{◌≡◌, ◌≢◌, ℕ, ◌<◌, ◌≤◌, List, Some, None, ⊤}
use Rattle.dsc_document.specs.declared.document.Document.{Document}
use Rattle.meta_config.specs.declared.meta.Meta.{Meta}
use Rattle.partial_merge.specs.declared.part.Part.{Part}
use Rattle.partial_merge.specs.declared.error.MergeError.TheVariants as merging
use Rattle.partial_merge.specs.Merged.{Merged}
use Rattle.partial_merge.specs.Refused.{Refused}
use Rattle.node_state.specs.declared.error.FitError.{FitError}
use Rattle.node_state.specs.declared.error.StageError.{StageError}
use Rattle.node_state.specs.declared.error.StageError.TheVariants.{Merge, Fit, TooLong, Memory}
use Rattle.node_state.specs.declared.limits.TheConstants.{MAX_BYTES}
use Rattle.node_state.specs.Fits.{misfit}
use Rattle.node_state.specs.Lists.{bytes_of}

-- the parts are merged to a document, which fits the meta-configuration
pub record AreFitting (meta : Meta) (parts : List Part) : Type 0 where
  pub document : Document
  pub merged : Merged parts document
  pub fits : misfit meta.partials document ≡ None

-- the parts are merged to a document, which does not fit for this reason
pub record AreMisfits (meta : Meta) (parts : List Part) (error : FitError) : Type 0 where
  pub document : Document
  pub merged : Merged parts document
  pub misfits : misfit meta.partials document ≡ Some error

-- the parts fit, and have together that many bytes, which are too many
pub record AreTooLong (meta : Meta) (parts : List Part) (bytes : ℕ) : Type 0 where
  pub fitting : AreFitting meta parts
  pub counted : bytes ≡ bytes_of parts
  pub long : MAX_BYTES < bytes

-- the parts are refused so. `Memory` has no cause here
abbrev pub AreRefused : Meta → List Part → StageError → Type 0
AreRefused meta parts (Merge error) = (error ≢ merging.Memory) × Refused parts error
AreRefused meta parts (Fit error) = AreMisfits meta parts error
AreRefused meta parts (TooLong bytes) = AreTooLong meta parts bytes
AreRefused meta parts Memory = ⊤

-- parts that fit, and are not too long together, are refused for memory alone
abbrev pub FittingAreTaken : Type 0
FittingAreTaken = (meta : Meta) (parts : List Part) (error : StageError) → AreFitting meta parts → bytes_of parts ≤ MAX_BYTES → AreRefused meta parts error → error ≡ Memory
