-- How a start ends, and what it prints.
use Rattle.std.specs.Prelude.{◌≡◌, ◌⊎◌, ℕ, List, []}
use Rattle.partial_merge.specs.declared.error.MergeError.{MergeError}
use Rattle.partial_merge.specs.declared.error.MergeError.TheVariants as merging
use Rattle.node_state.specs.declared.error.StageError.{StageError}
use Rattle.node_state.specs.declared.error.StageError.TheVariants as staging
use Rattle.node_store.specs.declared.error.StoreError.{StoreError}
use Rattle.node_store.specs.declared.error.StoreError.TheVariants as errors
use Rattle.dsc_node.specs.declared.status.InputError.TheVariants as inputs
use Rattle.dsc_node.specs.declared.status.Status.{Status}
use Rattle.dsc_node.specs.declared.status.Status.TheVariants as statuses

-- a start ends with this status, and prints this text
abbrev pub Ends : Status → List ℕ → Status → List ℕ → Type 0
Ends wanted text status lines = (status ≡ wanted) × (lines ≡ text)

-- the same, unless memory runs out for the text
abbrev pub Answers : Status → List ℕ → Status → List ℕ → Type 0
Answers wanted text status lines = Ends wanted text status lines ⊎ Ends statuses.Memory [] status lines

-- a pushed document was refused
abbrev pub status_of_input : MergeError → Status
status_of_input merging.Memory = statuses.Memory
status_of_input error = statuses.InputRefused (inputs.Merge error)

-- the list of parts that it comes to was refused
abbrev pub status_of_staging : StageError → Status
status_of_staging (staging.Merge error) = status_of_input error
status_of_staging (staging.Fit error) = statuses.InputRefused (inputs.Fit error)
status_of_staging (staging.TooLong bytes) = statuses.InputRefused (inputs.ListTooLong bytes)
status_of_staging staging.Memory = statuses.Memory

-- the store was not opened, or an event not committed
abbrev pub status_of : StoreError → Status
status_of errors.Spent = statuses.DiskFault
status_of errors.Disk = statuses.DiskFault
status_of (errors.NotAStore at) = statuses.NotAStore at
status_of (errors.NotAllowed why) = statuses.NotAllowed why
status_of errors.Memory = statuses.Memory
