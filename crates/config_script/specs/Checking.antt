-- What is looked for in the events of a script. That it is the first of its kind in the blocks is proved of it in proofs/.
use Rattle.std.specs.Prelude.{◌≢◌, ⊤, ℕ, Bool, false, ◌||◌, List, [], ◌∷◌, Option, Some, None, is_none, if◌then◌else◌}
use Rattle.mof_values.specs.Fold.{same_name}
use Rattle.partial_merge.specs.Parts.{unnamed_part}
use Rattle.partial_merge.specs.Refused.{Refused}
use Rattle.partial_merge.specs.declared.error.MergeError.TheVariants as merge_errors
use Rattle.config_script.specs.declared.error.CompileError.{CompileError}
use Rattle.config_script.specs.declared.error.CompileError.TheVariants as reasons
use Rattle.config_script.specs.declared.kind.Kind as code
use Rattle.config_script.specs.declared.kind.Kind.TheVariants as variants
use Rattle.config_script.specs.Denoting.{Kind, kind_named, is_reserved, file, environment, log, command}
use Rattle.config_script.specs.Places as events
use Rattle.config_script.specs.Places.{Event}

-- what a kind of the code stands for
abbrev pub kind_of : code.Kind → Kind
kind_of variants.File = file
kind_of variants.Environment = environment
kind_of variants.Log = log
kind_of variants.Command = command

-- the first of two
abbrev pub or_else : Option (List ℕ) → Option (List ℕ) → Option (List ℕ)
or_else (Some x) other = Some x
or_else None other = other

-- the script from the first kind on that is not known
abbrev pub unknown_in : List Event → Option (List ℕ)
unknown_in [] = None
unknown_in (events.Kind from word ∷ es) = if is_none (kind_named word) then Some from else unknown_in es
unknown_in (e ∷ es) = unknown_in es

-- the script from the first property on whose name is reserved
abbrev pub reserved_in : List Event → Option (List ℕ)
reserved_in [] = None
reserved_in (events.Property from name ∷ es) = if is_reserved name then Some from else reserved_in es
reserved_in (e ∷ es) = reserved_in es

-- whether a block names the node
abbrev pub named_in : List ℕ → List Event → Bool
named_in node [] = false
named_in node (events.Node name ∷ es) = same_name name node || named_in node es
named_in node (e ∷ es) = named_in node es

-- the reason is that the text does not merge as one part, or out of memory
abbrev pub MergesAs : List ℕ → CompileError → Type 0
MergesAs document (reasons.Merge error) = (error ≢ merge_errors.Memory) × Refused (unnamed_part document ∷ []) error
MergesAs document reasons.Memory = ⊤
MergesAs document _ = ⊥
