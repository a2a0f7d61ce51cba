-- Lists of new parts that are laid over the parts that a node holds.
use Rattle.std.specs.Prelude.{◌≡◌, ℕ, List, ⊤, Option, filter_map, find}
use Rattle.std.specs.Option.{option_or}
use Rattle.mof_values.specs.Fold.{same_name}
use Rattle.meta_config.specs.declared.meta.Meta.{Meta}
use Rattle.partial_merge.specs.declared.part.Part.{Part}
use Rattle.node_state.specs.declared.error.StageError.{StageError}
use Rattle.node_state.specs.declared.error.StageError.TheVariants.{Memory}
use Rattle.node_state.specs.Staging.{AreRefused}
use Rattle.node_pull.specs.Names.{ArePartNames}

-- the first of the parts that has the name; names of parts compare by fold, and the part keeps its own spelling
abbrev pub first_under : List Part → List ℕ → Option Part
first_under parts name = find (λ part. same_name part.name name) parts

-- the new part of the name, or else the one that is held
abbrev pub part_over : List Part → List Part → List ℕ → Option Part
part_over new held name = option_or (first_under new name) (first_under held name)

-- for each of the names, in their order, its new part, or else the one that is held, or else none
abbrev pub laid_over : List (List ℕ) → List Part → List Part → List Part
laid_over names new held = filter_map (part_over new held) names

-- the parts are those of the meta-configuration's names: the new ones, and for each other name the one that is held, where there is one
pub record AreLaid (meta : Meta) (new held parts : List Part) : Type 0 where
  pub names : List (List ℕ)
  pub part_names : ArePartNames meta names
  pub laid : parts ≡ laid_over names new held

-- those parts are refused so. `Memory` has no cause here
abbrev pub AreLaidRefused : Meta → List Part → List Part → StageError → Type 0
AreLaidRefused meta new held Memory = ⊤
AreLaidRefused meta new held error = (parts : List Part) × AreLaid meta new held parts × AreRefused meta parts error
