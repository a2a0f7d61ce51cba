-- The rows of a rehearsal: how each start ended, and what the node then holds.
use Rattle.std.specs.Prelude.{◌≡◌, ℕ, Bool, if◌then◌else◌, List, [], ◌∷◌, ◌++◌, length, codes, Option, Some, None, option_map}
use Rattle.std.specs.Fmt.{decimal}
use Rattle.node_state.specs.declared.node.Node.{Node}
use Rattle.node_store.specs.Stands.{Stands}
use Rattle.rehearsal.specs.World.{World}
use Rattle.rehearsal.specs.declared.row.Ending.{Ending}
use Rattle.rehearsal.specs.declared.row.Ending.TheVariants.{Named, Stopped}
use Rattle.rehearsal.specs.declared.row.StartRow.{StartRow}
use Rattle.rehearsal.specs.declared.row.Slots.{Slots}

-- a start that the stop came in prints no status
abbrev pub ending_of : Bool → List ℕ → Ending
ending_of stopped name = if stopped then Stopped else Named name

-- the numbers of the parts that a node holds
abbrev pub slots_of : Node → Slots
slots_of node = record {
  pending = option_map length node.pending;
  current = option_map length node.current;
  previous = option_map length node.previous;
}

-- the row of the start that led to this world: the node is the one that the disk then holds
pub record IsRow (ending : Ending) (world : World) (row : StartRow) : Type 0 where
  pub number : row.number ≡ world.starts
  pub ends : row.ending ≡ ending
  pub node : Node
  pub stands : Stands world.image node
  pub slots : row.slots ≡ slots_of node

-- ---- lines

abbrev pub ending_word : Ending → List ℕ
ending_word (Named name) = name
ending_word Stopped = codes "Stopped"

abbrev pub slot_word : Option ℕ → List ℕ
slot_word None = codes "-"
slot_word (Some count) = decimal count

abbrev pub slots_words : Slots → List ℕ
slots_words slots = slot_word slots.pending ++ codes " " ++ slot_word slots.current ++ codes " " ++ slot_word slots.previous

-- as in `3 Done - 1 -`
abbrev pub row_line : StartRow → List ℕ
row_line row = decimal row.number ++ codes " " ++ ending_word row.ending ++ codes " " ++ slots_words row.slots ++ 10 ∷ []
