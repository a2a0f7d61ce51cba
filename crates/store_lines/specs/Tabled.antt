-- What is printed of a store as a table.
use Rattle.std.specs.Prelude.{ℕ, if◌then◌else◌, List, [], ◌∷◌, ◌++◌, length, codes, Option}
use Rattle.std.specs.List.{flat_map}
use Rattle.std.specs.Fmt.{decimal}
use Rattle.pull_store.specs.declared.limits.TheConstants.{MAX_ROWS}
use Rattle.pull_store.specs.declared.row.Row.{Row}
use Rattle.agent_class.specs.declared.class.Class.{Class}
use Rattle.agent_line.specs.declared.cells.Cells.{Cells}
use Rattle.agent_line.specs.Table as tables
use Rattle.store_lines.specs.declared.seen.Seen.{Seen}
use Rattle.store_lines.specs.Told.{class_word, is_shown, seen_of}

-- the cells of an agent, where its class is shown
unfoldable pub seen_cells : List Class → Row → Seen → List Cells
seen_cells classes row seen =
    if is_shown classes seen.class then tables.cells_of row (class_word seen.class) seen.stale seen.message ∷ [] else []

abbrev pub agent_cells : List Class → Option ℕ → Row → List Cells
agent_cells classes since row = seen_cells classes row (seen_of since row)

abbrev pub cells_of : List Class → Option ℕ → List Row → List Cells
cells_of classes since rows = flat_map (agent_cells classes since) rows

-- how many places of a store are taken
unfoldable pub places_line : List ℕ → ℕ → List ℕ
places_line store agents =
    tables.harmless_text store ++ codes ": " ++ decimal agents ++ codes " of " ++ decimal MAX_ROWS ++ codes " places are taken\n"

-- the names of the columns, a row for each agent whose class is shown, in the order in which they were first registered, and the store
abbrev pub store_table : List Class → Option ℕ → List ℕ → List Row → List ℕ
store_table classes since store rows =
    tables.table_text (tables.head_cells ∷ cells_of classes since rows) ++ places_line store (length rows)
