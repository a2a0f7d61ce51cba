-- The rows of agents as a table for a terminal.
use Rattle.std.specs.Prelude.{ℕ, ◌+◌, ◌-◌, ◌==◌, ◌&&◌, ◌||◌, Bool, true, false, nat_le, if◌then◌else◌, max, fold, List, [], ◌∷◌, ◌++◌, length, map, replicate, codes, encode_utf8_all, Option, Some, None}
use Rattle.std.specs.List.{flat_map}
use Rattle.std.specs.Fmt.{decimal}
use Rattle.pull_messages.specs.declared.report.ReportMessage.{ReportMessage}
use Rattle.pull_messages.specs.Writing.{id_text}
use Rattle.pull_store.specs.declared.row.Row.{Row}
use Rattle.agent_line.specs.declared.cells.Cell.{Cell}
use Rattle.agent_line.specs.declared.cells.Cells.{Cells}
use Rattle.agent_line.specs.declared.table.Widths.{Widths}
use Rattle.agent_line.specs.Numbers.{count_of}
use Rattle.agent_line.specs.Unmet.{id_in}

-- ---- characters that a terminal may show

abbrev pub is_within : ℕ → ℕ → ℕ → Bool
is_within first last c = nat_le first c && nat_le c last

-- a control character of ISO 646 or ISO 6429
abbrev pub is_control : ℕ → Bool
is_control c = is_within 0 31 c || is_within 127 159 c

-- U+00AD, U+034F, U+061C, U+115F and U+1160, U+17B4 and U+17B5, U+180B to U+180F, U+3164
abbrev pub is_hidden_mark : ℕ → Bool
is_hidden_mark c =
    (c == 173) || (c == 847) || (c == 1564) || is_within 4447 4448 c || is_within 6068 6069 c || is_within 6155 6159 c || (c == 12644)

-- U+200B to U+200F, U+2028 to U+202E, U+2060 to U+206F, U+FE00 to U+FE0F, U+FEFF, U+FFA0, U+FFF0 to U+FFFB
abbrev pub is_hidden_format : ℕ → Bool
is_hidden_format c =
    is_within 8203 8207 c || is_within 8232 8238 c || is_within 8288 8303 c || is_within 65024 65039 c || (c == 65279) || (c == 65440)
    || is_within 65520 65531 c

-- U+1BCA0 to U+1BCA3, U+1D173 to U+1D17A, U+E0000 to U+E0FFF
abbrev pub is_hidden_above : ℕ → Bool
is_hidden_above c = is_within 113824 113827 c || is_within 119155 119162 c || is_within 917504 921599 c

-- one that is Default_Ignorable_Code_Point or Bidi_Control in the Unicode Character Database, or the end of a line or paragraph
-- (U+2028, U+2029), or a mark of interlinear annotation (U+FFF9 to U+FFFB)
abbrev pub is_hidden : ℕ → Bool
is_hidden c = is_hidden_mark c || is_hidden_format c || is_hidden_above c

-- U+FFFD, the replacement character, in place of each of these
abbrev pub harmless : ℕ → ℕ
harmless c = if is_control c || is_hidden c then 65533 else c

-- a text of another machine as it may be printed, in UTF-8
unfoldable pub harmless_text : List ℕ → List ℕ
harmless_text text = encode_utf8_all (map harmless text)

-- ---- the cells of an agent

-- text in ASCII
abbrev pub word_cell : List ℕ → Cell
word_cell word = record { text = word; width = length word }

abbrev pub text_cell : List ℕ → Cell
text_cell text = record { text = harmless_text text; width = length text }

-- what an agent left out
abbrev pub text_or_dash : List ℕ → Cell
text_or_dash [] = word_cell (codes "-")
text_or_dash (c ∷ rest) = text_cell (c ∷ rest)

-- the name that it registered with, or else its id
abbrev pub name_by : List ℕ → ℕ → Cell
name_by [] agent = word_cell (id_text agent)
name_by (c ∷ rest) agent = text_cell (c ∷ rest)

abbrev pub class_cell : List ℕ → Bool → Cell
class_cell class true = word_cell (class ++ codes " (stale)")
class_cell class false = word_cell class

-- when the last job ended, as the agent says it
abbrev pub ended_cell : Option ReportMessage → Cell
ended_cell None = word_cell (codes "-")
ended_cell (Some message) = text_or_dash message.end

-- how many resources are not in the desired state
abbrev pub count_cell : Option ReportMessage → Cell
count_cell None = word_cell (codes "-")
count_cell (Some message) = word_cell (decimal (count_of message.errors message.status_data))

-- the id of a further resource
abbrev pub further_id : List ℕ → List ℕ
further_id error = codes ", " ++ id_in error

-- the ids of the resources that a report names
abbrev pub ids_cell : List (List ℕ) → Cell
ids_cell [] = word_cell (codes "-")
ids_cell (error ∷ errors) = text_cell (id_in error ++ flat_map further_id errors)

abbrev pub unmet_cell : Option ReportMessage → Cell
unmet_cell None = word_cell (codes "-")
unmet_cell (Some message) = ids_cell message.errors

abbrev pub cells_of : Row → List ℕ → Bool → Option ReportMessage → Cells
cells_of row class stale message = record {
  name = name_by row.registration.node_name row.agent;
  class = class_cell class stale;
  ended = ended_cell message;
  count = count_cell message;
  unmet = unmet_cell message;
}

abbrev pub head_cells : Cells
head_cells = record {
  name = word_cell (codes "MACHINE");
  class = word_cell (codes "CLASS");
  ended = word_cell (codes "ENDED");
  count = word_cell (codes "COUNT");
  unmet = word_cell (codes "NOT IN THE DESIRED STATE");
}

-- ---- the table

abbrev pub no_widths : Widths
no_widths = record { name = 0; class = 0; ended = 0; count = 0 }

-- wide enough for these cells too
abbrev pub wider : Widths → Cells → Widths
wider widths cells = record {
  name = max widths.name cells.name.width;
  class = max widths.class cells.class.width;
  ended = max widths.ended cells.ended.width;
  count = max widths.count cells.count.width;
}

-- those of the widest cells
abbrev pub widths_of : List Cells → Widths
widths_of rows = fold wider no_widths rows

-- a cell, and blanks up to the next column, two at least
unfoldable pub padded : ℕ → Cell → List ℕ
padded width cell = cell.text ++ replicate (width - cell.width) 32 ++ codes "  "

unfoldable pub row_text : Widths → Cells → List ℕ
row_text widths cells =
    padded widths.name cells.name ++ padded widths.class cells.class ++ padded widths.ended cells.ended ++ padded widths.count cells.count
    ++ cells.unmet.text ++ codes "\n"

-- a line for each row
abbrev pub table_text : List Cells → List ℕ
table_text rows = flat_map (row_text (widths_of rows)) rows
