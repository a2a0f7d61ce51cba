-- Which agents a store is to forget, and what is printed of it.
use Rattle.std.specs.Prelude.{ℕ, ◌==◌, ◌-◌, ◌&&◌, ◌||◌, not, Bool, true, false, nat_lt, List, [], ◌∷◌, ◌++◌, length, map, filter, find, Option, Some, None}
use Rattle.std.specs.List.{flat_map, list_any}
use Rattle.pull_messages.specs.declared.report.ReportMessage.{ReportMessage}
use Rattle.pull_store.specs.declared.row.Row.{Row}
use Rattle.pull_store.specs.declared.row.StoredReport.{StoredReport}
use Rattle.agent_class.specs.LastMessage.{last_message}
use Rattle.agent_line.specs.Lines.{forgotten_line}
use Rattle.agent_line.specs.Moments.{moment_in}
use Rattle.store_lines.specs.declared.choice.Choice.{Choice}
use Rattle.store_lines.specs.Told.{last_line}

-- ---- which agents

-- it is one of these agents
abbrev pub is_among : List ℕ → ℕ → Bool
is_among agents agent = list_any (λ named. named == agent) agents

-- the moment is an earlier one
abbrev pub is_before : ℕ → Option ℕ → Bool
is_before since None = false
is_before since (Some moment) = nat_lt moment since

-- a report says that it ended before
abbrev pub ended_before : ℕ → Option ReportMessage → Bool
ended_before since None = false
ended_before since (Some message) = is_before since (moment_in message.end)

-- a moment is given, and the last report says that it ended before
abbrev pub is_silent_since : Option ℕ → Row → Bool
is_silent_since None row = false
is_silent_since (Some since) row = ended_before since (last_message row)

abbrev pub never_reported : List StoredReport → Bool
never_reported [] = true
never_reported (report ∷ reports) = false

-- the agent is named, its last report ended before the moment, or it never reported, where this is asked
abbrev pub is_chosen : Choice → Option ℕ → Row → Bool
is_chosen choice since row =
    is_among choice.agents row.agent || (choice.never_reported && never_reported row.reports) || is_silent_since since row

abbrev pub chosen_rows : Choice → Option ℕ → List Row → List Row
chosen_rows choice since rows = filter (is_chosen choice since) rows

abbrev pub agent_in : Row → ℕ
agent_in row = row.agent

abbrev pub chosen_agents : Choice → Option ℕ → List Row → List ℕ
chosen_agents choice since rows = map agent_in (chosen_rows choice since rows)

abbrev pub has_row : List Row → ℕ → Bool
has_row rows agent = list_any (λ row. row.agent == agent) rows

abbrev pub has_no_row : List Row → ℕ → Bool
has_no_row rows agent = not (has_row rows agent)

-- the first of these agents that has no row
abbrev pub first_unknown : List Row → List ℕ → Option ℕ
first_unknown rows agents = find (has_no_row rows) agents

-- ---- the text

-- a line for each agent that is forgotten, and how many places are then taken
abbrev pub forgotten_text : List ℕ → Choice → Option ℕ → List Row → List ℕ
forgotten_text store choice since rows =
    flat_map (forgotten_line store) (chosen_rows choice since rows) ++ last_line store (length rows - length (chosen_rows choice since rows))
