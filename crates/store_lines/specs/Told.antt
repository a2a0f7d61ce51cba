-- What is printed of a store, and what is an alarm.
use Rattle.std.specs.Prelude.{ℕ, Bool, true, false, not, nat_le, if◌then◌else◌, List, [], ◌∷◌, ◌++◌, length, codes, Option, Some, None}
use Rattle.std.specs.List.{flat_map, list_any}
use Rattle.std.specs.Fmt.{decimal}
use Rattle.pull_messages.specs.declared.report.ReportMessage.{ReportMessage}
use Rattle.pull_store.specs.declared.limits.TheConstants.{MAX_ROWS}
use Rattle.pull_store.specs.declared.row.Row.{Row}
use Rattle.agent_class.specs.declared.class.Class.{Class}
use Rattle.agent_class.specs.declared.class.Class.TheVariants.{Silent, Compliant, Failed, Other}
use Rattle.agent_class.specs.Classes.{class_of_row}
use Rattle.agent_class.specs.LastMessage.{last_message}
use Rattle.agent_line.specs.Lines.{json_text, line_of}
use Rattle.agent_line.specs.Moments.{moment_in}
use Rattle.store_lines.specs.declared.seen.Seen.{Seen}

-- ---- stale

-- the moment is this one or later
abbrev pub is_since : ℕ → Option ℕ → Bool
is_since since None = false
is_since since (Some moment) = nat_le since moment

-- a report says that it ended then or later
abbrev pub is_recent : ℕ → Option ReportMessage → Bool
is_recent since None = false
is_recent since (Some message) = is_since since (moment_in message.end)

-- a moment is given, and the last report does not say that it ended then or later
abbrev pub is_stale : Option ℕ → Option ReportMessage → Bool
is_stale None message = false
is_stale (Some since) message = not (is_recent since message)

-- ---- an agent

unfoldable pub seen_of : Option ℕ → Row → Seen
seen_of since row = record { class = class_of_row row; message = last_message row; stale = is_stale since (last_message row) }

-- a machine that failed or is silent is an alarm, and any that is stale
abbrev pub is_alarm_by : Class → Bool → Bool
is_alarm_by Failed stale = true
is_alarm_by Silent stale = true
is_alarm_by Compliant stale = stale
is_alarm_by Other stale = stale

unfoldable pub is_alarm_seen : Seen → Bool
is_alarm_seen seen = is_alarm_by seen.class seen.stale

abbrev pub is_alarm : Option ℕ → Row → Bool
is_alarm since row = is_alarm_seen (seen_of since row)

-- ---- the text

abbrev pub class_word : Class → List ℕ
class_word Compliant = codes "Compliant"
class_word Failed = codes "Failed"
class_word Silent = codes "Silent"
class_word Other = codes "Other"

abbrev pub same_class : Class → Class → Bool
same_class Compliant Compliant = true
same_class Failed Failed = true
same_class Silent Silent = true
same_class Other Other = true
same_class _ _ = false

-- it is one of these classes, or none is given
abbrev pub is_shown : List Class → Class → Bool
is_shown [] class = true
is_shown (first ∷ rest) class = list_any (same_class class) (first ∷ rest)

-- the line of an agent, where its class is shown
unfoldable pub seen_line : List Class → List ℕ → Row → Seen → List ℕ
seen_line classes store row seen =
    if is_shown classes seen.class then line_of store row (class_word seen.class) seen.stale seen.message else []

abbrev pub agent_text : List Class → Option ℕ → List ℕ → Row → List ℕ
agent_text classes since store row = seen_line classes store row (seen_of since row)

abbrev pub lines_of : List Class → Option ℕ → List ℕ → List Row → List ℕ
lines_of classes since store rows = flat_map (agent_text classes since store) rows

-- how many places of a store are taken
unfoldable pub last_line : List ℕ → ℕ → List ℕ
last_line store agents = codes "{\"store\":" ++ json_text store ++ codes ",\"agents\":" ++ decimal agents ++ codes ",\"places\":" ++ decimal MAX_ROWS ++ codes "}\n"

-- a line for each agent whose class is shown, in the order in which they were first registered, and one of the store
abbrev pub store_text : List Class → Option ℕ → List ℕ → List Row → List ℕ
store_text classes since store rows = lines_of classes since store rows ++ last_line store (length rows)
