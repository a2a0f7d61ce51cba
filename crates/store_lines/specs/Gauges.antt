-- The gauges of stores, in the text format 0.0.4 of Prometheus.
use Rattle.std.specs.Prelude.{ℕ, ◌-◌, ◌==◌, Bool, true, false, if◌then◌else◌, List, [], ◌∷◌, ◌++◌, length, map, codes, count_by, encode_utf8_all, Option, Some, None}
use Rattle.std.specs.List.{flat_map, list_any}
use Rattle.std.specs.Fmt.{decimal}
use Rattle.pull_store.specs.declared.limits.TheConstants.{MAX_ROWS}
use Rattle.pull_store.specs.declared.row.Row.{Row}
use Rattle.agent_class.specs.declared.class.Class.{Class}
use Rattle.agent_class.specs.declared.class.Class.TheVariants.{Silent, Compliant, Failed, Other}
use Rattle.agent_class.specs.Classes.{class_of_row}
use Rattle.agent_class.specs.LastMessage.{last_message}
use Rattle.store_lines.specs.declared.gauges.Gauge.{Gauge}
use Rattle.store_lines.specs.declared.gauges.Gauge.TheVariants.{Agents, Stale, Taken, Free, Read}
use Rattle.store_lines.specs.declared.standing.Standing.{Standing}
use Rattle.store_lines.specs.declared.standing.StoreStandings.{StoreStandings}
use Rattle.store_lines.specs.Told.{class_word, is_alarm_by, is_shown, is_stale, same_class}

-- ---- what is counted

abbrev pub standing_of : Option ℕ → Row → Standing
standing_of since row = record { class = class_of_row row; stale = is_stale since (last_message row) }

abbrev pub standings_of : Option ℕ → List Row → List Standing
standings_of since rows = map (standing_of since) rows

abbrev pub is_alarm_of : Standing → Bool
is_alarm_of standing = is_alarm_by standing.class standing.stale

-- some agent failed, is silent or is stale
abbrev pub has_alarm : List Standing → Bool
has_alarm standings = list_any is_alarm_of standings

abbrev pub is_of : Class → Standing → Bool
is_of class standing = same_class class standing.class

abbrev pub is_stale_one : Standing → Bool
is_stale_one standing = standing.stale

-- the value of a gauge of a store that was read
abbrev pub number_of : Gauge → List Standing → ℕ
number_of (Agents class) standings = count_by (is_of class) standings
number_of Stale standings = count_by is_stale_one standings
number_of Taken standings = length standings
number_of Free standings = MAX_ROWS - length standings
number_of Read standings = 1

-- of a store that was not read it is known that it was not
abbrev pub unread_value : Gauge → Option ℕ
unread_value Read = Some 0
unread_value _ = None

abbrev pub value_of : Gauge → Option (List Standing) → Option ℕ
value_of gauge (Some standings) = Some (number_of gauge standings)
value_of gauge None = unread_value gauge

-- ---- the text

abbrev pub gauge_name : Gauge → List ℕ
gauge_name (Agents class) = codes "nimchout_fleet_agents"
gauge_name Stale = codes "nimchout_fleet_stale_agents"
gauge_name Taken = codes "nimchout_fleet_places_taken"
gauge_name Free = codes "nimchout_fleet_places_free"
gauge_name Read = codes "nimchout_fleet_store_read"

abbrev pub help_of : Gauge → List ℕ
help_of (Agents class) = codes "Agents of a store by the class of their last report."
help_of Stale = codes "Agents of a store whose last report does not say that it ended within the hours given."
help_of Taken = codes "Agents that a store has."
help_of Free = codes "Further agents that a store takes."
help_of Read = codes "1 where the store was read, 0 where it was not."

unfoldable pub family_head : Gauge → List ℕ
family_head gauge =
    codes "# HELP " ++ gauge_name gauge ++ codes " " ++ help_of gauge ++ codes "\n# TYPE " ++ gauge_name gauge ++ codes " gauge\n"

-- a character of a label's value: the backslash (92), the quote (34) and the line feed (10) are written with a backslash
abbrev pub escaped : ℕ → List ℕ
escaped c = if c == 92 then codes "\\\\" else if c == 34 then codes "\\\"" else if c == 10 then codes "\\n" else c ∷ []

unfoldable pub label_value : List ℕ → List ℕ
label_value text = encode_utf8_all (flat_map escaped text)

-- the label that a gauge has beside the store
abbrev pub class_label : Gauge → List ℕ
class_label (Agents class) = codes ",class=\"" ++ class_word class ++ codes "\""
class_label Stale = []
class_label Taken = []
class_label Free = []
class_label Read = []

unfoldable pub sample : Gauge → List ℕ → ℕ → List ℕ
sample gauge store value =
    gauge_name gauge ++ codes "{store=\"" ++ label_value store ++ codes "\"" ++ class_label gauge ++ codes "} " ++ decimal value ++ codes "\n"

abbrev pub sample_where : Gauge → List ℕ → Option ℕ → List ℕ
sample_where gauge store None = []
sample_where gauge store (Some value) = sample gauge store value

abbrev pub sample_of : Gauge → StoreStandings → List ℕ
sample_of gauge store = sample_where gauge store.path (value_of gauge store.standings)

-- a gauge of each store
abbrev pub samples : Gauge → List StoreStandings → List ℕ
samples gauge stores = flat_map (sample_of gauge) stores

-- that of a class, where it is shown
abbrev pub class_samples : List Class → Class → List StoreStandings → List ℕ
class_samples classes class stores = if is_shown classes class then samples (Agents class) stores else []

unfoldable pub agents_family : List Class → List StoreStandings → List ℕ
agents_family classes stores =
    family_head (Agents Compliant) ++ class_samples classes Compliant stores ++ class_samples classes Failed stores
    ++ class_samples classes Silent stores ++ class_samples classes Other stores

unfoldable pub family : Gauge → List StoreStandings → List ℕ
family gauge stores = family_head gauge ++ samples gauge stores

-- where it is asked how old reports are
abbrev pub stale_family : Bool → List StoreStandings → List ℕ
stale_family true stores = family Stale stores
stale_family false stores = []

unfoldable pub gauges_text : List Class → Bool → List StoreStandings → List ℕ
gauges_text classes is_asked stores =
    agents_family classes stores ++ stale_family is_asked stores ++ family Taken stores ++ family Free stores ++ family Read stores
