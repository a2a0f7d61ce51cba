-- How many agents there are of each class.
use Rattle.std.specs.Prelude.{ℕ, ◌+◌, List, [], ◌∷◌, ◌++◌, map, codes}
use Rattle.std.specs.Fmt.{decimal}
use Rattle.pull_store.specs.declared.row.Row.{Row}
use Rattle.agent_class.specs.declared.class.Class.{Class}
use Rattle.agent_class.specs.declared.class.Class.TheVariants.{Silent, Compliant, Failed, Other}
use Rattle.fleet_view.specs.declared.counts.Counts.{Counts}
use Rattle.agent_class.specs.Classes.{class_of_row}

abbrev pub none_counted : Counts
none_counted = record { compliant = 0; failed = 0; other = 0; silent = 0 }

-- one agent of that class more
abbrev pub one_more : Class → Counts → Counts
one_more Silent counts = record counts { silent = counts.silent + 1 }
one_more Compliant counts = record counts { compliant = counts.compliant + 1 }
one_more Failed counts = record counts { failed = counts.failed + 1 }
one_more Other counts = record counts { other = counts.other + 1 }

-- how often each class stands in a list
abbrev pub counts_of : List Class → Counts
counts_of [] = none_counted
counts_of (class ∷ classes) = one_more class (counts_of classes)

-- the numbers of rows of each class
abbrev pub fleet_of : List Row → Counts
fleet_of rows = counts_of (map class_of_row rows)

-- the summary of that many agents, as JSON
unfoldable pub summary_text : ℕ → Counts → List ℕ
summary_text agents counts =
    codes "{\"Agents\":" ++ decimal agents ++ codes ",\"Compliant\":" ++ decimal counts.compliant ++ codes ",\"Failed\":" ++ decimal counts.failed
    ++ codes ",\"Other\":" ++ decimal counts.other ++ codes ",\"Silent\":" ++ decimal counts.silent ++ codes "}"
