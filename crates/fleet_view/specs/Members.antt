-- What a fleet remembers of each agent; for private clauses.
use Rattle.std.specs.Prelude.{ℕ, suc, ◌==◌, if◌then◌else◌, List, [], ◌∷◌, map}
use Rattle.pull_store.specs.declared.row.Row.{Row}
use Rattle.agent_class.specs.declared.class.Class.{Class}
use Rattle.agent_class.specs.declared.class.Class.TheVariants.{Silent, Compliant, Failed, Other}
use Rattle.fleet_view.specs.declared.counts.Counts.{Counts}
use Rattle.fleet_view.specs.declared.member.Member.{Member}
use Rattle.agent_class.specs.Classes.{class_of_row}

abbrev pub member_of : Row → Member
member_of row = record { agent = row.agent; class = class_of_row row }

-- the agents of rows with their classes
abbrev pub members_of : List Row → List Member
members_of rows = map member_of rows

abbrev pub class_in : Member → Class
class_in member = member.class

abbrev pub classes_in : List Member → List Class
classes_in members = map class_in members

-- what contracts see of a fleet: its members, and for how many it has memory
pub record FleetTerm : Type 0 where
  pub members : List Member
  pub capacity : ℕ

-- the agent is of that class: in its place, or at the end where it is new
abbrev pub with_class : ℕ → Class → List Member → List Member
with_class agent class [] = record { agent = agent; class = class } ∷ []
with_class agent class (member ∷ members) =
    if member.agent == agent then record { agent = agent; class = class } ∷ members else member ∷ with_class agent class members

-- the place of an agent, or the number of members
abbrev pub place_of : ℕ → List Member → ℕ
place_of agent [] = 0
place_of agent (member ∷ members) = if member.agent == agent then 0 else suc (place_of agent members)

-- how many agents are of that class
abbrev pub number_in : Class → Counts → ℕ
number_in Silent counts = counts.silent
number_in Compliant counts = counts.compliant
number_in Failed counts = counts.failed
number_in Other counts = counts.other
