-- Targets of the fleet: the path of a report that is kept, by its agent and its job, and that of the summary.
use Rattle.std.specs.Prelude.{ℕ, List, [], ◌∷◌, codes}
use Rattle.pull_messages.specs.declared.target_kinds.FleetTarget.{FleetTarget}
use Rattle.pull_messages.specs.declared.target_kinds.FleetTarget.TheVariants.{Report, Summary}
use Rattle.pull_messages.specs.Escapes.{AreChars}
use Rattle.pull_messages.specs.Spelling.{Spells}
use Rattle.pull_messages.specs.Targets.{Part, IsPart, agent, agent_parts, word}

abbrev pub fleet_parts : FleetTarget → List Part
fleet_parts (Report id job) = agent_parts id (word (codes "')/Reports(JobId='") ∷ agent job ∷ word (codes "')") ∷ [])
fleet_parts Summary = word (codes "/PSDSCPullServer.svc/Fleet") ∷ []

abbrev pub SpellsFleetTarget : FleetTarget → List ℕ → Type 0
SpellsFleetTarget target chars = Spells IsPart (fleet_parts target) chars

-- the text is the target's characters, any of their bytes escaped
unfoldable pub IsFleetTarget : List ℕ → FleetTarget → Type 0
IsFleetTarget text target = (chars : List ℕ) × AreChars chars text × SpellsFleetTarget target chars
