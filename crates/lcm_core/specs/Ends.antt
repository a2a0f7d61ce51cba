-- How a run ends.
use Rattle.std.specs.Prelude.{◌≡◌, ◌⊎◌, List, []}
use Rattle.lcm_core.specs.declared.modes.RunMode.{RunMode}
use Rattle.lcm_core.specs.declared.modes.RunMode.TheVariants.{Repair}
use Rattle.lcm_core.specs.declared.modes.RunEnd.{RunEnd}
use Rattle.lcm_core.specs.declared.modes.RunEnd.TheVariants as ends
use Rattle.resource_kinds.specs.declared.entry.SetAnswer.TheVariants as sets
use Rattle.resource_kinds.specs.declared.entry.Entry.{Entry}
use Rattle.resource_kinds.specs.declared.entry.Entry.TheVariants.{Set}
use Rattle.resource_kinds.specs.Trace.{EndsInMemory, EndsWith}
use Rattle.lcm_core.specs.Legal.{GoesOn}

-- no memory was left to begin with; a run that only monitors takes none of its own
pub record IsUnbegun (mode : RunMode) (end : RunEnd) (trace : List Entry) : Type 0 where
  pub repairs : mode ≡ Repair
  pub ended : end ≡ ends.Memory
  pub nothing : trace ≡ []

-- the run came to its last resource, or its last entry is the one that ended it
abbrev pub IsEnd : RunMode → RunEnd → List Entry → Type 0
IsEnd mode ends.Finished trace = GoesOn trace
IsEnd mode (ends.RebootAsked r) trace = EndsWith trace (Set r sets.Reboot)
IsEnd mode ends.Memory trace = EndsInMemory trace ⊎ IsUnbegun mode ends.Memory trace
