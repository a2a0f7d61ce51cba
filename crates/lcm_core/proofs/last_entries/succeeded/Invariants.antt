use Rattle.std.proofs.Common.{◌≡◌, take}
use Rattle.resource_kinds.specs.Trace.{has_succeeded}
use Rattle.lcm_core.proofs.last_entries.succeeded.Given as goal

abbrev pub invariant-loop-entry : goal.invariant-loop-entry
invariant-loop-entry l = l.yes ≡ has_succeeded (take l.entry-index l.calls) l.place
