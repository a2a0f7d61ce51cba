use Rattle.std.proofs.Common.{map}
use Rattle.resource_kinds.specs.EntrySets.{IsSetOf}
use Rattle.resource_kinds.proofs.entry_sets.EntrySet.of.Given as goal

-- the set holds the entries so far
abbrev pub invariant-loop-entry : goal.invariant-loop-entry
invariant-loop-entry l = IsSetOf l.set (map (λ e. e.now) l.yielded)
