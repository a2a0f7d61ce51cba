use Rattle.std.proofs.Common.{◌≡◌, ◌++◌, drop, map}
use Rattle.resource_kinds.specs.Entries.{each_once}
use Rattle.resource_kinds.specs.EntrySets.{IsSetOf}
use Rattle.resource_kinds.proofs.EntryLists.{to_come}
use Rattle.resource_kinds.proofs.entries.each_once.Given as goal

-- those so far, which the set holds, and those of the rest that did not come yet
abbrev pub invariant-loop-entry : goal.invariant-loop-entry
invariant-loop-entry l =
    (each_once (map (λ e. e.now) l.entries)
    ≡ map (λ e. e.now) l.once.items ++ to_come (map (λ e. e.now) l.once.items) (map (λ e. e.now) (drop l.entry-index l.entries)))
    × IsSetOf l.seen (map (λ e. e.now) l.once.items)
