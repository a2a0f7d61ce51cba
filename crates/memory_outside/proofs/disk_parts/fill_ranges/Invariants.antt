use Rattle.std.proofs.Common.{◌≡◌, ◌≤◌, length, take}
use Rattle.dsc_outside.specs.Images.{DiskState}
use Rattle.memory_outside.specs.MemoryDisk.{filled, state_after}
use Rattle.memory_outside.proofs.disk_parts.fill_ranges.Given as goal

abbrev pub invariant-loop-end : goal.invariant-loop-end
invariant-loop-end l = record { within : l.end ≤ length l.calls; same : (state : DiskState) → filled l.byte (state_after (take l.end l.calls) state).ranges l.bytes ≡ filled l.byte (state_after l.calls state).ranges l.fn.bytes }

abbrev pub decreases-loop-end : goal.decreases-loop-end
decreases-loop-end l = l.end
