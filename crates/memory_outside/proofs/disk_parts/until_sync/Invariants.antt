use Rattle.std.proofs.Common.{◌≡◌, ◌≤◌, length, take}
use Rattle.dsc_outside.specs.Images.{DiskState}
use Rattle.memory_outside.specs.MemoryDisk.{state_after}
use Rattle.memory_outside.proofs.disk_parts.until_sync.Given as goal

abbrev pub invariant-loop-end : goal.invariant-loop-end
invariant-loop-end l = record { within : l.end ≤ length l.calls; same : (state : DiskState) → (state_after (take l.end l.calls) state).synced ≡ (state_after l.calls state).synced }

abbrev pub decreases-loop-end : goal.decreases-loop-end
decreases-loop-end l = l.end
