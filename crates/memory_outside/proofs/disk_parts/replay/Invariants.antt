use Rattle.std.proofs.Common.{◌≡◌, take}
use Rattle.dsc_outside.specs.Images.{DiskState}
use Rattle.memory_outside.specs.MemoryDisk.{state_after}
use Rattle.memory_outside.proofs.disk_parts.replay.Given as goal

abbrev pub invariant-loop-recorded : goal.invariant-loop-recorded
invariant-loop-recorded l = (state : DiskState) → state.held ≡ l.fn.bytes.items → l.bytes.items ≡ (state_after (take l.recorded-index l.calls) state).held
