use Rattle.memory_outside.specs.Memory.{course_of}
use Rattle.memory_outside.specs.MemoryDisk.{outcome_of}
use Rattle.memory_outside.proofs.DiskCalls.{sync_is_done}
use Rattle.memory_outside.proofs.disk.MemoryDiskDisk.sync.Goals as goal

pub returns-clause-only : goal.returns-clause-only
returns-clause-only c = sync_is_done (outcome_of (course_of c.args.self.now.count)) c.args.self.now c.look.result c.look.new.self c.look.ensures.exact
