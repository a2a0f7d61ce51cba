use Rattle.memory_outside.specs.Memory.{course_of}
use Rattle.memory_outside.specs.MemoryDisk.{outcome_of}
use Rattle.memory_outside.specs.declared.disk_calls.DiskCall.TheVariants as calls
use Rattle.memory_outside.proofs.DiskCalls.{time_passes, write_is_done, write_is_torn}
use Rattle.memory_outside.proofs.disk.MemoryDiskDisk.write_at.Goals as goal

pub returns-clause-written : goal.returns-clause-written
returns-clause-written c = write_is_done (outcome_of (course_of c.args.self.now.count)) c.args.at c.args.bytes.now c.args.self.now c.take_call.result c.take_call.new.self (c.take_call.ensures.exact (calls.WriteAt c.args.at c.args.bytes.now) c.copy_of-asked.ensures)

pub returns-clause-crash : goal.returns-clause-crash
returns-clause-crash c = write_is_torn (outcome_of (course_of c.args.self.now.count)) c.args.at c.args.bytes.now c.args.self.now _ _ c.requires (c.take_call.ensures.exact (calls.WriteAt c.args.at c.args.bytes.now) c.copy_of-asked.ensures)

pub returns-clause-time : goal.returns-clause-time
returns-clause-time c = time_passes (outcome_of (course_of c.args.self.now.count)) (calls.WriteAt c.args.at c.args.bytes.now) c.args.self.now _ _ (c.take_call.ensures.exact (calls.WriteAt c.args.at c.args.bytes.now) c.copy_of-asked.ensures)
