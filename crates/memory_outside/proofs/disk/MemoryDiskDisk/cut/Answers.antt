use Rattle.std.proofs.Common.{refl}
use Rattle.memory_outside.specs.Memory.{course_of}
use Rattle.memory_outside.specs.MemoryDisk.{outcome_of}
use Rattle.memory_outside.specs.declared.disk_calls.DiskCall.TheVariants as calls
use Rattle.memory_outside.proofs.DiskCalls.{cut_is_done, cut_is_torn, time_passes}
use Rattle.memory_outside.proofs.disk.MemoryDiskDisk.cut.Goals as goal

pub returns-clause-cut : goal.returns-clause-cut
returns-clause-cut c = cut_is_done (outcome_of (course_of c.args.self.now.count)) c.args.to c.args.self.now c.take_call.result c.take_call.new.self (c.take_call.ensures.exact (calls.Cut c.args.to) refl)

pub returns-clause-crash : goal.returns-clause-crash
returns-clause-crash c = cut_is_torn (outcome_of (course_of c.args.self.now.count)) c.args.to c.args.self.now _ _ (c.take_call.ensures.exact (calls.Cut c.args.to) refl)

pub returns-clause-time : goal.returns-clause-time
returns-clause-time c = time_passes (outcome_of (course_of c.args.self.now.count)) (calls.Cut c.args.to) c.args.self.now _ _ (c.take_call.ensures.exact (calls.Cut c.args.to) refl)
