use Rattle.std.proofs.Common.{refl}
use Rattle.memory_outside.specs.Memory.{course_of}
use Rattle.memory_outside.specs.MemoryDisk.{outcome_of}
use Rattle.memory_outside.proofs.DiskCalls.{look_is_within, look_keeps, time_passes}
use Rattle.memory_outside.proofs.disk.MemoryDisk.look.Goals as goal

pub returns-clause-shown : goal.returns-clause-shown
returns-clause-shown c = look_keeps (outcome_of (course_of c.args.self.now.count)) c.args.call c.args.self.now _ _ c.requires (c.take_call.ensures.exact c.args.call refl)

pub returns-clause-crash : goal.returns-clause-crash
returns-clause-crash c = look_is_within (outcome_of (course_of c.args.self.now.count)) c.args.call c.args.self.now _ _ c.requires (c.take_call.ensures.exact c.args.call refl)

pub returns-clause-time : goal.returns-clause-time
returns-clause-time c = time_passes (outcome_of (course_of c.args.self.now.count)) c.args.call c.args.self.now _ _ (c.take_call.ensures.exact c.args.call refl)
