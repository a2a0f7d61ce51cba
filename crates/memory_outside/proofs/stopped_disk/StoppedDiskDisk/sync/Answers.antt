use Rattle.memory_outside.specs.declared.disk_calls.DiskCall.TheVariants as calls
use Rattle.memory_outside.proofs.Meeting.{disk_alone, disk_goes, met_passes}
use Rattle.memory_outside.proofs.stopped_disk.StoppedDiskDisk.sync.Goals as goal

pub invariant_of-self : goal.invariant_of-self
invariant_of-self c = disk_alone _ _ _ _ c.self.invariant c.meet_call.ensures.order c.meet_call.ensures.met calls.Sync _ _ c.sync.ensures.exact

pub returns-clause-exact : goal.returns-clause-exact
returns-clause-exact c = rw (← c.self.view_is) (record {
  order = c.meet_call.ensures.order;
  goes = disk_goes _ _ _ _ c.self.invariant c.meet_call.ensures.order c.meet_call.ensures.met calls.Sync _ _ c.sync.ensures.exact;
})

pub returns-clause-time : goal.returns-clause-time
returns-clause-time c = rw (← c.self.view_is) (met_passes c.meet_call.new.stop c.self.inside.disk c.meet_call.new.disk c.sync.new.self c.meet_call.ensures.met c.sync.ensures.time)
