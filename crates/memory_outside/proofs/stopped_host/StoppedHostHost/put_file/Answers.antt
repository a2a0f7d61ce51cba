use Rattle.std.proofs.Common.{refl}
use Rattle.memory_outside.proofs.Meeting.{host_alone, host_change}
use Rattle.memory_outside.proofs.stopped_host.StoppedHostHost.put_file.Goals as goal

pub invariant_of-self : goal.invariant_of-self
invariant_of-self c = host_alone _ _ _ _ _ c.self.invariant c.meet_call.ensures.order c.meet_call.ensures.met c.put_file.new.self c.put_file.ensures.count

pub returns-clause-exact : goal.returns-clause-exact
returns-clause-exact c = rw (← c.self.view_is) (record {
  meets = record { order = c.meet_call.ensures.order; same = refl };
  goes = host_change _ _ _ _ _ c.self.invariant c.meet_call.ensures.order c.meet_call.ensures.met _ _ _ _ c.put_file.ensures.exact;
})
