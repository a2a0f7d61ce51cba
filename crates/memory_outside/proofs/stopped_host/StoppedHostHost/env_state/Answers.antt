use Rattle.std.proofs.Common.{refl, ap, ◌∙◌}
use Rattle.memory_outside.specs.MemoryHost.{HostInMemory}
use Rattle.memory_outside.proofs.Meeting.{host_alone, host_fails}
use Rattle.memory_outside.proofs.stopped_host.StoppedHostHost.env_state.Goals as goal

pub invariant_of-self : goal.invariant_of-self
invariant_of-self c = host_alone _ _ _ _ _ c.self.invariant c.meet_call.ensures.order c.meet_call.ensures.met c.env_state.new.self (ap (λ (h : HostInMemory). h.calls) c.env_state.ensures.looks)

pub returns-clause-fails : goal.returns-clause-fails
returns-clause-fails c = rw (host_fails _ _ _ _ _ c.self.invariant c.meet_call.ensures.order c.meet_call.ensures.met) at c.env_state.ensures.fails

pub returns-clause-looks : goal.returns-clause-looks
returns-clause-looks c = rw (← c.self.view_is) (record {
  meets = record { order = c.meet_call.ensures.order; same = refl };
  short = ap (λ (h : HostInMemory). h.short) c.env_state.ensures.looks ∙ ap (λ (h : HostInMemory). h.short) c.meet_call.ensures.met;
})
