use Rattle.std.proofs.Common.{sym, ◌∙◌}
use Rattle.memory_outside.proofs.Meeting.{not_come}
use Rattle.memory_outside.proofs.stopped_host.StoppedHost.stopped.Goals as goal

pub returns-clause-unfailed : goal.returns-clause-unfailed
returns-clause-unfailed c = rw (← c.self.view_is) (λ stays. (c.self.invariant (not_come _ (sym c.has_come.ensures ∙ stays))).unfailed)
