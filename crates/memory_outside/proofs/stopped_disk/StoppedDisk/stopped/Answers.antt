use Rattle.std.proofs.Common.{sym, ◌∙◌}
use Rattle.memory_outside.proofs.Meeting.{not_come}
use Rattle.memory_outside.proofs.stopped_disk.StoppedDisk.stopped.Goals as goal

pub returns-clause-lasted : goal.returns-clause-lasted
returns-clause-lasted c = rw (← c.self.view_is) (λ stays. (c.self.invariant (not_come _ (sym c.has_come.ensures ∙ stays))).lasted)
