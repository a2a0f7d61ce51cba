use Rattle.std.proofs.Common.{sym, ◌∙◌}
use Rattle.memory_outside.proofs.reliable_disk.ReliableDisk.short.Goals as goal

pub returns-clause-lasted : goal.returns-clause-lasted
returns-clause-lasted c = rw (← c.self.view_is) (λ long. c.self.invariant.lasted (sym c.short.ensures ∙ long))
