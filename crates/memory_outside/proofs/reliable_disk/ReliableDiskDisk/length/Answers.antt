use Rattle.memory_outside.specs.declared.disk_calls.DiskCall.TheVariants as calls
use Rattle.memory_outside.proofs.Meeting.{reliable_after, reliable_goes}
use Rattle.memory_outside.proofs.reliable_disk.ReliableDiskDisk.length.Goals as goal

pub invariant_of-self : goal.invariant_of-self
invariant_of-self c = reliable_after calls.Length c.self.inside.disk _ _ c.self.invariant (reliable_goes calls.Length c.self.inside.disk _ _ c.self.invariant c.length.ensures.exact)

pub returns-clause-exact : goal.returns-clause-exact
returns-clause-exact c = rw (← c.self.view_is) (reliable_goes calls.Length c.self.inside.disk _ _ c.self.invariant c.length.ensures.exact)
