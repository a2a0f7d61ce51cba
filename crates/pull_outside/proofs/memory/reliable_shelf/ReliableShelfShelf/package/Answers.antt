use Rattle.pull_outside.proofs.Fitting.{package_fits}
use Rattle.pull_outside.proofs.memory.reliable_shelf.ReliableShelfShelf.package.Goals as goal

pub give-requires : goal.give-requires
give-requires c = rw (c.package_named-item.ensures, c.deref.ensures.value) (package_fits _ _ _ c.self.invariant.1)
