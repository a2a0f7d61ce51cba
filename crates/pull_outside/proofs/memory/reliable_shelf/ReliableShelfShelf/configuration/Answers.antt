use Rattle.pull_outside.proofs.Fitting.{content_fits}
use Rattle.pull_outside.proofs.memory.reliable_shelf.ReliableShelfShelf.configuration.Goals as goal

pub give-requires : goal.give-requires
give-requires c = rw (c.content_named-item.ensures, c.deref.ensures.value) (content_fits _ _ c.self.invariant.0)
