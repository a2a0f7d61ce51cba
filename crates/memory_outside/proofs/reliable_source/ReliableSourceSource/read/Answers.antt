use Rattle.memory_outside.proofs.Meeting.{no_cause, unfailing_after, unfailing_ok}
use Rattle.memory_outside.proofs.reliable_source.ReliableSourceSource.read.Goals as goal

pub invariant_of-self : goal.invariant_of-self
invariant_of-self c = unfailing_after _ _ c.self.invariant c.read.ensures.count

pub returns-clause-ok : goal.returns-clause-ok
returns-clause-ok c = unfailing_ok _ _ c.self.invariant c.read.ensures.fails

pub returns-clause-cause : goal.returns-clause-cause
returns-clause-cause c = no_cause _ (unfailing_ok _ _ c.self.invariant c.read.ensures.fails)
