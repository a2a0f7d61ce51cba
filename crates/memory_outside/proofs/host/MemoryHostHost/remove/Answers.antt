use Rattle.std.proofs.Common.{refl}
use Rattle.std.proofs.lemmas.Bool.{both_ways}
use Rattle.memory_outside.proofs.Bounds.{path_removed, path_stays}
use Rattle.memory_outside.proofs.Tried.{cause_by, does_by, fails_taken, taken, took}
use Rattle.memory_outside.proofs.host.MemoryHostHost.remove.Goals as goal

pub returns-clause-exact : goal.returns-clause-exact
returns-clause-exact c = rw (← c.self.view_is, ← c.begin_change-course.ensures.course) (took _ _ _ _ c.answered.result
    (λ fails. both_ways _ c.if-eq.false (rw fails at c.eq.ensures)) (rw (rw c.as_bytes.ensures.value at c.remove.ensures.removed) refl) refl c.answered.ensures)

pub returns-clause-fails : goal.returns-clause-fails
returns-clause-fails c = fails_taken c.args.self.now.calls _ _ _ _ (returns-clause-exact c)

pub returns-clause-change : goal.returns-clause-change
returns-clause-change c = does_by _ _ _ _ _ (path_stays _ _) (path_removed _ _) (path_removed _ _) _ _ (taken _ _ _ _ _ (returns-clause-exact c))

pub returns-clause-cause : goal.returns-clause-cause
returns-clause-cause c = cause_by c.args.self.now.calls _ _ _ _ _ c.args.self.now.calls.faults c.begin_change-course.new.self.faults (taken _ _ _ _ _ (returns-clause-exact c))
    (rw (← c.self.view_is) c.begin_change-course.ensures.later) (rw (← c.self.view_is, ← c.begin_change-course.ensures.course) c.begin_change-course.ensures.cause)
