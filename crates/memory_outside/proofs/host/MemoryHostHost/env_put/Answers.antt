use Rattle.std.proofs.Common.{refl}
use Rattle.std.proofs.lemmas.Bool.{both_ways}
use Rattle.memory_outside.proofs.Bounds.{variable_put, variable_stays}
use Rattle.memory_outside.proofs.Tried.{changed_whole, cause_by, does_by, fails_by, on_err, on_ok}
use Rattle.memory_outside.proofs.host.MemoryHostHost.env_put.Goals as goal

pub returns-clause-exact : goal.returns-clause-exact
returns-clause-exact c = rw (← c.self.view_is, ← c.begin_change-course.ensures.course) (changed_whole _ _ _ _ c.put_value-tried.result c.settled.result
    (λ fails. both_ways _ c.if-eq.false (rw fails at c.eq.ensures))
    (on_ok c.put_value-tried.result (λ e. rw (rw (c.as_bytes.ensures.value) at e) refl) c.put_value-tried.ensures.ok)
    (on_err c.put_value-tried.result (λ e. rw e refl) c.put_value-tried.ensures.err)
    c.settled.ensures)

pub returns-clause-fails : goal.returns-clause-fails
returns-clause-fails c = fails_by c.args.self.now.calls _ _ _ _ _ (returns-clause-exact c)

pub returns-clause-change : goal.returns-clause-change
returns-clause-change c = does_by _ _ _ _ _ (variable_stays _ _) (variable_put _ _ _) (variable_put _ _ _) _ _ (returns-clause-exact c)

pub returns-clause-cause : goal.returns-clause-cause
returns-clause-cause c = cause_by c.args.self.now.calls _ _ _ _ _ c.args.self.now.calls.faults c.begin_change-course.new.self.faults (returns-clause-exact c)
    (rw (← c.self.view_is) c.begin_change-course.ensures.later) (rw (← c.self.view_is, ← c.begin_change-course.ensures.course) c.begin_change-course.ensures.cause)
