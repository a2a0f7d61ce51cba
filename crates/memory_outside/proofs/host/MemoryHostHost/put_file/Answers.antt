use Rattle.std.proofs.Common.{refl}
use Rattle.std.proofs.lemmas.Bool.{both_ways}
use Rattle.memory_outside.proofs.Bounds.{path_put, path_stays}
use Rattle.memory_outside.proofs.Tried.{changed_file, cause_by, does_by, fails_by, on_err, on_ok}
use Rattle.memory_outside.proofs.host.MemoryHostHost.put_file.Goals as goal

pub returns-clause-exact : goal.returns-clause-exact
returns-clause-exact c = rw (← c.self.view_is, ← c.begin_change-course.ensures.course) (changed_file _ c.args.path.now c.args.bytes.now _ _ c.put_file-tried.result c.settled.result
    (λ fails. both_ways _ c.if-eq.false (rw fails at c.eq.ensures))
    (on_ok c.put_file-tried.result (λ e. rw (rw (c.as_bytes.ensures.value, c.part_done-part.ensures) at e) refl) c.put_file-tried.ensures.ok)
    (on_err c.put_file-tried.result (λ e. rw e refl) c.put_file-tried.ensures.err)
    c.settled.ensures)

pub returns-clause-fails : goal.returns-clause-fails
returns-clause-fails c = fails_by c.args.self.now.calls _ _ _ _ _ (returns-clause-exact c)

pub returns-clause-change : goal.returns-clause-change
returns-clause-change c = does_by _ _ _ _ _ (path_stays _ _) (path_put _ _ _) (path_put _ _ _) _ _ (returns-clause-exact c)

pub returns-clause-cause : goal.returns-clause-cause
returns-clause-cause c = cause_by c.args.self.now.calls _ _ _ _ _ c.args.self.now.calls.faults c.begin_change-course.new.self.faults (returns-clause-exact c)
    (rw (← c.self.view_is) c.begin_change-course.ensures.later) (rw (← c.self.view_is, ← c.begin_change-course.ensures.course) c.begin_change-course.ensures.cause)
