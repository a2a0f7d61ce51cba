use Rattle.std.proofs.Common.{ℕ, ◌<◌}
use Rattle.resource_kinds.specs.Apart.{wanted_at}
use Rattle.resource_kinds.specs.Subjects.{AsksMeeting, subject_matter}
use Rattle.resource_kinds.proofs.overlap.meets_earlier.Given as goal

-- none of the resources so far meets it
abbrev pub invariant-loop-first : goal.invariant-loop-first
invariant-loop-first l = (k : ℕ) → k < l.first → AsksMeeting (wanted_at l.document k) (subject_matter l.subject) → ⊥
