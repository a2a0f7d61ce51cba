-- Stops that come in a call of several things together.
use Rattle.std.specs.Prelude.{◌≡◌, ℕ, Bool, true, false, ◌==◌, nat_lt, if◌then◌else◌, Some, ⊤}
use Rattle.memory_outside.specs.Memory.{CallCount, stopped_course}
use Rattle.memory_outside.specs.declared.shared_stop.Turn.{Turn}
use Rattle.memory_outside.specs.declared.shared_stop.Turn.TheVariants as turns
use Rattle.memory_outside.specs.declared.stop.Course.{Course}
use Rattle.memory_outside.specs.declared.stop.Course.TheVariants as courses
use Rattle.memory_outside.specs.declared.stop.Done.{Done}
use Rattle.memory_outside.specs.declared.stop.Done.TheVariants as parts

-- the turn of a call of that number
abbrev pub turn_at : ℕ → ℕ → Turn
turn_at number stop = if nat_lt number stop then turns.Before else if number == stop then turns.Within else turns.After

-- the stop has reached the call
abbrev pub has_come : Turn → Bool
has_come turns.Before = false
has_come turns.Within = true
has_come turns.After = true

-- the turn of the next call: a stop comes once, and in one call
abbrev pub Follows : Turn → Turn → Type 0
Follows turns.Before next = ⊤
Follows turns.Within next = next ≡ turns.After
Follows turns.After next = next ≡ turns.After

-- how a change goes, of which the stop leaves that part
abbrev pub course_at : Turn → Done → Course
course_at turns.Before done = courses.Runs
course_at turns.Within done = stopped_course done
course_at turns.After done = courses.Fails

-- the calls of a form as a call of that turn meets them: with a stop in the next one, or long before it
abbrev pub met_at : Turn → Done → CallCount → CallCount
met_at turns.Before done calls = calls
met_at turns.Within done calls = record calls { stop = Some (record { call = calls.begun; done = done }) }
met_at turns.After done calls = record calls { stop = Some (record { call = 0; done = parts.Nothing }) }
