-- Forms of the outside in memory.
use Rattle.std.specs.Prelude.{◌≡◌, ℕ, List, [], ◌++◌, Bool, true, false, ◌==◌, nat_le, ◌||◌, if◌then◌else◌, Option, Some, None, Result, Ok, Err, MatchBool, length}
use Rattle.std.specs.List.{list_any}
use Rattle.dsc_outside.specs.Causes.{one_more}
use Rattle.memory_outside.specs.declared.stop.Course.{Course}
use Rattle.memory_outside.specs.declared.stop.Course.TheVariants as courses
use Rattle.memory_outside.specs.declared.stop.Done.{Done}
use Rattle.memory_outside.specs.declared.stop.Done.TheVariants as parts
use Rattle.memory_outside.specs.declared.stop.Stop.{Stop}

-- how the calls of a form go
pub record CallCount : Type 0 where
  -- how many began, which is the number of the next one
  pub begun : ℕ
  -- the numbers of those that are to fail
  pub failing : List ℕ
  -- from its call on nothing more is done
  pub stop : Option Stop
  -- how many failed
  pub faults : ℕ

-- before the first call
abbrev pub unstarted : List ℕ → Option Stop → CallCount
unstarted failing stop = record { begun = 0; failing = failing; stop = stop; faults = 0 }

abbrev pub uncalled : List ℕ → CallCount
uncalled failing = unstarted failing None

-- the stop has come before the call of that number, or comes in it
abbrev pub is_stopped : Option Stop → ℕ → Bool
is_stopped None number = false
is_stopped (Some stop) number = nat_le stop.call number

-- the next call is one of those that are to fail, or the stop has come
abbrev pub is_to_fail : CallCount → Bool
is_to_fail calls = list_any (λ number. number == calls.begun) calls.failing || is_stopped calls.stop calls.begun

-- no call is to fail
pub record NoneIsToFail (calls : CallCount) : Type 0 where
  pub unlisted : calls.failing ≡ []
  pub unstopped : calls.stop ≡ None

abbrev pub with_fault : CallCount → CallCount
with_fault calls = record calls { faults = one_more calls.faults }

-- after the next call, which failed where it was to fail
abbrev pub counted : CallCount → CallCount
counted calls = record calls { begun = one_more calls.begun; faults = if is_to_fail calls then one_more calls.faults else calls.faults }

-- what the call of that number does although it is stopped
abbrev pub done_at : Option Stop → ℕ → Done
done_at None number = parts.Nothing
done_at (Some stop) number = if stop.call == number then stop.done else parts.Nothing

abbrev pub stopped_course : Done → Course
stopped_course parts.Nothing = courses.Fails
stopped_course parts.Half = courses.StopsHalf
stopped_course parts.All = courses.StopsWhole

-- how the next call goes, where it is a change
abbrev pub course_of : CallCount → Course
course_of calls = if is_to_fail calls then stopped_course (done_at calls.stop calls.begun) else courses.Runs

pub record SourceInMemory : Type 0 where
  -- the bytes that are left to read
  pub left : List ℕ
  pub calls : CallCount

pub record SinkInMemory : Type 0 where
  -- the bytes that were written
  pub held : List ℕ
  -- a call ran out of memory
  pub short : Bool
  pub calls : CallCount

-- a write keeps the whole piece; it fails where it is to fail, or where it runs out of memory, which it then reports
abbrev pub SinkWrites : {E : Type 0} → SinkInMemory → List ℕ → Result ℕ E → SinkInMemory → Type 0
SinkWrites old piece (Ok n) new = (is_to_fail old.calls ≡ false) × (n ≡ length piece) × (new ≡ record { held = old.held ++ piece; short = old.short; calls = counted old.calls })
SinkWrites old piece (Err e) new = MatchBool (is_to_fail old.calls)
    (new ≡ record { held = old.held; short = old.short; calls = counted old.calls })
    (new ≡ record { held = old.held; short = true; calls = with_fault (counted old.calls) })
