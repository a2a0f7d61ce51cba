-- A host in memory that stops in a call of several things together.
use Rattle.std.specs.Prelude.{◌≡◌, Result}
use Rattle.dsc_outside.specs.Host.{HostState}
use Rattle.dsc_outside.specs.declared.host.HostError.{HostError}
use Rattle.memory_outside.specs.Memory.{NoneIsToFail}
use Rattle.memory_outside.specs.MemoryHost.{ChangesBy, HostInMemory, TakesBy}
use Rattle.memory_outside.specs.SharedStop.{Follows, course_at, met_at}
use Rattle.memory_outside.specs.declared.shared_stop.Turn.{Turn}
use Rattle.memory_outside.specs.declared.shared_stop.Turn.TheVariants as turns
use Rattle.memory_outside.specs.declared.stop.Done.{Done}

pub record HostToStop : Type 0 where
  pub host : HostInMemory
  -- the part that the stop leaves of a change that it comes in
  pub done : Done
  -- how its last call lies to the stop
  pub turn : Turn

-- no call is to fail, and none has
pub record IsUnfailed (host : HostInMemory) : Type 0 where
  pub none : NoneIsToFail host.calls
  pub unfailed : host.calls.faults ≡ 0

-- until the stop it is a host none of whose calls fails
abbrev pub StopsAlone : HostInMemory → Turn → Type 0
StopsAlone host turn = turn ≡ turns.Before → IsUnfailed host

-- the host as a call of that turn meets it
abbrev pub met : Turn → Done → HostInMemory → HostInMemory
met turn done host = record host { calls = met_at turn done host.calls }

-- the next call: the stop stays, with its part
pub record Meets (old new : HostToStop) : Type 0 where
  pub order : Follows old.turn new.turn
  pub same : new.done ≡ old.done

-- a look leaves what is reported of memory
pub record MeetsLook (old new : HostToStop) : Type 0 where
  pub meets : Meets old new
  pub short : new.host.short ≡ old.host.short

-- a change that takes memory is done before the stop, or there was none; one that the stop comes in fails, and is done in its part;
-- after the stop each fails, and nothing is done
pub record MeetsPart (whole half : HostState → HostState) (old : HostToStop) (result : Result (Unit {0}) HostError) (new : HostToStop) : Type 0 where
  pub meets : Meets old new
  pub goes : ChangesBy (course_at new.turn old.done) whole half old.host new.host result

-- the same of a change that a stop leaves whole or not at all
abbrev pub MeetsWhole : (whole : HostState → HostState) → HostToStop → Result (Unit {0}) HostError → HostToStop → Type 0
MeetsWhole whole old result new = MeetsPart whole whole old result new

-- the same of a change that takes no memory
pub record MeetsTaking (whole : HostState → HostState) (old : HostToStop) (result : Result (Unit {0}) HostError) (new : HostToStop) : Type 0 where
  pub meets : Meets old new
  pub goes : TakesBy (course_at new.turn old.done) whole old.host new.host result
