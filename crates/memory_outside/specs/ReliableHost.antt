-- A host in memory none of whose calls fails.
use Rattle.std.specs.Prelude.{[], Option, Some, None, Result}
use Rattle.dsc_outside.specs.Host.{HostState}
use Rattle.memory_outside.specs.MemoryHost.{ChangesBy, HostInMemory, TakesBy, host_with, shown_of}
use Rattle.dsc_outside.specs.declared.host.HostError.{HostError}
use Rattle.memory_outside.specs.declared.contents.HostContents.{HostContents}
use Rattle.memory_outside.specs.declared.stop.Course.TheVariants as courses

-- a host in memory of these contents, none of whose calls is to fail
abbrev pub unfailing : HostContents → HostInMemory
unfailing contents = host_with contents [] None

-- what these contents show
abbrev pub shown_by : HostContents → HostState
shown_by contents = shown_of (unfailing contents)

-- the same, as a clause of every host takes it
abbrev pub exposed_contents : HostContents → Option HostState
exposed_contents contents = Some (shown_by contents)

-- a change that takes memory: done, or there was none, and what is shown stays
abbrev pub Changes : (whole : HostState → HostState) → HostContents → HostContents → Result (Unit {0}) HostError → Type 0
Changes whole old new result = ChangesBy courses.Runs whole whole (unfailing old) (unfailing new) result

-- a change that takes no memory: done
abbrev pub Takes : (whole : HostState → HostState) → HostContents → HostContents → Result (Unit {0}) HostError → Type 0
Takes whole old new result = TakesBy courses.Runs whole (unfailing old) (unfailing new) result
