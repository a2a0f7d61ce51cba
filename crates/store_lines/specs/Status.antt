-- The number with which the program ends.
use Rattle.std.specs.Prelude.{ℕ, nat_lt, if◌then◌else◌}
use Rattle.pull_store.specs.declared.error.PullError.{PullError}
use Rattle.pull_store.specs.declared.error.PullError.TheVariants as errors
use Rattle.store_lines.specs.declared.status.FleetStatus.{FleetStatus}
use Rattle.store_lines.specs.declared.status.FleetStatus.TheVariants.{Healthy, Alarm, Usage, UnknownAgent, Fault, NotAStore, Running, Memory}

abbrev pub number_of : FleetStatus → ℕ
number_of Healthy = 0
number_of Alarm = 1
number_of Usage = 2
number_of UnknownAgent = 3
number_of Fault = 4
number_of NotAStore = 5
number_of Running = 6
number_of Memory = 8

-- the greater number wins
abbrev pub worse : FleetStatus → FleetStatus → FleetStatus
worse one other = if nat_lt (number_of one) (number_of other) then other else one

abbrev pub status_of : PullError → FleetStatus
status_of (errors.NotAStore at) = NotAStore
status_of errors.Memory = Memory
status_of errors.Disk = Fault
status_of errors.Spent = Fault
status_of errors.Agents = Fault
status_of errors.NoAgent = Fault
status_of (errors.Full need capacity) = Fault
