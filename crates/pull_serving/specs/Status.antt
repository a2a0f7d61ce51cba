-- How a run of the server ends, and the number with which its program ends.
use Rattle.std.specs.Prelude.{ℕ}
use Rattle.pull_store.specs.declared.error.PullError.{PullError}
use Rattle.pull_store.specs.declared.error.PullError.TheVariants as errors
use Rattle.pull_serving.specs.declared.status.ServeStatus.{ServeStatus}
use Rattle.pull_serving.specs.declared.status.ServeStatus.TheVariants as statuses

abbrev pub number_of : ServeStatus → ℕ
number_of statuses.Done = 0
number_of statuses.Usage = 2
number_of (statuses.NotAStore at) = 5
number_of statuses.DiskFault = 4
number_of statuses.DoorFault = 4
number_of statuses.WriteFault = 4
number_of statuses.Memory = 8

-- how a store that does not open ends the run
abbrev pub status_of : PullError → ServeStatus
status_of errors.Disk = statuses.DiskFault
status_of (errors.NotAStore at) = statuses.NotAStore at
status_of errors.Memory = statuses.Memory
status_of errors.Spent = statuses.DiskFault
status_of errors.Agents = statuses.DiskFault
status_of errors.NoAgent = statuses.DiskFault
status_of (errors.Full need capacity) = statuses.DiskFault
