-- Why a node was not registered, or a pull brought nothing.
use Rattle.std.specs.Prelude.{Result, Ok, Err}
use Rattle.dsc_outside.specs.declared.host.HostError.{HostError}
use Rattle.dsc_outside.specs.declared.host.HostError.TheVariants as hosts
use Rattle.node_state.specs.declared.error.StageError.{StageError}
use Rattle.node_state.specs.declared.error.StageError.TheVariants as staging
use Rattle.pull_client.specs.declared.error.PeerError.{PeerError}
use Rattle.pull_client.specs.declared.error.PeerError.TheVariants as peers
use Rattle.node_pull.specs.declared.error.PeerFault.TheVariants.{Answer, Document, Fit, ListTooLong}
use Rattle.node_pull.specs.declared.error.PullFault.{PullFault}
use Rattle.node_pull.specs.declared.error.PullFault.TheVariants.{Link, Host, Refused, Memory}

-- of a request that gave nothing
abbrev pub error_of : PeerError → PullFault
error_of peers.Link = Link
error_of peers.Memory = Memory
error_of error = Refused (Answer error)

-- of parts that are not staged
abbrev pub staging_error : StageError → PullFault
staging_error (staging.Merge error) = Refused (Document error)
staging_error (staging.Fit error) = Refused (Fit error)
staging_error (staging.TooLong bytes) = Refused (ListTooLong bytes)
staging_error staging.Memory = Memory

-- of a call on the machine's packages that gave nothing
abbrev pub host_error : HostError → PullFault
host_error hosts.Failed = Host
host_error hosts.Memory = Memory

-- an answer of the server, with its error as that of the pull
abbrev pub told_as : {T : Type 0} → Result T PeerError → Result T PullFault
told_as (Ok value) = Ok value
told_as (Err error) = Err (error_of error)
