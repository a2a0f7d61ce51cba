-- Refusals: the statuses that have a line, and the lines.
use Rattle.std.specs.Prelude.{List, ℕ, ◌++◌, Option, Some, None, codes}
use Rattle.std.specs.Fmt.{decimal}
use Rattle.node_state.specs.declared.event.Why.{Why}
use Rattle.node_state.specs.declared.event.Why.TheVariants as whys
use Rattle.dsc_node.specs.declared.status.Status.{Status}
use Rattle.dsc_node.specs.declared.status.Status.TheVariants.{Done, NotCompliant, Usage, InputRefused, ReadFault, WriteFault, DiskFault, ClockFault, LinkFault, HostFault, NotAStore, PeerRefused, NotAllowed, RebootWaiting, RebootAsked, Memory}
use Rattle.lcm_program.specs.InputWords.{error_words}
use Rattle.lcm_program.specs.PeerWords.{peer_words}

abbrev pub why_word : Why → List ℕ
why_word whys.NoAgent = codes "NoAgent"
why_word whys.HasAgent = codes "HasAgent"
why_word whys.Disabled = codes "Disabled"
why_word whys.NotPull = codes "NotPull"
why_word whys.NoServer = codes "NoServer"
why_word whys.NotRegistered = codes "NotRegistered"
why_word whys.NoName = codes "NoName"
why_word whys.PartsDeclared = codes "PartsDeclared"
why_word whys.NoPartial = codes "NoPartial"
why_word whys.PartNotPush = codes "PartNotPush"
why_word whys.NoPrevious = codes "NoPrevious"
why_word whys.NoPending = codes "NoPending"
why_word whys.NoDocument = codes "NoDocument"
why_word whys.NoReboot = codes "NoReboot"
why_word whys.WrongJob = codes "WrongJob"
why_word whys.NoReport = codes "NoReport"

-- the name of the refusal that a status is, and its values; nothing where it is none
abbrev pub reason_of : Status → Option (List ℕ)
reason_of Done = None
reason_of (NotCompliant count) = None
reason_of (Usage word) = Some (codes "Usage " ++ decimal word)
reason_of (InputRefused error) = Some (error_words error)
reason_of ReadFault = Some (codes "ReadFault")
reason_of WriteFault = None
reason_of DiskFault = Some (codes "DiskFault")
reason_of ClockFault = Some (codes "ClockFault")
reason_of LinkFault = Some (codes "LinkFault")
reason_of HostFault = Some (codes "HostFault")
reason_of (NotAStore at) = Some (codes "NotAStore " ++ decimal at)
reason_of (PeerRefused fault) = Some (codes "PeerRefused " ++ peer_words fault)
reason_of (NotAllowed why) = Some (codes "NotAllowed " ++ why_word why)
reason_of RebootWaiting = Some (codes "RebootWaiting")
reason_of (RebootAsked index now) = None
reason_of Memory = None

-- the line of a refusal with this name and these values
abbrev pub line_of : List ℕ → List ℕ
line_of reason = codes "refused " ++ reason ++ codes "\n"
