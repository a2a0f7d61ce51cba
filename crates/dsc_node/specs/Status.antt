-- The exit statuses, and the names of how the program ends.
use Rattle.std.specs.Prelude.{ℕ, List, true, false, codes}
use Rattle.dsc_node.specs.declared.status.Status.{Status}
use Rattle.dsc_node.specs.declared.status.Status.TheVariants.{Done, NotCompliant, Usage, InputRefused, ReadFault, WriteFault, DiskFault, ClockFault, LinkFault, HostFault, NotAStore, PeerRefused, NotAllowed, RebootWaiting, RebootAsked, Memory}

abbrev pub number_of : Status → ℕ
number_of Done = 0
number_of (NotCompliant count) = 1
number_of (Usage word) = 2
number_of (InputRefused error) = 3
number_of ReadFault = 4
number_of WriteFault = 4
number_of DiskFault = 4
number_of ClockFault = 4
number_of LinkFault = 4
number_of HostFault = 4
number_of (NotAStore at) = 5
number_of (PeerRefused fault) = 6
number_of (NotAllowed why) = 7
number_of Memory = 8
number_of RebootWaiting = 9
number_of (RebootAsked index false) = 10
number_of (RebootAsked index true) = 11

-- the name of a status, without its values
abbrev pub name_of : Status → List ℕ
name_of Done = codes "Done"
name_of (NotCompliant count) = codes "NotCompliant"
name_of (Usage word) = codes "Usage"
name_of (InputRefused error) = codes "InputRefused"
name_of ReadFault = codes "ReadFault"
name_of WriteFault = codes "WriteFault"
name_of DiskFault = codes "DiskFault"
name_of ClockFault = codes "ClockFault"
name_of LinkFault = codes "LinkFault"
name_of HostFault = codes "HostFault"
name_of (NotAStore at) = codes "NotAStore"
name_of (PeerRefused fault) = codes "PeerRefused"
name_of (NotAllowed why) = codes "NotAllowed"
name_of RebootWaiting = codes "RebootWaiting"
name_of (RebootAsked index now) = codes "RebootAsked"
name_of Memory = codes "Memory"
