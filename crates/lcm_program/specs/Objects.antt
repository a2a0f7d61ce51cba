-- The objects that a command works with.
use Rattle.std.specs.Prelude.{◌≡◌}
use Rattle.dsc_outside.specs.declared.ends.Ends as ends
use Rattle.dsc_outside.specs.declared.disk.Disk as disks
use Rattle.dsc_outside.specs.declared.link.Link as links
use Rattle.dsc_outside.specs.declared.clock.Clock as clocks
use Rattle.resource_kinds.specs.declared.machine.Machine as machines
use Rattle.resource_kinds.specs.declared.resources.Resources as resources
use Rattle.dsc_node.specs.Work as starts

pub record Objects (S K D M L C : Type 0) : Type 0 where
  pub input : S
  pub output : K
  pub disk : D
  pub machine : M
  pub link : L
  pub clock : C

abbrev pub objects : {S K D M L C : Type 0} → S → K → D → M → L → C → Objects S K D M L C
objects i o d m l c = record { input = i; output = o; disk = d; machine = m; link = l; clock = c }

-- what is known of each of them: the ghost members of its trait, of which a machine has two
pub record Known (S K D M L C : Type 0) : Type 1 where
  pub source : ends.Ghosts S
  pub sink : ends.Ghosts K
  pub outside : starts.Known D M C
  pub link : links.Ghosts L

abbrev pub known : {S K D M L C : Type 0} → ends.Ghosts S → ends.Ghosts K → disks.Ghosts D → resources.Ghosts M → machines.Ghosts M → links.Ghosts L → clocks.Ghosts C → Known S K D M L C
known s k d r m l c = record { source = s; sink = k; outside = starts.known d r m c; link = l }

-- the disk, the link and the clock are as they were
pub record IsOffline {S K D M L C : Type 0} (before after : Objects S K D M L C) : Type 0 where
  pub disk : after.disk ≡ before.disk
  pub link : after.link ≡ before.link
  pub clock : after.clock ≡ before.clock

-- the machine with its trace is too
pub record IsUntouched {S K D M L C : Type 0} (before after : Objects S K D M L C) : Type 0 where
  pub offline : IsOffline before after
  pub machine : after.machine ≡ before.machine
