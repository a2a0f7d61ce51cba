-- The objects that a start of a node works with in a rehearsal, and what a start makes of them.
use Rattle.std.specs.Prelude.{ℕ, List}
use Rattle.dsc_outside.specs.declared.disk.Disk as disks
use Rattle.memory_outside.specs.MemoryDisk.{DiskInMemory}
use Rattle.memory_outside.specs.contracts.reliable_disk.ReliableDiskDisk.TheImpl as reliable_disks
use Rattle.memory_outside.specs.StoppedDisk.{DiskToStop}
use Rattle.memory_outside.specs.contracts.stopped_disk.StoppedDiskDisk.TheImpl as stopped_disks
use Rattle.pull_outside.specs.Shelf.{Contents}
use Rattle.pull_outside.specs.contracts.memory.reliable_shelf.ReliableShelfShelf.TheImpl as reliable_shelves
use Rattle.pull_outside.specs.declared.shelf.Shelf as shelves
use Rattle.pull_serving.specs.ServerLink.{ServerInMemory}
use Rattle.resource_kinds.specs.declared.kinds.Kinds.{Kinds}

-- what the disks and the shelf in memory show
abbrev pub disk_ghosts : disks.Ghosts DiskInMemory
disk_ghosts = reliable_disks.ghosts

abbrev pub stopped_ghosts : disks.Ghosts DiskToStop
stopped_ghosts = stopped_disks.ghosts

abbrev pub shelf_ghosts : shelves.Ghosts Contents
shelf_ghosts = reliable_shelves.ghosts

-- a link to a pull server in memory, with its exchanges so far
abbrev pub Link : Type 0
Link = ServerInMemory DiskInMemory Contents

-- the bytes that are left of the input, a disk, a machine, the link to the server, and the moment that the clock gives
pub record Objects (D H : Type 0) : Type 0 where
  pub input : List ℕ
  pub disk : D
  pub machine : Kinds H
  pub link : Link
  pub clock : ℕ

abbrev pub objects : {D H : Type 0} → List ℕ → D → Kinds H → Link → ℕ → Objects D H
objects input disk machine link clock = record { input = input; disk = disk; machine = machine; link = link; clock = clock }

-- what a start with these words makes of its objects, and the name of the status that it ends with
abbrev pub Does : Type 0 → Type 0 → Type 1
Does D H = (words : List (List ℕ)) → (before after : Objects D H) → (name : List ℕ) → Type 0
