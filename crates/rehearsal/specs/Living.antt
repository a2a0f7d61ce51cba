-- The objects that hold a world between two starts, and what a run makes of them.
use Rattle.std.specs.Prelude.{◌≡◌, ℕ, List}
use Rattle.gate_log.specs.Standing.{AllStand, Any}
use Rattle.memory_outside.specs.MemoryDisk.{held_by}
use Rattle.memory_outside.specs.ReliableDisk.{fresh_disk}
use Rattle.memory_outside.specs.ReliableHost.{shown_by}
use Rattle.dsc_outside.specs.Host.{HostState}
use Rattle.node_store.specs.Stands.{Stands}
use Rattle.pull_store.specs.Store.{IsReady}
use Rattle.rehearsal.specs.Objects.{Does, Link, Objects, disk_ghosts}
use Rattle.rehearsal.specs.Playing.{Runs}
use Rattle.resource_kinds.specs.Kinds.{host_of}
use Rattle.rehearsal.specs.World.{World}
use Rattle.rehearsal.specs.declared.server.Server.{Server}
use Rattle.rehearsal.specs.declared.world.LiveWorld.{LiveWorld}

abbrev pub world_of : LiveWorld → World
world_of live = record { image = held_by live.disk; host = shown_by live.host; server = live.server; starts = live.starts }

-- the store is of the disk, or spent
abbrev pub IsReadyServer : Server → Type 0
IsReadyServer server = IsReady disk_ghosts server.disk server.store

-- no call was made of the disk, each image that a crash may leave of it stands for a node, and the server is ready
pub record IsBetween (live : LiveWorld) : Type 0 where
  pub fresh : live.disk ≡ fresh_disk (held_by live.disk)
  pub stands : AllStand disk_ghosts live.disk Stands Any
  pub ready : IsReadyServer live.server

-- the program ran once over these objects, and left these
pub record HasRun {D H : Type 0} (does : Does D H) (words : List (List ℕ)) (text : List ℕ) (first : D) (machine : H) (server : Server) (number : ℕ)
    (name : List ℕ) (disk : D) (host : H) (link : Link) : Type 0 where
  pub before : Objects D H
  pub after : Objects D H
  pub runs : Runs does words text first (λ h. h ≡ machine) server number before after name
  pub disk_is : disk ≡ after.disk
  pub host_is : host ≡ host_of after.machine
  pub link_is : link ≡ after.link

-- what is left of this image, this machine and this link
abbrev pub left_world : List ℕ → HostState → Link → ℕ → World
left_world image host link number = record {
  image = image;
  host = host;
  server = record { store = link.store; disk = link.disk; shelf = link.shelf };
  starts = number;
}
