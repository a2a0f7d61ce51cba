-- What a script plays in: a node and its server between two starts.
use Rattle.std.specs.Prelude.{◌≡◌, ℕ, ◌+◌, List, [], ◌∷◌, ◌++◌, false}
use Rattle.dsc_outside.specs.Host.{HostState, empty_host}
use Rattle.memory_outside.specs.MemoryDisk.{DiskInMemory}
use Rattle.pull_outside.specs.ReliableShelf.{empty_shelf}
use Rattle.pull_outside.specs.Shelf.{Contents}
use Rattle.pull_store.specs.Store.{IsKept}
use Rattle.rehearsal.specs.Objects.{Link, disk_ghosts}
use Rattle.rehearsal.specs.declared.server.Server.{Server}

pub record World : Type 0 where
  -- what the node's disk holds, all of it synced
  pub image : List ℕ
  -- what its machine holds
  pub host : HostState
  pub server : Server
  -- how many starts there were
  pub starts : ℕ

-- the disk did not run out of memory, and no call of it failed
pub record HasLasted (disk : DiskInMemory) : Type 0 where
  pub whole : disk.short ≡ false
  pub unfailed : disk.count.faults ≡ 0

-- its store is of its disk, which has lasted, it knows no agent, and nothing is on its shelf
pub record IsNewServer (server : Server) : Type 0 where
  pub rows : server.store.rows ≡ []
  pub kept : IsKept disk_ghosts server.disk server.store
  pub disk : HasLasted server.disk
  pub shelf : server.shelf ≡ empty_shelf

-- before the first start: a node that nothing has happened to, a machine that holds nothing, and a new server
pub record IsFirst (world : World) : Type 0 where
  pub image : world.image ≡ []
  pub host : world.host ≡ empty_host
  pub server : IsNewServer world.server
  pub starts : world.starts ≡ 0

-- the server's shelf is changed
abbrev pub with_shelf : (Contents → Contents) → World → World
with_shelf change world = record world { server = record world.server { shelf = change world.server.shelf } }

-- the resource of that folded id wants a reboot too
abbrev pub with_wish : List ℕ → World → World
with_wish id world = record world { host = record world.host { wanting = world.host.wanting ++ id ∷ [] } }

-- the link to the server, before its first exchange
abbrev pub link_to : Server → Link
link_to server = record { store = server.store; disk = server.disk; shelf = server.shelf; exchanges = [] }

-- after one more start, which left this image, this machine and this link: the shelf is as it was
abbrev pub after_start : List ℕ → HostState → Link → World → World
after_start image host link world = record {
  image = image;
  host = host;
  server = record { store = link.store; disk = link.disk; shelf = world.server.shelf };
  starts = world.starts + 1;
}
