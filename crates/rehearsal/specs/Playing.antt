-- What the steps of a script come to, one after the other.
use Rattle.std.specs.Prelude.{◌≡◌, ℕ, ◌+◌, List, [], ◌∷◌, ◌++◌, Option, Some, None, false}
use Rattle.std.specs.List.{flat_map}
use Rattle.dsc_outside.specs.Host.{HostState}
use Rattle.memory_outside.specs.MemoryDisk.{DiskInMemory, held_by}
use Rattle.memory_outside.specs.MemoryHost.{shown_of}
use Rattle.memory_outside.specs.ReliableDisk.{fresh_disk}
use Rattle.memory_outside.specs.ReliableHost.{shown_by, unfailing}
use Rattle.memory_outside.specs.StoppedDisk.{DiskToStop, is_stopped, left_of}
use Rattle.memory_outside.specs.StoppedHost.{HostToStop}
use Rattle.memory_outside.specs.declared.contents.HostContents.{HostContents}
use Rattle.memory_outside.specs.declared.disk_calls.DiskPart.{DiskPart}
use Rattle.memory_outside.specs.declared.disk_calls.DiskPart.TheVariants as parts
use Rattle.memory_outside.specs.declared.shared_stop.Turn.TheVariants as turns
use Rattle.memory_outside.specs.declared.stop.Done.{Done}
use Rattle.memory_outside.specs.declared.stop.Done.TheVariants as dones
use Rattle.mof_values.specs.Fold.{fold_case}
use Rattle.pull_outside.specs.ReliableShelf.{with_configuration, with_key}
use Rattle.pull_serving.specs.ServerLink.{Becomes}
use Rattle.resource_kinds.specs.Kinds.{calls_of, host_of}
use Rattle.rehearsal.specs.Objects.{Does, Objects, disk_ghosts, shelf_ghosts}
use Rattle.rehearsal.specs.Rows.{IsRow, ending_of, row_line}
use Rattle.rehearsal.specs.World.{HasLasted, IsFirst, World, after_start, link_to, with_shelf, with_wish}
use Rattle.rehearsal.specs.declared.row.Ending.TheVariants.{Named}
use Rattle.rehearsal.specs.declared.row.StartRow.{StartRow}
use Rattle.rehearsal.specs.declared.server.Server.{Server}
use Rattle.rehearsal.specs.declared.starter.Starter as starters
use Rattle.rehearsal.specs.declared.step.Step.{Step}
use Rattle.rehearsal.specs.declared.step.Step.TheVariants.{Shelf, Key, Wants, Start}
use Rattle.rehearsal.specs.declared.step.StopAt.{StopAt}
use Rattle.rehearsal.specs.declared.step.StopPart.{StopPart}
use Rattle.rehearsal.specs.declared.step.StopPart.TheVariants.{Old, New, Filled}

-- ---- the parts that a stop leaves

-- of what was written since the last sync: the old bytes, the new ones, or the byte 0x57 in each place
abbrev pub disk_part : StopPart → DiskPart
disk_part Old = parts.Nothing
disk_part New = parts.Whole
disk_part Filled = parts.Filled 87

-- of a change of the machine: nothing, all of it, or the first half of a file that is put, and all of any other
abbrev pub host_part : StopPart → Done
host_part Old = dones.Nothing
host_part New = dones.All
host_part Filled = dones.Half

-- ---- what a start begins with

-- a machine that holds what the world's does
abbrev pub Holds : HostState → HostContents → Type 0
Holds state contents = shown_by contents ≡ state

-- the same, with a stop to come that leaves this part of a change
abbrev pub HoldsToStop : HostState → StopPart → HostToStop → Type 0
HoldsToStop state part host =
    (contents : HostContents) × Holds state contents × (host ≡ record { host = unfailing contents; done = host_part part; turn = turns.Before })

abbrev pub disk_to_stop : List ℕ → DiskToStop
disk_to_stop image = record { disk = fresh_disk image; turn = turns.Before }

-- without a text the input is empty
abbrev pub input_of : Option (List ℕ) → List ℕ
input_of None = []
input_of (Some text) = text

-- a start begins with its text as the input, its disk, its machine, of which nothing was asked yet, the link to the server, and its number as the moment
pub record Begins {D H : Type 0} (text : List ℕ) (fresh : D) (IsHost : H → Type 0) (server : Server) (number : ℕ) (objects : Objects D H) : Type 0 where
  pub input : objects.input ≡ text
  pub disk : objects.disk ≡ fresh
  pub host : IsHost (host_of objects.machine)
  pub unasked : calls_of objects.machine ≡ []
  pub link : objects.link ≡ link_to server
  pub clock : objects.clock ≡ number

-- it begins so, the program does with its words what it does, and the server answers it
pub record Runs {D H : Type 0} (does : Does D H) (words : List (List ℕ)) (text : List ℕ) (fresh : D) (IsHost : H → Type 0) (server : Server) (number : ℕ)
    (before after : Objects D H) (name : List ℕ) : Type 0 where
  pub begins : Begins text fresh IsHost server number before
  pub done : does words before after name
  pub becomes : Becomes disk_ghosts shelf_ghosts before.link after.link

-- ---- starts

-- A start without a stop: it runs over the world as it is, no disk ran out of memory, and what the objects hold then is the next world.
pub record Ends {S : Type 0} (program : starters.Ghosts S) (words : List (List ℕ)) (input : List ℕ) (world : World) (row : StartRow) (next : World) : Type 0 where
  pub before : Objects DiskInMemory HostContents
  pub after : Objects DiskInMemory HostContents
  pub name : List ℕ
  pub runs : Runs program.does words input (fresh_disk world.image) (Holds world.host) world.server (world.starts + 1) before after name
  pub disk : HasLasted after.disk
  pub server : HasLasted after.link.disk
  pub leaves : next ≡ after_start (held_by after.disk) (shown_by (host_of after.machine)) after.link world
  pub tells : IsRow (Named name) next row

-- no call of the disk or of the machine failed
pub record HasUnfailed (disk : DiskToStop) (host : HostToStop) : Type 0 where
  pub of_disk : disk.disk.count.faults ≡ 0
  pub of_host : host.host.calls.faults ≡ 0

-- A start with a stop: the same over objects that stop, and what the stop leaves is the next world. The row says Stopped exactly where the stop reached a
-- call; elsewhere no call failed.
pub record EndsOrStops {S : Type 0} (program : starters.Ghosts S) (part : StopPart) (words : List (List ℕ)) (input : List ℕ) (world : World) (row : StartRow) (next : World) : Type 0 where
  pub before : Objects DiskToStop HostToStop
  pub after : Objects DiskToStop HostToStop
  pub name : List ℕ
  pub runs : Runs program.does_to_stop words input (disk_to_stop world.image) (HoldsToStop world.host part) world.server (world.starts + 1) before after name
  pub disk : after.disk.disk.short ≡ false
  pub host : (host_of after.machine).host.short ≡ false
  pub unstopped : is_stopped after.disk (host_of after.machine) ≡ false → HasUnfailed after.disk (host_of after.machine)
  pub server : HasLasted after.link.disk
  pub leaves : next ≡ after_start (left_of after.disk (host_of after.machine) (disk_part part)) (shown_of (host_of after.machine).host) after.link world
  pub tells : IsRow (ending_of (is_stopped after.disk (host_of after.machine)) name) next row

abbrev pub Starts : {S : Type 0} → starters.Ghosts S → Option StopAt → List (List ℕ) → List ℕ → World → StartRow → World → Type 0
Starts program None words input world row next = Ends program words input world row next
Starts program (Some stop) words input world row next = EndsOrStops program stop.part words input world row next

-- ---- steps

-- what a step makes of the world, and the rows that it gives: a row for each kind of step
abbrev pub TakesStep : {S : Type 0} → starters.Ghosts S → Step → World → List StartRow → World → Type 0
TakesStep program (Shelf configuration content) world rows next = (rows ≡ []) × (next ≡ with_shelf (with_configuration configuration content) world)
TakesStep program (Key key) world rows next = (rows ≡ []) × (next ≡ with_shelf (with_key key) world)
TakesStep program (Wants id) world rows next = (rows ≡ []) × (next ≡ with_wish (fold_case id) world)
TakesStep program (Start words input stop) world rows next = (row : StartRow) × (rows ≡ row ∷ []) × Starts program stop words (input_of input) world row next

-- one step after the other, each in the world that the one before it left
abbrev pub Plays : {S : Type 0} → starters.Ghosts S → World → List Step → List StartRow → World → Type 0
Plays program world [] rows last = (rows ≡ []) × (last ≡ world)
Plays program world (step ∷ steps) rows last =
    (own more : List StartRow) × (next : World) × (rows ≡ own ++ more) × TakesStep program step world own next × Plays program next steps more last

-- one step, and the lines of its rows after those before
abbrev pub StepLeads : {S : Type 0} → starters.Ghosts S → Step → World → List ℕ → World → List ℕ → Type 0
StepLeads program step world text next text_after =
    (rows : List StartRow) × TakesStep program step world rows next × (text_after ≡ text ++ flat_map row_line rows)

-- the text is the lines of these steps, from that world on
pub record IsPlayedFrom {S : Type 0} (program : starters.Ghosts S) (first : World) (steps : List Step) (text : List ℕ) : Type 0 where
  pub last : World
  pub rows : List StartRow
  pub plays : Plays program first steps rows last
  pub is : text ≡ flat_map row_line rows

-- it is that from the first world on
pub record IsPlayed {S : Type 0} (program : starters.Ghosts S) (steps : List Step) (text : List ℕ) : Type 0 where
  pub first : World
  pub begins : IsFirst first
  pub from : IsPlayedFrom program first steps text
