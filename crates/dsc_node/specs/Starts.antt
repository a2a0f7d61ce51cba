-- Starts of one node in a row: the node that each begins with, and where the parts come from that the last of them leaves.
use Rattle.std.specs.Prelude.{◌≡◌, ◌⊎◌, ℕ, List, [], ◌∷◌, Some, ⊤}
use Rattle.std.specs.List.{AllByRecursion}
use Rattle.gate_log.specs.Standing.{AllStand, Any, ReadsAs, StoodFor}
use Rattle.partial_merge.specs.declared.part.Part.{Part}
use Rattle.node_state.specs.declared.node.Node.{Node}
use Rattle.node_state.specs.Slots.{IsSlot}
use Rattle.node_state.specs.Table.{Steps}
use Rattle.node_store.specs.Stands.{Stands}
use Rattle.dsc_node.specs.declared.command.Command.{Command}
use Rattle.dsc_node.specs.declared.status.Status.{Status}
use Rattle.dsc_node.specs.Commits.{all_of}
use Rattle.dsc_node.specs.Headline.{HasHeadline, IsBrought}
use Rattle.dsc_node.specs.Path.{IsOnTheWay}
use Rattle.dsc_node.specs.Start.{Outside, Start, opened, refused, unopened}
use Rattle.dsc_node.specs.Work.{Known}

-- a start, with what its clauses say of it
pub record OneStart {D S C : Type 0} (o : Known D S C) : Type 0 where
  pub command : Command
  pub before : Outside D S C
  pub after : Outside D S C
  pub status : Status
  pub lines : List ℕ
  pub start : Start o command before after status lines
  pub headline : HasHeadline o command before after status lines

-- ---- the node that a start leaves

-- a node for which an image stood at its beginning, or, where the store was opened, one after a prefix of its steps
abbrev pub MayLeave : {D S C : Type 0} (o : Known D S C) (command : Command) (before after : Outside D S C) (status : Status) (lines : List ℕ)
    → Start o command before after status lines → Node → Type 0
MayLeave o command before after status lines (refused error unmerged same ends) = StoodFor o.disk before.disk Stands
MayLeave o command before after status lines (unopened plan error is count cause quiet moments ends) = StoodFor o.disk before.disk Stands
MayLeave o command before after status lines (opened start) = IsOnTheWay o.disk before.disk start.from (all_of start.ended.committed start.ended.broken)

-- one for which an image stood at its beginning, or, where the store was opened, the one after what was committed, or, where a commit answered
-- Disk, perhaps after that event too
abbrev pub Leaves : {D S C : Type 0} (o : Known D S C) (command : Command) (before after : Outside D S C) (status : Status) (lines : List ℕ)
    → Start o command before after status lines → Node → Type 0
Leaves o command before after status lines (refused error unmerged same ends) = StoodFor o.disk before.disk Stands
Leaves o command before after status lines (unopened plan error is count cause quiet moments ends) = StoodFor o.disk before.disk Stands
Leaves o command before after status lines (opened start) =
    λ node. Steps start.from start.ended.committed node ⊎ Steps start.from (all_of start.ended.committed start.ended.broken) node

-- where the start was stopped at any moment, and where it came to its end
abbrev pub IsLeftAnywhere : {D S C : Type 0} (o : Known D S C) → OneStart o → Node → Type 0
IsLeftAnywhere o one node = MayLeave o one.command one.before one.after one.status one.lines one.start node

abbrev pub IsLeftAtTheEnd : {D S C : Type 0} (o : Known D S C) → OneStart o → Node → Type 0
IsLeftAtTheEnd o one node = Leaves o one.command one.before one.after one.status one.lines one.start node

-- ---- two starts

-- a crash at some moment of the start, or after its end, might leave this image
abbrev pub LeavesImage : {D S C : Type 0} (o : Known D S C) → OneStart o → List ℕ → Type 0
LeavesImage o one image = o.disk.left_since one.after.disk (o.disk.moment one.before.disk) image ⊎ o.disk.images one.after.disk image

-- the next start begins where this one was stopped or ended
abbrev pub GoesBefore : {D S C : Type 0} (o : Known D S C) → OneStart o → OneStart o → Type 0
GoesBefore o one next = (image : List ℕ) → o.disk.images next.before.disk image → LeavesImage o one image

-- the next start begins where this one ended
abbrev pub EndsBefore : {D S C : Type 0} (o : Known D S C) → OneStart o → OneStart o → Type 0
EndsBefore o one next = (image : List ℕ) → o.disk.images next.before.disk image → o.disk.images one.after.disk image

-- each image at its beginning stands for a node
abbrev pub BeginsWhole : {D S C : Type 0} (o : Known D S C) → OneStart o → Type 0
BeginsWhole o one = AllStand o.disk one.before.disk Stands Any

-- the node that is found at its beginning: an image stands for it
abbrev pub Finds : {D S C : Type 0} (o : Known D S C) → OneStart o → Node → Type 0
Finds o one node = StoodFor o.disk one.before.disk Stands node

-- a start finds a node that the start before it may have left, wherever that was stopped
abbrev pub StartsGoOn : {D S C : Type 0} → Known D S C → Type 0
StartsGoOn o = (one next : OneStart o) → BeginsWhole o one → GoesBefore o one next → BeginsWhole o next × ((node : Node) → Finds o next node → IsLeftAnywhere o one node)

-- and where that came to its end, the one that it left then
abbrev pub StartsJoin : {D S C : Type 0} → Known D S C → Type 0
StartsJoin o = (one next : OneStart o) → BeginsWhole o one → EndsBefore o one next → (node : Node) → Finds o next node → IsLeftAtTheEnd o one node

-- what the disk reads as is found
abbrev pub FindsWhatIsRead : {D S C : Type 0} → Known D S C → Type 0
FindsWhatIsRead o = (one : OneStart o) (held : List ℕ) (node : Node) → o.disk.shown one.before.disk ≡ Some held → Stands held node → Finds o one node

-- ---- a list of starts

-- each start goes before the next
abbrev pub AreInARow : {D S C : Type 0} (o : Known D S C) → OneStart o → List (OneStart o) → Type 0
AreInARow o one [] = ⊤
AreInARow o one (next ∷ starts) = GoesBefore o one next × AreInARow o next starts

abbrev pub last_of : {D S C : Type 0} (o : Known D S C) → OneStart o → List (OneStart o) → OneStart o
last_of o one [] = one
last_of o one (next ∷ starts) = last_of o next starts

-- the disk shows what it holds at the beginning
abbrev pub IsExposed : {D S C : Type 0} (o : Known D S C) → OneStart o → Type 0
IsExposed o one = (held : List ℕ) × (o.disk.shown one.before.disk ≡ Some held)

-- the part was in a slot of a node that is found
abbrev pub FindsPart : {D S C : Type 0} (o : Known D S C) → OneStart o → Part → Type 0
FindsPart o one part = (node : Node) × Finds o one node × IsSlot node part

-- the start's input is the part, or its node's server gave the part in it under the digest that was announced; over a link that does not show
-- its exchanges the second says nothing
abbrev pub Brings : {D S C : Type 0} (o : Known D S C) → OneStart o → Part → Type 0
Brings o one part =
    (node : Node) × ReadsAs o.disk one.before.disk Stands node × IsBrought one.command node one.before.beside.link one.after.beside.link part

-- one of the starts does
abbrev pub SomeBrings : {D S C : Type 0} (o : Known D S C) → OneStart o → List (OneStart o) → Part → Type 0
SomeBrings o one [] part = Brings o one part
SomeBrings o one (next ∷ starts) part = Brings o one part ⊎ SomeBrings o next starts part

-- Each part of a node that is left at any moment of the last start, or at its end, was in a slot of a node that the first one found, or one
-- of the starts brought it.
abbrev pub PartsAreBrought : {D S C : Type 0} → Known D S C → Type 0
PartsAreBrought o = (first : OneStart o) (starts : List (OneStart o)) → AllByRecursion (IsExposed o) (first ∷ starts) → BeginsWhole o first → AreInARow o first starts
    → (image : List ℕ) (node : Node) (part : Part) → LeavesImage o (last_of o first starts) image → Stands image node → IsSlot node part
    → FindsPart o first part ⊎ SomeBrings o first starts part
