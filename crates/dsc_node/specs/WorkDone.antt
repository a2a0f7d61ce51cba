-- The work of a start: its events, and the node that is left where all of them are committed, and wherever it is stopped.
use Rattle.std.specs.Prelude.{ℕ, List, []}
use Rattle.dsc_terms.specs.Counts.{Rose}
use Rattle.node_state.specs.declared.event.Event.{Event}
use Rattle.node_state.specs.declared.node.Node.{Node}
use Rattle.node_state.specs.Table.{Steps}
use Rattle.node_store.specs.Stands.{Stands}
use Rattle.dsc_node.specs.declared.command.Command.{Command}
use Rattle.dsc_node.specs.declared.status.Status.{Status}
use Rattle.dsc_node.specs.Commits.{all_of}
use Rattle.dsc_node.specs.Path.{AfterPrefix}
use Rattle.dsc_node.specs.Start.{Outside, Start, opened, refused, unopened}
use Rattle.dsc_node.specs.Starts.{BeginsWhole, Finds, IsExposed, LeavesImage, OneStart}
use Rattle.dsc_node.specs.Work.{Known}

-- the events of the table: those that were committed, and as the last the one, if any, whose commit answered Disk; a start whose document was
-- refused, or whose store was not opened, has none
abbrev pub work_by : {D S C : Type 0} (o : Known D S C) (command : Command) (before after : Outside D S C) (status : Status) (lines : List ℕ)
    → Start o command before after status lines → List Event
work_by o command before after status lines (refused error unmerged same ends) = []
work_by o command before after status lines (unopened plan error is count cause quiet moments ends) = []
work_by o command before after status lines (opened start) = all_of start.ended.committed start.ended.broken

abbrev pub work_of : {D S C : Type 0} (o : Known D S C) → OneStart o → List Event
work_of o one = work_by o one.command one.before one.after one.status one.lines one.start

-- the start finds a node from which all its work leads to this one, or a prefix of it
abbrev pub IsAfterAllWork : {D S C : Type 0} (o : Known D S C) → OneStart o → Node → Type 0
IsAfterAllWork o one node = (from : Node) × Finds o one from × Steps from (work_of o one) node

abbrev pub IsAfterPrefixOfWork : {D S C : Type 0} (o : Known D S C) → OneStart o → Node → Type 0
IsAfterPrefixOfWork o one node = (from : Node) × Finds o one from × AfterPrefix from (work_of o one) node

-- at its end a start in which the disk's count of faults did not rise leaves the node after all its work
abbrev pub StartsDoAllWork : {D S C : Type 0} → Known D S C → Type 0
StartsDoAllWork o =
    (one : OneStart o) → IsExposed o one → BeginsWhole o one → (Rose (o.disk.faults one.before.disk) (o.disk.faults one.after.disk) → ⊥)
    → (image : List ℕ) (node : Node) → o.disk.images one.after.disk image → Stands image node → IsAfterAllWork o one node

-- and any start, at its end and wherever it is stopped, the node after a prefix of it
abbrev pub StartsDoPrefixes : {D S C : Type 0} → Known D S C → Type 0
StartsDoPrefixes o =
    (one : OneStart o) → IsExposed o one → BeginsWhole o one → (image : List ℕ) (node : Node) → LeavesImage o one image → Stands image node → IsAfterPrefixOfWork o one node
