-- A whole start.
use Rattle.std.specs.Prelude.{◌≡◌, ℕ, ◌≤◌, List, [], Option}
use Rattle.gate_log.specs.Standing.{AllStand, Any, ReadsAs, StandsAtAnyMoment, StoodFor}
use Rattle.partial_merge.specs.declared.error.MergeError.{MergeError}
use Rattle.node_state.specs.declared.node.Node.{Node}
use Rattle.node_state.specs.Sound.{Sound}
use Rattle.node_store.specs.declared.error.StoreError.{StoreError}
use Rattle.node_store.specs.Stands.{Stands}
use Rattle.node_store.specs.Store.{Unopened}
use Rattle.dsc_outside.specs.Link.{LinkView}
use Rattle.dsc_node.specs.declared.command.Command.{Command}
use Rattle.dsc_node.specs.declared.plan.Plan.{Plan}
use Rattle.dsc_node.specs.declared.status.Status.{Status}
use Rattle.dsc_node.specs.Commands.{IsPlanOf, IsUnmerged}
use Rattle.dsc_node.specs.Path.{Ended, disk_counts}
use Rattle.dsc_node.specs.Runs.{Run}
use Rattle.dsc_node.specs.Endings.{Ends, status_of, status_of_input}
use Rattle.dsc_node.specs.Work.{Beside, Known, LeavesEntries, StartTable}

-- the objects that a start works with, and what its link shows
pub record Outside (D S C : Type 0) : Type 0 where
  pub disk : D
  pub beside : Beside S C

abbrev pub outside : {D S C : Type 0} → D → S → LinkView → C → Outside D S C
outside disk machine link clock = record { disk = disk; beside = record { machine = machine; link = link; clock = clock } }

-- The start of an opened store: the node that the disk read as, the machine before the run, the run, if there was one, and the work, by the
-- table.
pub record Opened {D S C : Type 0} (o : Known D S C) (command : Command) (before after : Outside D S C) (status : Status) (lines : List ℕ) : Type 0 where
  pub plan : Plan
  pub is_plan : IsPlanOf command plan
  pub from : Node
  pub ready : S
  pub run : Option Run
  pub reads : ReadsAs o.disk before.disk Stands from
  pub sound : Sound from
  pub leaves : LeavesEntries o before.beside.machine ready
  pub ended : Ended o.disk before.disk after.disk from
      (StartTable o plan from (disk_counts o.disk before.disk after.disk) [] from before.beside after.beside status lines ready run)

-- a start: its document was refused, or, where it was not, its store was not opened, or it was
pub data Start {D S C : Type 0} (o : Known D S C) (command : Command) (before after : Outside D S C) (status : Status) (lines : List ℕ) : Type 0 where
  refused : (error : MergeError) → IsUnmerged command error → after ≡ before
      → Ends (status_of_input error) [] status lines → Start o command before after status lines
  unopened : (plan : Plan) (error : StoreError) → IsPlanOf command plan → o.disk.faults before.disk ≤ o.disk.faults after.disk
      → Unopened o.disk before.disk after.disk error → after.beside ≡ before.beside
      → (AllStand o.disk before.disk Stands Any → StandsAtAnyMoment o.disk before.disk after.disk Stands (StoodFor o.disk before.disk Stands))
      → Ends (status_of error) [] status lines → Start o command before after status lines
  opened : Opened o command before after status lines → Start o command before after status lines
