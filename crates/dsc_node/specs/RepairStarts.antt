-- Starts that repair what is Pending, over any machine: which they are, and how they leave the node.
use Rattle.std.specs.Prelude.{◌≡◌, ◌+◌, ◌-◌, ◌^◌, ◌<◌, true, false, List, Some, None, ⊤}
use Rattle.gate_log.specs.Standing.{ReadsAs}
use Rattle.partial_merge.specs.declared.part.Part.{Part}
use Rattle.node_state.specs.declared.node.Node.{Node}
use Rattle.node_store.specs.Stands.{Stands}
use Rattle.dsc_node.specs.declared.command.Command.{Command}
use Rattle.dsc_node.specs.declared.command.Command.TheVariants as commands
use Rattle.dsc_node.specs.Starts.{OneStart}
use Rattle.dsc_node.specs.Work.{Known}

-- ---- nodes

-- the two commands that repair what is Pending: a boot, and, where no reboot is waited for, a consistency
abbrev pub Repairs : Node → Command → Type 0
Repairs node commands.Boot = ⊤
Repairs node commands.Consistency = node.reboot ≡ false
Repairs node _ = ⊥

-- Pending is Current, and nothing is Pending
pub record IsPromotedTo (parts : List Part) (node : Node) : Type 0 where
  pub current : node.current ≡ Some parts
  pub pending : node.pending ≡ None

-- the node waits for a boot, with the same Pending and meta-configuration, and the next number for a report
pub record WaitsForBoot (before node : Node) : Type 0 where
  pub marked : node.reboot ≡ true
  pub pending : node.pending ≡ before.pending
  pub meta : node.meta ≡ before.meta
  pub job : node.next_job ≡ before.next_job + 1

-- ---- starts

module _ {D S C : Type 0} (o : Known D S C) where
  -- the start is one of these of the node that its disk reads as
  abbrev pub IsRepair : OneStart o → Type 0
  IsRepair one = (node : Node) → ReadsAs o.disk one.before.disk Stands node → Repairs node one.command

  -- that node has a number for its next report
  abbrev pub HasNumber : OneStart o → Type 0
  HasNumber one = (node : Node) → ReadsAs o.disk one.before.disk Stands node → node.next_job < 2 ^ 64 - 1
