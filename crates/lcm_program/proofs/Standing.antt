-- Where every image of the disk stands for a node before a command, it does so after it.
use Rattle.std.proofs.Common.{◌≡◌, inl, inr, ℕ, List, Some, None, sym, subst}
use Rattle.gate_log.specs.Standing.{AllStand, Any}
use Rattle.node_store.specs.Stands.{Stands}
use Rattle.dsc_node.specs.declared.command.Command.{Command as StartCommand}
use Rattle.dsc_node.specs.declared.status.Status.{Status}
use Rattle.dsc_node.specs.Start.{Outside}
use Rattle.lcm_program.specs.declared.words.Command.{Command}
use Rattle.lcm_program.specs.declared.words.Command.TheVariants.{Test, Check, Order, Canon, Checksum, Compile, Generate, Init, Meta, Register, Pull, Push, Consistency, Boot, Get, Restore, Remove, Reports}
use Rattle.lcm_program.specs.Did.{Did}
use Rattle.lcm_program.specs.Further.{Further}
use Rattle.lcm_program.specs.Input.{Reading}
use Rattle.lcm_program.specs.Objects.{IsOffline, Known, Objects}
use Rattle.lcm_program.specs.Started.{InputEnds, PartEnds, RegisterEnds, outside_of, started, unread}

module _ {S K D M L C : Type 0} (o : Known S K D M L C) (further : Further D M C) (status : Status) (before after : Objects S K D M L C) where
  abbrev Again : Type 0
  Again = AllStand o.outside.disk before.disk Stands Any → AllStand o.outside.disk after.disk Stands Any

  untouched : IsOffline before after → Again
  untouched same all = subst (λ (d : D). AllStand o.outside.disk d Stands Any) (sym same.disk) all

  unchanged : outside_of o after ≡ outside_of o before → Again
  unchanged same all = subst (λ (x : Outside D M C). AllStand o.outside.disk x.disk Stands Any) (sym same) all

  input_again : {A : Type 0} (reads : Reading A) (command_of : A → StartCommand)
      → InputEnds reads command_of o.source o.sink o.outside further status before.input after.input before.output after.output (outside_of o before) (outside_of o after)
      → Again
  input_again reads command_of (started value is start) = start.again
  input_again reads command_of (unread cause is ends same) = unchanged same

  register_again : (name : List ℕ)
      → RegisterEnds o.sink o.outside further name status before.output after.output (outside_of o before) (outside_of o after) → Again
  register_again name (inl start) = start.again
  register_again name (inr silent) = unchanged silent.1

  part_again : (name : List ℕ)
      → PartEnds o.source o.sink o.outside further name status before.input after.input before.output after.output (outside_of o before) (outside_of o after) → Again
  part_again name (inl ends) = input_again _ _ ends
  part_again name (inr silent) = unchanged silent.1

  pub stays_standing : (command : Command) → Did o further command status before after → Again
  stays_standing Test row = untouched row.offline
  stays_standing Check row = untouched row.untouched.offline
  stays_standing Order row = untouched row.untouched.offline
  stays_standing Canon row = untouched row.untouched.offline
  stays_standing Checksum row = untouched row.tool.untouched.offline
  stays_standing (Compile node) row = untouched row.untouched.offline
  stays_standing (Generate count) row = untouched row.untouched.offline
  stays_standing (Init agent) row = row.start.again
  stays_standing Meta row = input_again _ _ row
  stays_standing (Register name) row = register_again name.now row.ends
  stays_standing Pull row = row.start.again
  stays_standing (Push None) row = input_again _ _ row
  stays_standing (Push (Some name)) row = part_again name.now row
  stays_standing Consistency row = row.start.again
  stays_standing Boot row = row.start.again
  stays_standing Get row = row.start.again
  stays_standing Restore row = row.start.again
  stays_standing (Remove stage) row = row.start.again
  stays_standing Reports row = row.start.again
