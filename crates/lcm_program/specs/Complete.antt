-- How a command that starts the node ends where its input is valid and nothing failed.
use Rattle.std.specs.Prelude.{◌≡◌, ◌⊎◌, ℕ, List, Option, Some, None, Ok}
use Rattle.std.specs.Str.{chars}
use Rattle.dsc_terms.specs.Counts.{Rose}
use Rattle.meta_config.specs.declared.meta.Meta as declared
use Rattle.dsc_node.specs.declared.command.Command as starting
use Rattle.dsc_node.specs.declared.command.Command.TheVariants as commands
use Rattle.dsc_node.specs.declared.status.Status.{Status}
use Rattle.dsc_node.specs.declared.status.Status.TheVariants.{Memory}
use Rattle.dsc_node.specs.Complete as starts
use Rattle.lcm_program.specs.declared.words.Command.{Command}
use Rattle.lcm_program.specs.declared.words.Command.TheVariants.{Init, Meta, Register, Pull, Push, Consistency, Boot, Get, Restore, Remove, Reports}
use Rattle.lcm_program.specs.Input.{Reading, ReadsBytes, ReadsMeta, input_limit}
use Rattle.lcm_program.specs.Objects.{Known, Objects}
use Rattle.lcm_program.specs.Started.{outside_of}

-- the source shows what it holds, and the whole of that is read as this value
abbrev pub IsReadAs : {A : Type 0} → Reading A → Option (List ℕ) → A → Type 0
IsReadAs reads None value = ⊥
IsReadAs reads (Some all) value = reads all (Ok value)

-- by which command of a node a command starts it, over this input where it takes one; the others start none
abbrev pub StartsBy : Option (List ℕ) → Command → starting.Command → Type 0
StartsBy input (Init agent) start = start ≡ commands.Init agent
StartsBy input Meta start = (meta : declared.Meta) × IsReadAs ReadsMeta input meta × (start ≡ commands.Meta meta)
StartsBy input (Register name) start = start ≡ commands.Register (chars name.now)
StartsBy input Pull start = start ≡ commands.Pull
StartsBy input (Push None) start = (bytes : List ℕ) × IsReadAs (ReadsBytes input_limit) input bytes × (start ≡ commands.Push None bytes)
StartsBy input (Push (Some name)) start =
    (bytes : List ℕ) × IsReadAs (ReadsBytes input_limit) input bytes × (start ≡ commands.Push (Some (chars name.now)) bytes)
StartsBy input Consistency start = start ≡ commands.Consistency
StartsBy input Boot start = start ≡ commands.Boot
StartsBy input Get start = start ≡ commands.Get
StartsBy input Restore start = start ≡ commands.Restore
StartsBy input (Remove stage) start = start ≡ commands.Remove stage
StartsBy input Reports start = start ≡ commands.Reports
StartsBy input _ start = ⊥

-- No count of faults rose: none of those that a start of valid input asks for, nor that of the input or of the output.
pub record NothingFailed {S K D M L C : Type 0} (o : Known S K D M L C) (start : starting.Command) (before after : Objects S K D M L C) : Type 0 where
  pub node : starts.NothingFailed o.outside start (outside_of o before) (outside_of o after)
  pub input : Rose (o.source.faults before.input) (o.source.faults after.input) → ⊥
  pub output : Rose (o.sink.faults before.output) (o.sink.faults after.output) → ⊥

-- where the command starts the node, its input is valid for it, and nothing failed, it ends as such a start does, or memory ran out
abbrev pub Completes : {S K D M L C : Type 0} → Known S K D M L C → Command → Status → Objects S K D M L C → Objects S K D M L C → Type 0
Completes o command status before after =
    (start : starting.Command) → StartsBy (o.source.left before.input) command start
    → starts.IsValid o.outside start (outside_of o before) (outside_of o after) → NothingFailed o start before after
    → starts.IsEndOf start status ⊎ (status ≡ Memory)
