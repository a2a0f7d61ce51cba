-- What the program did.
use Rattle.std.specs.Prelude.{◌≡◌, ℕ, List, Some, None}
use Rattle.std.specs.Str.{chars}
use Rattle.dsc_node.specs.declared.command.Command.TheVariants as commands
use Rattle.dsc_node.specs.declared.status.Status.{Status}
use Rattle.dsc_node.specs.declared.status.Status.TheVariants.{Usage, Memory}
use Rattle.lcm_program.specs.declared.words.Command.{Command}
use Rattle.lcm_program.specs.declared.words.Command.TheVariants.{Test, Check, Order, Canon, Checksum, Compile, Generate, Init, Meta, Register, Pull, Push, Consistency, Boot, Get, Restore, Remove, Reports}
use Rattle.lcm_program.specs.Canon.{AnswersCanon}
use Rattle.lcm_program.specs.Check.{AnswersCheck}
use Rattle.lcm_program.specs.Checksum.{Checksummed}
use Rattle.lcm_program.specs.Compile.{AnswersCompile}
use Rattle.lcm_program.specs.Generate.{Generated}
use Rattle.lcm_program.specs.Objects.{IsUntouched, Known, Objects}
use Rattle.lcm_program.specs.Order.{AnswersOrder}
use Rattle.lcm_program.specs.Printed.{PrintsRefusal}
use Rattle.lcm_program.specs.Further.{Further}
use Rattle.lcm_program.specs.Started.{Configured, Pushed, PushedPart, Registered, Started}
use Rattle.lcm_program.specs.Test.{Tested}
use Rattle.lcm_program.specs.Tool.{RanTool}
use Rattle.lcm_program.specs.Words.{IsUsageOf}

-- a row for each command: how it ended, and what it made of the objects; `further` says what more holds of its start or run
abbrev pub Did : {S K D M L C : Type 0} → Known S K D M L C → Further D M C → Command → Status → Objects S K D M L C → Objects S K D M L C → Type 0
Did o further Test status before after = Tested o further status before after
Did o further Check status before after = RanTool AnswersCheck o status before after
Did o further Order status before after = RanTool AnswersOrder o status before after
Did o further Canon status before after = RanTool AnswersCanon o status before after
Did o further Checksum status before after = Checksummed o status before after
Did o further (Compile node) status before after = RanTool (AnswersCompile (chars node.now)) o status before after
Did o further (Generate count) status before after = Generated count o status before after
Did o further (Init agent) status before after = Started (commands.Init agent) o further status before after
Did o further Meta status before after = Configured o further status before after
Did o further (Register name) status before after = Registered name.now o further status before after
Did o further Pull status before after = Started commands.Pull o further status before after
Did o further (Push None) status before after = Pushed o further status before after
Did o further (Push (Some name)) status before after = PushedPart name.now o further status before after
Did o further Consistency status before after = Started commands.Consistency o further status before after
Did o further Boot status before after = Started commands.Boot o further status before after
Did o further Get status before after = Started commands.Get o further status before after
Did o further Restore status before after = Started commands.Restore o further status before after
Did o further (Remove stage) status before after = Started (commands.Remove stage) o further status before after
Did o further Reports status before after = Started commands.Reports o further status before after

-- arguments in none of these forms are refused with the place of the first argument that does not fit; or memory ran out and nothing is printed
abbrev pub UsageEnds : {A S K D M L C : Type 0} → (A → List (List ℕ) → Type 0) → Known S K D M L C → List (List ℕ) → Status → Objects S K D M L C → Objects S K D M L C → Type 0
UsageEnds is_form o arguments (Usage place) before after = IsUsageOf is_form arguments place × PrintsRefusal o.sink (Usage place) before.output after.output
UsageEnds is_form o arguments Memory before after = after.output ≡ before.output
UsageEnds is_form o arguments _ before after = ⊥

-- nothing was done
pub record DidNothing {A S K D M L C : Type 0} (is_form : A → List (List ℕ) → Type 0) (o : Known S K D M L C) (arguments : List (List ℕ)) (status : Status)
    (before after : Objects S K D M L C) : Type 0 where
  pub input : after.input ≡ before.input
  pub untouched : IsUntouched before after
  pub ends : UsageEnds is_form o arguments status before after
