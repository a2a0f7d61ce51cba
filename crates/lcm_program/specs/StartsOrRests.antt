-- What a command does to the disk: it starts the node, by a start of `dsc_node`, or it leaves the disk as it was.
use Rattle.std.specs.Prelude.{◌≡◌, ◌⊎◌, ℕ, List, IfSome, Some}
use Rattle.dsc_node.specs.Starts.{OneStart}
use Rattle.dsc_node.specs.declared.status.Status.{Status}
use Rattle.lcm_program.specs.declared.words.Command.{Command}
use Rattle.lcm_program.specs.Complete.{StartsBy}
use Rattle.lcm_program.specs.DidWords.{DidWords}
use Rattle.lcm_program.specs.Endings.{StartEnds}
use Rattle.lcm_program.specs.Further.{Further}
use Rattle.lcm_program.specs.Objects.{Known, Objects}
use Rattle.lcm_program.specs.Started.{outside_of}
use Rattle.lcm_program.specs.Words.{IsForm}

-- a start of the node, from these objects to those, with what its clauses say of it
pub record IsNodeStart {S K D M L C : Type 0} (o : Known S K D M L C) (before after : Objects S K D M L C) : Type 0 where
  pub one : OneStart o.outside
  pub begins : one.before ≡ outside_of o before
  pub ends : one.after ≡ outside_of o after

-- that of this command, by its own row and over its own input, and its end was printed so
pub record IsStartBy {S K D M L C : Type 0} (o : Known S K D M L C) (command : Command) (status : Status) (before after : Objects S K D M L C) : Type 0 where
  pub start : IsNodeStart o before after
  pub by : IfSome (o.source.left before.input) (λ all. StartsBy (Some all) command start.one.command)
  pub prints : StartEnds o.sink start.one.status start.one.lines status before.output after.output

-- arguments in a form start the node, or leave the disk as it was; any other leave it
pub record StartsOrRests {S K D M L C : Type 0} (o : Known S K D M L C) (arguments : List (List ℕ)) (before after : Objects S K D M L C) : Type 0 where
  pub form : (command : Command) → IsForm command arguments → IsNodeStart o before after ⊎ (after.disk ≡ before.disk)
  pub none : ((command : Command) → IsForm command arguments → ⊥) → after.disk ≡ before.disk

-- so does whatever `node_words` does with its arguments, and with it each start of a rehearsal
abbrev pub WordsStartOrRest : {S K D M L C : Type 0} → Known S K D M L C → Further D M C → Type 0
WordsStartOrRest {S = S} {K = K} {D = D} {M = M} {L = L} {C = C} o further =
    (arguments : List (List ℕ)) (status : Status) (before after : Objects S K D M L C) → DidWords o further arguments status before after → StartsOrRests o arguments before after
