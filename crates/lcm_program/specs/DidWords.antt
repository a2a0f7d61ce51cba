-- What `node_words` does with its arguments.
use Rattle.std.specs.Prelude.{◌⊎◌, ℕ, List}
use Rattle.dsc_outside.specs.Link.{GoesOn}
use Rattle.dsc_outside.specs.LinkView.{view_of}
use Rattle.dsc_node.specs.declared.status.Status.{Status}
use Rattle.lcm_program.specs.declared.words.Command.{Command}
use Rattle.lcm_program.specs.Complete.{Completes}
use Rattle.lcm_program.specs.Did.{Did, DidNothing}
use Rattle.lcm_program.specs.Further.{Further}
use Rattle.lcm_program.specs.Objects.{Known, Objects}
use Rattle.lcm_program.specs.Words.{IsForm}

-- they ask for a command, or for none
abbrev pub AskOrNot : List (List ℕ) → Type 0
AskOrNot arguments = ((command : Command) × IsForm command arguments) ⊎ ((command : Command) → IsForm command arguments → ⊥)

-- What they ask for was done, by the table of commands; where they are in none of its forms, nothing was done; a command that starts the node
-- is not refused where its input is valid and nothing failed; and the link is one that it may become, with exchanges added alone.
pub record DidWords {S K D M L C : Type 0} (o : Known S K D M L C) (further : Further D M C) (arguments : List (List ℕ)) (status : Status)
    (before after : Objects S K D M L C) : Type 0 where
  pub asked : AskOrNot arguments
  pub did : (command : Command) → IsForm command arguments → Did o further command status before after
  pub nothing : ((command : Command) → IsForm command arguments → ⊥) → DidNothing IsForm o arguments status before after
  pub completes : (command : Command) → IsForm command arguments → Completes o command status before after
  pub becomes : o.link.may_become before.link after.link
  pub goes_on : GoesOn (view_of o.link before.link) (view_of o.link after.link)
