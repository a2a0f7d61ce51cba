-- Arguments ask for one row of the table of commands.
use Rattle.std.proofs.Common.{◌≡◌, ℕ, List, Some, None, refl, sym, subst}
use Rattle.dsc_node.specs.declared.status.Status.{Status}
use Rattle.lcm_program.specs.declared.words.Command.{Command}
use Rattle.lcm_program.specs.declared.words.Command.TheVariants.{Test, Check, Order, Canon, Checksum, Compile, Generate, Init, Meta, Register, Pull, Push, Consistency, Boot, Get, Restore, Remove, Reports}
use Rattle.lcm_program.specs.Did.{Did}
use Rattle.lcm_program.specs.Objects.{Known, Objects}
use Rattle.lcm_program.specs.Further.{Further}
use Rattle.lcm_program.specs.Words.{IsForm}
use Rattle.lcm_program.proofs.Forms.{one_form, plain}

module _ {S K D M L C : Type 0} (o : Known S K D M L C) (further : Further D M C) (status : Status) (before after : Objects S K D M L C) where
  -- a row speaks of a command's name, and not of the place where that lies
  same_row : (command : Command) → Did o further (plain command) status before after ≡ Did o further command status before after
  same_row Test = refl
  same_row Check = refl
  same_row Order = refl
  same_row Canon = refl
  same_row Checksum = refl
  same_row (Compile node) = refl
  same_row (Generate count) = refl
  same_row (Init agent) = refl
  same_row Meta = refl
  same_row (Register name) = refl
  same_row Pull = refl
  same_row (Push None) = refl
  same_row (Push (Some name)) = refl
  same_row Consistency = refl
  same_row Boot = refl
  same_row Get = refl
  same_row Restore = refl
  same_row (Remove stage) = refl
  same_row Reports = refl

  -- the rows of two commands for which the arguments ask are one
  pub one_row : (a b : Command) (arguments : List (List ℕ)) → IsForm a arguments → IsForm b arguments → Did o further a status before after → Did o further b status before after
  one_row a b arguments p q did =
      subst (λ (X : Type 0). X) (same_row b)
      (subst (λ (x : Command). Did o further x status before after) (one_form a b arguments p q) (subst (λ (X : Type 0). X) (sym (same_row a)) did))
