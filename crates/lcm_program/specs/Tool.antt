-- Tools: commands that print a text made from the input, and change nothing else.
use Rattle.std.specs.Prelude.{◌≡◌, ℕ, List, Ok, Err}
use Rattle.dsc_terms.specs.Counts.{Rose}
use Rattle.dsc_node.specs.declared.status.Status.{Status}
use Rattle.dsc_node.specs.declared.status.Status.TheVariants.{Done, InputRefused, ReadFault, WriteFault, Memory}
use Rattle.lcm_program.specs.Answers.{EachAllows}
use Rattle.lcm_program.specs.Input.{IsInput, Reading}
use Rattle.lcm_program.specs.Objects.{IsUntouched, Known, Objects}
use Rattle.lcm_program.specs.Printed.{Holds, IsCutShort, PrintsRefusal}

-- what is read is answered by a text of it
abbrev pub Shows : {A : Type 0} → Reading A → (A → List ℕ → Type 0) → Reading (List ℕ)
Shows {A} reads shows all (Ok text) = (value : A) × reads all (Ok value) × shows value text
Shows reads shows all (Err error) = reads all (Err error)

-- the text is printed, or a part from its front where the output failed; or the input is refused for its error, or a read failed;
-- or memory ran out and nothing is printed
abbrev pub ToolEnds : {S K D M L C : Type 0} → Reading (List ℕ) → Known S K D M L C → Status → Objects S K D M L C → Objects S K D M L C → Type 0
ToolEnds answers o Done before after =
    (text : List ℕ) × IsInput answers (o.source.left before.input) (Ok text) × Holds o.sink text before.output after.output
ToolEnds answers o WriteFault before after =
    (text : List ℕ) × IsInput answers (o.source.left before.input) (Ok text) × IsCutShort o.sink text before.output after.output
ToolEnds answers o (InputRefused error) before after =
    IsInput answers (o.source.left before.input) (Err error) × PrintsRefusal o.sink (InputRefused error) before.output after.output
ToolEnds answers o ReadFault before after =
    Rose (o.source.faults before.input) (o.source.faults after.input) × PrintsRefusal o.sink ReadFault before.output after.output
ToolEnds answers o Memory before after = after.output ≡ before.output
ToolEnds answers o _ before after = ⊥

-- a tool with these answers was run
pub record RanTool {S K D M L C : Type 0} (answers : Reading (List ℕ)) (o : Known S K D M L C) (status : Status)
    (before after : Objects S K D M L C) : Type 0 where
  pub untouched : IsUntouched before after
  pub ends : ToolEnds answers o status before after
  pub each : EachAllows answers (o.source.left before.input) status (o.source.faults before.input) (o.source.faults after.input)
