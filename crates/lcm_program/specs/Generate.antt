-- The command `generate`: the repair of a document that is made of a number, on an empty machine.
use Rattle.std.specs.Prelude.{◌≡◌, ℕ, ◌-◌, Bool, true, false, List, ◌++◌, length, Some, codes, count_by, get_or}
use Rattle.std.specs.Fmt.{decimal}
use Rattle.dsc_outside.specs.Host.{HostState, empty_host}
use Rattle.dsc_document.specs.declared.document.Document.{Document}
use Rattle.generated_document.specs.Contents.{HasContents}
use Rattle.generated_document.specs.Generated.{IsGenerated}
use Rattle.lcm_core.specs.declared.modes.RunEnd.TheVariants.{Finished}
use Rattle.lcm_core.specs.declared.modes.RunMode.TheVariants.{Repair}
use Rattle.resource_kinds.specs.declared.entry.Entry.{Entry}
use Rattle.resource_kinds.specs.declared.entry.Entry.TheVariants.{Tested, Set}
use Rattle.resource_kinds.specs.Trace.{host_failures, missed_count, succeeded_count}
use Rattle.dsc_node.specs.declared.status.Status.{Status}
use Rattle.dsc_node.specs.declared.status.Status.TheVariants.{Done, WriteFault, Memory}
use Rattle.dsc_node.specs.Lines.{id_at, resources_line}
use Rattle.dsc_node.specs.Quoted.{quoted}
use Rattle.dsc_node.specs.Ran.{RanOnHost}
use Rattle.lcm_program.specs.Objects.{IsUntouched, Known, Objects}
use Rattle.lcm_program.specs.Printed.{Holds, IsCutShort}

abbrev pub is_test : Entry → Bool
is_test (Tested place answer) = true
is_test (Set place answer) = false

abbrev pub is_set : Entry → Bool
is_set (Tested place answer) = false
is_set (Set place answer) = true

-- how many Tests and Sets there were
abbrev pub calls_line : List Entry → List ℕ
calls_line trace = codes "tests " ++ decimal (count_by is_test trace) ++ codes " sets " ++ decimal (count_by is_set trace) ++ codes "\n"

-- the first and the last id of the order
abbrev pub ends_line : Document → List ℕ → List ℕ
ends_line document order =
    codes "first " ++ quoted (id_at document (get_or order 0 0)) ++ codes " last " ++ quoted (id_at document (get_or order (length order - 1) 0)) ++ codes "\n"

abbrev pub generated_lines : ℕ → Document → List ℕ → List Entry → List ℕ
generated_lines count document order trace =
    codes "generated " ++ decimal count ++ codes "\n" ++ resources_line (length document.resources) (succeeded_count document trace) ++ calls_line trace ++ ends_line document order

-- the text speaks of the repair of the document of that count, on an empty machine that did not fail: it came to its last
-- resource, and every resource succeeded
pub record IsGeneratedText (count : ℕ) (text : List ℕ) : Type 0 where
  pub document : Document
  pub generated : IsGenerated count document
  pub contents : HasContents count document
  pub order : List ℕ
  pub trace : List Entry
  pub after : HostState
  pub run : RanOnHost document Repair order Finished trace (Some empty_host) (Some after) 0 0
  pub blameless : host_failures trace ≡ 0
  pub all : missed_count document trace ≡ 0
  pub lines : text ≡ generated_lines count document order trace

-- such a text is printed, or a part from its front where the output failed; or memory ran out and nothing is printed
abbrev pub GenerateEnds : {S K D M L C : Type 0} → ℕ → Known S K D M L C → Status → Objects S K D M L C → Objects S K D M L C → Type 0
GenerateEnds count o Done before after = (text : List ℕ) × IsGeneratedText count text × Holds o.sink text before.output after.output
GenerateEnds count o WriteFault before after = (text : List ℕ) × IsGeneratedText count text × IsCutShort o.sink text before.output after.output
GenerateEnds count o Memory before after = after.output ≡ before.output
GenerateEnds count o _ before after = ⊥

-- a document of that many resources was repaired; the input was not read
pub record Generated {S K D M L C : Type 0} (count : ℕ) (o : Known S K D M L C) (status : Status) (before after : Objects S K D M L C) : Type 0 where
  pub input : after.input ≡ before.input
  pub untouched : IsUntouched before after
  pub ends : GenerateEnds count o status before after
