-- The command `test`: a run that monitors the document of the input.
use Rattle.std.specs.Prelude.{◌≡◌, ◌⊎◌, ℕ, ◌<◌, ◌≤◌, List, Option, Ok, Err}
use Rattle.dsc_terms.specs.Counts.{Rose, RoseBy}
use Rattle.dsc_outside.specs.declared.ends.Ends as ends
use Rattle.dsc_document.specs.declared.document.Document.{Document}
use Rattle.depend_order.specs.Documents.{IsOrderOfDocument}
use Rattle.resource_kinds.specs.declared.resources.Resources as resources
use Rattle.resource_kinds.specs.Trace.{Chain, host_failures, missed_count}
use Rattle.lcm_core.specs.declared.modes.RunEnd.{RunEnd}
use Rattle.lcm_core.specs.declared.modes.RunEnd.TheVariants.{Finished}
use Rattle.lcm_core.specs.declared.modes.RunMode.TheVariants.{Monitor}
use Rattle.lcm_core.specs.Legal.{Legal}
use Rattle.dsc_node.specs.declared.status.Status.{Status}
use Rattle.dsc_node.specs.declared.status.Status.TheVariants.{Done, NotCompliant, InputRefused, ReadFault, WriteFault, Memory}
use Rattle.dsc_node.specs.Lines.{IsRunText}
use Rattle.dsc_node.specs.Ran.{EndsAs, IsWholeOrNone}
use Rattle.lcm_program.specs.declared.input.Unread.{Unread}
use Rattle.lcm_program.specs.declared.input.Unread.TheVariants as unread
use Rattle.lcm_program.specs.Answers.{EachAllows}
use Rattle.lcm_program.specs.Input.{IsInput, IsUnread, ReadsDocument}
use Rattle.lcm_program.specs.Objects.{IsOffline, Known, Objects}
use Rattle.lcm_program.specs.Printed.{Holds, IsCutShort, PrintsRefusal}
use Rattle.lcm_program.specs.Further.{Further, FurtherOfRuns}

-- The document was monitored in an order of its dependencies, and the run ended so: the trace is one that such a run may leave, with no
-- entry left out; each entry led from one state of the machine to the next; the trace blames the machine no more often than its count of
-- faults rose; and the further fact of runs holds.
pub record Monitored {M : Type 0} (machine : resources.Ghosts M) (further : FurtherOfRuns M) (document : Document) (end : RunEnd) (before after : M) : Type 0 where
  pub order : List ℕ
  pub is_order : IsOrderOfDocument document order
  pub legal : Legal document Monitor order (machine.trace after)
  pub whole : IsWholeOrNone document Monitor order end (machine.trace after)
  pub ended : EndsAs end (machine.trace after)
  pub chain : Chain machine.does machine.still document before (machine.trace after) after
  pub failures : RoseBy (host_failures (machine.trace after)) (machine.faults before) (machine.faults after)
  pub later : machine.faults before ≤ machine.faults after
  pub more : further document before after

-- how the text of a run is printed in which this number of resources did not succeed
abbrev pub PrintsRun : {K : Type 0} → ends.Ghosts K → List ℕ → ℕ → Status → K → K → Type 0
PrintsRun sink text missed Done old new = (missed ≡ 0) × Holds sink text old new
PrintsRun sink text missed (NotCompliant count) old new = (count ≡ missed) × (0 < missed) × Holds sink text old new
PrintsRun sink text missed WriteFault old new = IsCutShort sink text old new
PrintsRun sink text missed _ old new = ⊥

-- the text gives the run of the input's document to its last resource, in which this number of resources did not succeed
pub record IsRunOf {M : Type 0} (machine : resources.Ghosts M) (further : FurtherOfRuns M) (input : Option (List ℕ)) (before after : M) (text : List ℕ) (missed : ℕ) : Type 0 where
  pub document : Document
  pub input_is : IsInput ReadsDocument input (Ok document)
  pub run : Monitored machine further document Finished before after
  pub text_is : IsRunText document (machine.trace after) text
  pub missed_is : missed ≡ missed_count document (machine.trace after)

-- the input's document was run as far as memory went
pub record IsFrontOf {M : Type 0} (machine : resources.Ghosts M) (further : FurtherOfRuns M) (input : Option (List ℕ)) (before after : M) : Type 0 where
  pub document : Document
  pub input_is : IsInput ReadsDocument input (Ok document)
  pub end : RunEnd
  pub run : Monitored machine further document end before after

-- the machine is as it was, or the input's document was run as far as memory went
abbrev pub StopsEarly : {M : Type 0} → resources.Ghosts M → FurtherOfRuns M → Option (List ℕ) → M → M → Type 0
StopsEarly machine further input before after = (after ≡ before) ⊎ IsFrontOf machine further input before after

-- the input's document was run to its last resource, and that run is printed
abbrev pub TestedAll : {S K D M L C : Type 0} → Known S K D M L C → FurtherOfRuns M → Status → Objects S K D M L C → Objects S K D M L C → Type 0
TestedAll o further status before after =
    (text : List ℕ) × (missed : ℕ) × IsRunOf o.outside.resources further (o.source.left before.input) before.machine after.machine text missed
    × PrintsRun o.sink text missed status before.output after.output

-- why there was no run to the last resource: the input is refused and nothing was tested, or memory ran out
abbrev pub IsUntested : {M : Type 0} → resources.Ghosts M → FurtherOfRuns M → Unread → Option (List ℕ) → ℕ → ℕ → M → M → Type 0
IsUntested machine further unread.Memory input faults_before faults_now before after = StopsEarly machine further input before after
IsUntested machine further cause input faults_before faults_now before after = IsUnread ReadsDocument cause input faults_before faults_now × (after ≡ before)

-- the run is printed whole; or the input is refused for its error, or a read failed, and nothing was tested; or memory ran out,
-- nothing is printed, and what was tested is the front of a run
abbrev pub TestEnds : {S K D M L C : Type 0} → Known S K D M L C → FurtherOfRuns M → Status → Objects S K D M L C → Objects S K D M L C → Type 0
TestEnds o further Done before after = TestedAll o further Done before after
TestEnds o further (NotCompliant count) before after = TestedAll o further (NotCompliant count) before after
TestEnds o further WriteFault before after = TestedAll o further WriteFault before after
TestEnds o further (InputRefused error) before after =
    IsInput ReadsDocument (o.source.left before.input) (Err error) × PrintsRefusal o.sink (InputRefused error) before.output after.output
    × (after.machine ≡ before.machine)
TestEnds o further ReadFault before after =
    Rose (o.source.faults before.input) (o.source.faults after.input) × PrintsRefusal o.sink ReadFault before.output after.output
    × (after.machine ≡ before.machine)
TestEnds o further Memory before after =
    StopsEarly o.outside.resources further (o.source.left before.input) before.machine after.machine × (after.output ≡ before.output)
TestEnds o further _ before after = ⊥

-- the document of the input was tested
pub record Tested {S K D M L C : Type 0} (o : Known S K D M L C) (further : Further D M C) (status : Status) (before after : Objects S K D M L C) : Type 0 where
  pub offline : IsOffline before after
  pub ends : TestEnds o further.run status before after
  pub each : EachAllows ReadsDocument (o.source.left before.input) status (o.source.faults before.input) (o.source.faults after.input)
