-- What the step that runs says: it touches no store.
use Rattle.std.specs.Prelude.{◌≡◌, ◌⊎◌, ℕ, Bool, true, false, List, map, Option, None}
use Rattle.dsc_document.specs.declared.document.Document.{Document}
use Rattle.depend_order.specs.Ordered.{IsOrdered}
use Rattle.partial_merge.specs.declared.part.Part.{Part}
use Rattle.partial_merge.specs.Merged.{Merged}
use Rattle.resource_kinds.specs.declared.resources.Resources.{Ghosts}
use Rattle.resource_kinds.specs.Apart.{Apart, Overlap}
use Rattle.lcm_core.specs.declared.modes.RunMode.{RunMode}
use Rattle.report_log.specs.Room.{IsRoomFor}
use Rattle.dsc_document.specs.Sizes.{DocumentInSize}
use Rattle.node_state.specs.declared.node.Node.{Node}
use Rattle.dsc_node.specs.declared.running.Over.{Over}
use Rattle.dsc_node.specs.declared.running.Ready.{Ready}
use Rattle.dsc_node.specs.declared.running.RunStep.{RunStep}
use Rattle.dsc_node.specs.declared.running.RunStep.TheVariants as steps
use Rattle.dsc_node.specs.Readings.{Took}
use Rattle.node_pull.specs.Marks.{mark_of}
use Rattle.dsc_node.specs.Runs.{Reported, Run, Unended, chosen_of}

-- whether resources of the document overlap was found
pub record IsFound (document : Document) (overlap : Bool) : Type 0 where
  pub apart : overlap ≡ false → Apart document
  pub overlaps : overlap ≡ true → Overlap document

-- the document of the parts, with all that a run of it takes beside the trace
pub record IsReadyFor (parts : List Part) (ready : Ready) : Type 0 where
  pub merged : Merged parts ready.ordered.document
  pub ordered : IsOrdered ready.ordered
  pub in_size : DocumentInSize ready.ordered.document
  pub found : IsFound ready.ordered.document ready.overlap
  pub room : IsRoomFor ready.ordered.document ready.room
  pub marks : ready.marks ≡ map mark_of parts

-- the run that is over
abbrev pub run_of : Over → List Part → RunMode → List ℕ → Run
run_of over parts mode order = record {
  choice = record { parts = parts; mode = mode; pending = over.pending };
  document = over.document;
  order = order;
  end = over.end;
}

-- a run that is over, with its report
pub record IsOver {S : Type 0} (machine : Ghosts S) (node : Node) (stopped : Bool) (readings : Option (List (Option ℕ))) (start : ℕ) (over : Over) (before after : S) : Type 0 where
  pub parts : List Part
  pub mode : RunMode
  pub order : List ℕ
  pub reported : Reported machine node stopped readings start (run_of over parts mode order) over.report before after
  pub found : IsFound over.document over.overlap

-- what the step that runs did; the readings are those that the clock still gives, before and after
abbrev pub IsRunStep : {S : Type 0} → Ghosts S → Node → Bool → Option (List (Option ℕ)) → Option (List (Option ℕ)) → ℕ → RunStep → S → S → Type 0
IsRunStep machine node stopped readings left start steps.Nothing before after = (chosen_of stopped node ≡ None) × (after ≡ before) × (left ≡ readings)
IsRunStep machine node stopped readings left start steps.Memory before after = ((after ≡ before) ⊎ ((run : Run) × Unended machine node stopped run before after)) × (left ≡ readings)
IsRunStep machine node stopped readings left start (steps.Over over) before after = IsOver machine node stopped readings start over before after × Took 1 readings left
