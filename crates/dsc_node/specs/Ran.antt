-- A run over a merged document, from one state of a machine to another.
use Rattle.std.specs.Prelude.{◌≡◌, ◌⊎◌, ℕ, ◌≤◌, List, [], Option}
use Rattle.dsc_terms.specs.Counts.{RoseBy}
use Rattle.dsc_outside.specs.Host.{HostState}
use Rattle.dsc_document.specs.declared.document.Document.{Document}
use Rattle.depend_order.specs.Documents.{IsOrderOfDocument}
use Rattle.lcm_core.specs.declared.modes.RunEnd.{RunEnd}
use Rattle.lcm_core.specs.declared.modes.RunEnd.TheVariants.{Finished, RebootAsked, Memory}
use Rattle.lcm_core.specs.declared.modes.RunMode.{RunMode}
use Rattle.lcm_core.specs.Legal.{GoesOn, Legal}
use Rattle.lcm_core.specs.Whole.{Whole}
use Rattle.resource_kinds.specs.declared.entry.Entry.{Entry}
use Rattle.resource_kinds.specs.declared.entry.Entry.TheVariants.{Set}
use Rattle.resource_kinds.specs.declared.entry.SetAnswer.TheVariants as sets
use Rattle.resource_kinds.specs.Trace.{EndsInMemory, EndsWith, host_failures}
use Rattle.resource_kinds.specs.True.{TellsTrue}

-- the run came to its last resource, or its last entry ended it, or memory ran out before the first
abbrev pub EndsAs : RunEnd → List Entry → Type 0
EndsAs Finished trace = GoesOn trace
EndsAs (RebootAsked place) trace = EndsWith trace (Set place sets.Reboot)
EndsAs Memory trace = EndsInMemory trace ⊎ (trace ≡ [])

-- nothing was left out, unless memory ran out before the first entry
abbrev pub IsWholeOrNone : Document → RunMode → List ℕ → RunEnd → List Entry → Type 0
IsWholeOrNone document mode order Finished trace = Whole document mode order trace
IsWholeOrNone document mode order (RebootAsked place) trace = Whole document mode order trace
IsWholeOrNone document mode order Memory trace = Whole document mode order trace ⊎ (trace ≡ [])

-- The trace may be left by such a run in this order, that of dependencies, leaves nothing out, ends as the run did, is true of the
-- host, and blames it no more often than its count of faults rose.
pub record RanOnHost (document : Document) (mode : RunMode) (order : List ℕ) (end : RunEnd) (trace : List Entry)
    (before after : Option HostState) (faults_before faults_after : ℕ) : Type 0 where
  pub is_order : IsOrderOfDocument document order
  pub legal : Legal document mode order trace
  pub whole : IsWholeOrNone document mode order end trace
  pub ended : EndsAs end trace
  pub is_true : TellsTrue document before trace after
  pub failures : RoseBy (host_failures trace) faults_before faults_after
  pub later : faults_before ≤ faults_after
