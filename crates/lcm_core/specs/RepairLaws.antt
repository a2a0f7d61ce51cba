-- Laws of runs: where a repair succeeds, and what can be reported.
use Rattle.std.specs.Prelude.{◌≡◌, ◌≢◌, ◌⊎◌, ℕ, ◌<◌, ⊤, List, length, Some, All}
use Rattle.dsc_outside.specs.Host.{HostState}
use Rattle.dsc_document.specs.declared.document.Document.{Document}
use Rattle.dsc_document.specs.Dependencies.{IsDependency}
use Rattle.depend_order.specs.Documents.{IsOrderOfDocument}
use Rattle.resource_kinds.specs.declared.entry.Failure.{Failure}
use Rattle.resource_kinds.specs.declared.entry.Failure.TheVariants.{NoSuchResource, OutOfProfile, BadPath, InTheWay, HostFailed}
use Rattle.resource_kinds.specs.declared.entry.TestAnswer.{TestAnswer}
use Rattle.resource_kinds.specs.declared.entry.TestAnswer.TheVariants as tests
use Rattle.resource_kinds.specs.declared.entry.SetAnswer.{SetAnswer}
use Rattle.resource_kinds.specs.declared.entry.SetAnswer.TheVariants as sets
use Rattle.resource_kinds.specs.declared.entry.Entry.{Entry}
use Rattle.resource_kinds.specs.declared.entry.Entry.TheVariants.{Tested, Set}
use Rattle.resource_kinds.specs.declared.wanted.Wanted.{Wanted}
use Rattle.resource_kinds.specs.Apart.{wanted_at}
use Rattle.resource_kinds.specs.Trace.{EndsInMemory, Succeeded, WantsMemory, last_entry, place_of}
use Rattle.resource_kinds.specs.True.{True}
use Rattle.lcm_core.specs.declared.modes.RunMode.{RunMode}
use Rattle.lcm_core.specs.declared.modes.RunMode.TheVariants.{Repair}
use Rattle.lcm_core.specs.declared.modes.RunEnd.{RunEnd}
use Rattle.lcm_core.specs.declared.modes.RunEnd.TheVariants as ends
use Rattle.lcm_core.specs.Ends.{IsEnd, IsUnbegun}
use Rattle.lcm_core.specs.Legal.{GoesOn, Legal}
use Rattle.lcm_core.specs.Whole.{Whole}

-- ---- resources without a fault

-- the resource has no fault of its own
abbrev pub IsKnown : Document → ℕ → Type 0
IsKnown document r = (wanted : Wanted) × (wanted_at document r ≡ Some wanted)

-- followed down, the first comes to the second: they are one, or a dependency of the first comes to it
pub data ComesTo (document : Document) : ℕ → ℕ → Type 0 where
  itself : (r : ℕ) → ComesTo document r r
  through : (r q s : ℕ) → IsDependency document r q → ComesTo document q s → ComesTo document r s

-- neither it nor any of its dependencies, followed down, has a fault of its own
abbrev pub IsSound : Document → ℕ → Type 0
IsSound document r = (q : ℕ) → ComesTo document r q → IsKnown document q

-- ---- traces without a fault of the machine

-- the host failed, or something is in the way
abbrev pub IsOfMachine : Failure → Type 0
IsOfMachine NoSuchResource = ⊥
IsOfMachine (OutOfProfile name) = ⊥
IsOfMachine BadPath = ⊥
IsOfMachine InTheWay = ⊤
IsOfMachine HostFailed = ⊤

abbrev pub TestBlames : TestAnswer → Type 0
TestBlames tests.Yes = ⊥
TestBlames tests.No = ⊥
TestBlames (tests.Fault failure) = IsOfMachine failure
TestBlames tests.Memory = ⊥

abbrev pub SetBlames : SetAnswer → Type 0
SetBlames sets.Done = ⊥
SetBlames sets.Reboot = ⊥
SetBlames (sets.Fault failure) = IsOfMachine failure
SetBlames sets.Memory = ⊥

abbrev pub EntryBlames : Entry → Type 0
EntryBlames (Tested place answer) = TestBlames answer
EntryBlames (Set place answer) = SetBlames answer

-- no entry has such a fault
abbrev pub BlamesNothing : List Entry → Type 0
BlamesNothing trace = All (λ e. EntryBlames e → ⊥) trace

-- no entry of the resource has
abbrev pub IsSpared : List Entry → ℕ → Type 0
IsSpared trace r = All (λ e. place_of e ≡ r → EntryBlames e → ⊥) trace

-- ---- repairs that succeed

-- a repair that came to its last resource, on a host that shows what it holds
pub record IsFullRepair (document : Document) (order : List ℕ) (before : HostState) (trace : List Entry) (after : HostState) : Type 0 where
  pub ordered : IsOrderOfDocument document order
  pub legal : Legal document Repair order trace
  pub whole : Whole document Repair order trace
  pub finished : GoesOn trace
  pub is_true : True document before trace after

-- where no entry has a fault of the machine, each sound resource ends with a Test that answered yes
abbrev pub RepairSucceeds : Type 0
RepairSucceeds =
    (document : Document) (order : List ℕ) (before after : HostState) (trace : List Entry) (r : ℕ)
    → IsFullRepair document order before trace after → BlamesNothing trace → r < length document.resources → IsSound document r → Succeeded trace r

-- a fault of the machine harms no resource but those that come to the one whose entry reports it
abbrev pub FaultsAreContained : Type 0
FaultsAreContained =
    (document : Document) (order : List ℕ) (before after : HostState) (trace : List Entry) (r : ℕ)
    → IsFullRepair document order before trace after → ((q : ℕ) → ComesTo document r q → IsSpared trace q) → r < length document.resources → IsSound document r
    → Succeeded trace r

-- ---- runs that are reported

-- the entries are of resources of the document, none was refused memory, and no resource's last entry is a Set that was done
pub record IsReportable (document : Document) (trace : List Entry) : Type 0 where
  pub known : All (λ e. place_of e < length document.resources) trace
  pub memory : All (λ e. WantsMemory e → ⊥) trace
  pub settled : (r place : ℕ) → last_entry trace r ≡ Some (Set place sets.Done) → ⊥

-- so is each whole trace that does not end out of memory
abbrev pub TracesAreReportable : Type 0
TracesAreReportable =
    (document : Document) (mode : RunMode) (order : List ℕ) (trace : List Entry)
    → Legal document mode order trace → Whole document mode order trace → (EndsInMemory trace → ⊥) → IsReportable document trace

-- and what a run leaves that ended otherwise
abbrev pub RunsAreReportable : Type 0
RunsAreReportable =
    (document : Document) (mode : RunMode) (order : List ℕ) (end : RunEnd) (trace : List Entry) → end ≢ ends.Memory
    → Legal document mode order trace → Whole document mode order trace ⊎ IsUnbegun mode end trace → IsEnd mode end trace → IsReportable document trace
