-- Laws of repairs over any machine: where no answer is a fault and what a Set makes lasts, a repair that comes to its last resource is
-- compliant, and no more repairs in a row end with a reboot than there are resources.
use Rattle.std.specs.Prelude.{◌≡◌, ℕ, ◌<◌, ◌≤◌, Bool, true, ⊤, List, [], ◌∷◌, ◌++◌, length, filter, All}
use Rattle.std.specs.List.{AllByRecursion}
use Rattle.dsc_outside.specs.Host.{HostState}
use Rattle.dsc_document.specs.declared.document.Document.{Document}
use Rattle.depend_order.specs.Documents.{IsOrderOfDocument}
use Rattle.resource_kinds.specs.declared.entry.TestAnswer.TheVariants as tests
use Rattle.resource_kinds.specs.declared.entry.SetAnswer.{SetAnswer}
use Rattle.resource_kinds.specs.declared.entry.SetAnswer.TheVariants as sets
use Rattle.resource_kinds.specs.declared.entry.Entry.{Entry}
use Rattle.resource_kinds.specs.declared.entry.Entry.TheVariants.{Tested, Set}
use Rattle.resource_kinds.specs.Trace.{Compliant, EndsWith, Succeeded, place_of}
use Rattle.resource_kinds.specs.True.{True}
use Rattle.lcm_core.specs.declared.modes.RunMode.TheVariants.{Repair}
use Rattle.lcm_core.specs.Legal.{GoesOn, Legal}
use Rattle.lcm_core.specs.RepairLaws.{ComesTo, IsKnown, IsSpared}
use Rattle.lcm_core.specs.Whole.{Whole}

-- ---- what the entries of a run say of a resource

abbrev pub IsFault : Entry → Type 0
IsFault (Tested place tests.Yes) = ⊥
IsFault (Tested place tests.No) = ⊥
IsFault (Tested place (tests.Fault failure)) = ⊤
IsFault (Tested place tests.Memory) = ⊥
IsFault (Set place sets.Done) = ⊥
IsFault (Set place sets.Reboot) = ⊥
IsFault (Set place (sets.Fault failure)) = ⊤
IsFault (Set place sets.Memory) = ⊥

-- no entry of the resource is a fault, and directly after a Set that was done its Test does not answer no
pub record AnswersWell (trace : List Entry) (r : ℕ) : Type 0 where
  pub faultless : (front : List Entry) (e : Entry) (rest : List Entry) → trace ≡ front ++ e ∷ rest → place_of e ≡ r → IsFault e → ⊥
  pub lasts : (front rest : List Entry) → trace ≡ front ++ Set r sets.Done ∷ Tested r tests.No ∷ rest → ⊥

-- So the entries are of a resource without a fault of its own, where none of them has a fault of the machine, and these entries, perhaps
-- beside those of others, are true of a host.
abbrev pub KnownEntriesAnswerWell : Type 0
KnownEntriesAnswerWell =
    (document : Document) (is_of_host : Entry → Bool) (before after : HostState) (trace : List Entry) (r : ℕ)
    → True document before (filter is_of_host trace) after → IsKnown document r → ((e : Entry) → place_of e ≡ r → is_of_host e ≡ true) → IsSpared trace r
    → AnswersWell trace r

-- ---- a repair that came to its last resource

pub record IsCompleteRepair (document : Document) (order : List ℕ) (trace : List Entry) : Type 0 where
  pub ordered : IsOrderOfDocument document order
  pub legal : Legal document Repair order trace
  pub whole : Whole document Repair order trace
  pub finished : GoesOn trace

-- in it a resource succeeds that answers well, and whose dependencies, followed down, do
abbrev pub WellAnsweredSucceed : Type 0
WellAnsweredSucceed =
    (document : Document) (order : List ℕ) (trace : List Entry) (r : ℕ) → IsCompleteRepair document order trace → ((q : ℕ) → ComesTo document r q → AnswersWell trace q)
    → r < length document.resources → Succeeded trace r

-- ---- Sets that last

-- no entry is a fault
abbrev pub IsFaultless : List Entry → Type 0
IsFaultless trace = All (λ e. IsFault e → ⊥) trace

-- no Test of the resource answers no
abbrev pub NeverNo : ℕ → List Entry → Type 0
NeverNo r trace = (front rest : List Entry) → trace ≡ front ++ Tested r tests.No ∷ rest → ⊥

-- after a Set of the resource in this run no Test of it answers no: not in this run, and not in those after it
abbrev pub SetLasts : ℕ → List Entry → List (List Entry) → Type 0
SetLasts r trace later =
    (front : List Entry) (answer : SetAnswer) (rest : List Entry) → trace ≡ front ++ Set r answer ∷ rest → NeverNo r rest × AllByRecursion (NeverNo r) later

-- so it is of each of these runs, in their order
abbrev pub Lasts : ℕ → List (List Entry) → Type 0
Lasts r [] = ⊤
Lasts r (trace ∷ later) = SetLasts r trace later × Lasts r later

-- where no entry is a fault, and what each Set makes lasts, a repair that came to its last resource is compliant
abbrev pub LastingRepairsComply : Type 0
LastingRepairsComply =
    (document : Document) (order : List ℕ) (trace : List Entry) → IsCompleteRepair document order trace → IsFaultless trace
    → ((r : ℕ) → r < length document.resources → Lasts r (trace ∷ [])) → Compliant document trace

-- a repair of the document that ended with a request for a reboot
pub record IsRepairToReboot (document : Document) (trace : List Entry) : Type 0 where
  pub order : List ℕ
  pub legal : Legal document Repair order trace
  pub place : ℕ
  pub ends : EndsWith trace (Set place sets.Reboot)

-- of such repairs in a row, each sets a resource that none before it set: there are no more of them than resources
abbrev pub RebootsAreFew : Type 0
RebootsAreFew =
    (document : Document) (runs : List (List Entry)) → AllByRecursion (IsRepairToReboot document) runs → ((r : ℕ) → r < length document.resources → Lasts r runs)
    → length runs ≤ length document.resources
