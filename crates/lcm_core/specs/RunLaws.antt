-- Laws of legal traces: what follows a yes, and that what succeeded holds together.
use Rattle.std.specs.Prelude.{◌≡◌, ℕ, ◌<◌, List, ◌∷◌, ◌++◌, length, All}
use Rattle.dsc_outside.specs.Host.{HostState}
use Rattle.dsc_document.specs.declared.document.Document.{Document}
use Rattle.resource_kinds.specs.declared.entry.TestAnswer.TheVariants as tests
use Rattle.resource_kinds.specs.declared.entry.Entry.{Entry}
use Rattle.resource_kinds.specs.declared.entry.Entry.TheVariants.{Tested}
use Rattle.resource_kinds.specs.Apart.{Apart}
use Rattle.resource_kinds.specs.Documents.{AllHold}
use Rattle.resource_kinds.specs.Trace.{Compliant, HasEntry, place_of}
use Rattle.resource_kinds.specs.True.{True}
use Rattle.lcm_core.specs.declared.modes.RunMode.{RunMode}
use Rattle.lcm_core.specs.Legal.{Legal}

-- no entry of a resource stands after a Test of it that answered yes
abbrev pub EndsAtYes : List Entry → Type 0
EndsAtYes trace = (front : List Entry) (r : ℕ) (rest : List Entry) → trace ≡ front ++ Tested r tests.Yes ∷ rest → HasEntry rest r → ⊥

abbrev pub LegalEndsAtYes : Type 0
LegalEndsAtYes =
    (document : Document) (mode : RunMode) (order : List ℕ) (trace : List Entry) → Legal document mode order trace → EndsAtYes trace

-- the entries are of resources of the document
abbrev pub LegalKnowsPlaces : Type 0
LegalKnowsPlaces =
    (document : Document) (mode : RunMode) (order : List ℕ) (trace : List Entry)
    → Legal document mode order trace → All (λ e. place_of e < length document.resources) trace

-- where the resources are apart and each of them succeeded, all that they ask for holds together at the end
abbrev pub CompliantHold : Type 0
CompliantHold =
    (document : Document) (mode : RunMode) (order : List ℕ) (before after : HostState) (trace : List Entry)
    → Legal document mode order trace → True document before trace after → Apart document → Compliant document trace → AllHold after document
