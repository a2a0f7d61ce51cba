-- What the printed lines of a run say of its trace: they spell one trace, up to the name inside a fault.
use Rattle.std.specs.Prelude.{◌≡◌, ◌<◌, ℕ, List, ◌++◌, All, length, ⊤}
use Rattle.std.specs.List.{AllZip}
use Rattle.dsc_document.specs.declared.document.Document.{Document}
use Rattle.dsc_document.specs.Dependencies.{HasDistinctIds}
use Rattle.resource_kinds.specs.declared.entry.TestAnswer.{TestAnswer}
use Rattle.resource_kinds.specs.declared.entry.TestAnswer.TheVariants as tests
use Rattle.resource_kinds.specs.declared.entry.SetAnswer.{SetAnswer}
use Rattle.resource_kinds.specs.declared.entry.SetAnswer.TheVariants as sets
use Rattle.resource_kinds.specs.declared.entry.Entry.{Entry}
use Rattle.resource_kinds.specs.declared.entry.Entry.TheVariants.{Tested, Set}
use Rattle.resource_kinds.specs.Names.{failure_name}
use Rattle.resource_kinds.specs.Trace.{place_of}
use Rattle.dsc_node.specs.Lines.{IsRunText}

-- the same answer to a Test; of two faults the names, and not what is inside
abbrev pub IsSameTest : TestAnswer → TestAnswer → Type 0
IsSameTest tests.Yes tests.Yes = ⊤
IsSameTest tests.No tests.No = ⊤
IsSameTest (tests.Fault one) (tests.Fault other) = failure_name one ≡ failure_name other
IsSameTest tests.Memory tests.Memory = ⊤
IsSameTest one other = ⊥

-- the same answer to a Set
abbrev pub IsSameSet : SetAnswer → SetAnswer → Type 0
IsSameSet sets.Done sets.Done = ⊤
IsSameSet sets.Reboot sets.Reboot = ⊤
IsSameSet (sets.Fault one) (sets.Fault other) = failure_name one ≡ failure_name other
IsSameSet sets.Memory sets.Memory = ⊤
IsSameSet one other = ⊥

-- the same call, of the same resource, with the same answer
abbrev pub IsSameEntry : Entry → Entry → Type 0
IsSameEntry (Tested place answer) (Tested other given) = (place ≡ other) × IsSameTest answer given
IsSameEntry (Set place answer) (Set other given) = (place ≡ other) × IsSameSet answer given
IsSameEntry one other = ⊥

-- each entry is of a resource of the document
abbrev pub HasPlaces : Document → List Entry → Type 0
HasPlaces document trace = All (λ entry. place_of entry < length document.resources) trace

-- Two traces with the same text are the same, entry by entry; so they are where something is printed after the text, as the end of a start
-- and the reports that were tried.
abbrev pub LinesSpellOneTrace : Type 0
LinesSpellOneTrace = (document : Document) (one other : List Entry) (text said more rest : List ℕ) → HasDistinctIds document → HasPlaces document one → HasPlaces document other
    → IsRunText document one text → IsRunText document other said → text ++ more ≡ said ++ rest → AllZip IsSameEntry one other
