-- Traces: the entries of a run, in order.
use Rattle.std.specs.Prelude.{◌≡◌, ◌==◌, ◌-◌, ℕ, Bool, true, false, IsTrue, List, [], ◌∷◌, ◌++◌, length, Option, Some, None, map, sum_by, count_by, Contains, find, reverse}
use Rattle.dsc_terms.specs.Lists.{places_below}
use Rattle.dsc_document.specs.declared.document.Document.{Document}
use Rattle.resource_kinds.specs.declared.entry.Failure.{Failure}
use Rattle.resource_kinds.specs.declared.entry.Failure.TheVariants.{NoSuchResource, OutOfProfile, BadPath, InTheWay, HostFailed}
use Rattle.resource_kinds.specs.declared.entry.TestAnswer.{TestAnswer}
use Rattle.resource_kinds.specs.declared.entry.TestAnswer.TheVariants as tests
use Rattle.resource_kinds.specs.declared.entry.SetAnswer.{SetAnswer}
use Rattle.resource_kinds.specs.declared.entry.SetAnswer.TheVariants as sets
use Rattle.resource_kinds.specs.declared.entry.Entry.{Entry}
use Rattle.resource_kinds.specs.declared.entry.Entry.TheVariants.{Tested, Set}

-- the resource that an entry is of, by its place in the document
abbrev pub place_of : Entry → ℕ
place_of (Tested place answer) = place
place_of (Set place answer) = place

-- the resource has an entry
abbrev pub HasEntry : List Entry → ℕ → Type 0
HasEntry trace r = Contains (map place_of trace) r

-- the last entry of a resource, where it has one
abbrev pub last_entry : List Entry → ℕ → Option Entry
last_entry trace r = find (λ e. place_of e == r) (reverse trace)

abbrev pub test_is_yes : TestAnswer → Bool
test_is_yes tests.Yes = true
test_is_yes tests.No = false
test_is_yes (tests.Fault failure) = false
test_is_yes tests.Memory = false

abbrev pub entry_is_yes : Entry → Bool
entry_is_yes (Tested place answer) = test_is_yes answer
entry_is_yes (Set place answer) = false

abbrev pub is_yes : Option Entry → Bool
is_yes None = false
is_yes (Some entry) = entry_is_yes entry

-- the last entry of the resource is a test that answered yes
abbrev pub has_succeeded : List Entry → ℕ → Bool
has_succeeded trace r = is_yes (last_entry trace r)

abbrev pub Succeeded : List Entry → ℕ → Type 0
Succeeded trace r = IsTrue (has_succeeded trace r)

-- how many resources of the document succeeded
abbrev pub succeeded_count : Document → List Entry → ℕ
succeeded_count document trace = count_by (has_succeeded trace) (places_below (length document.resources))

-- how many did not
abbrev pub missed_count : Document → List Entry → ℕ
missed_count document trace = length document.resources - succeeded_count document trace

-- each of them succeeded
abbrev pub Compliant : Document → List Entry → Type 0
Compliant document trace = missed_count document trace ≡ 0

abbrev pub EndsWith : List Entry → Entry → Type 0
EndsWith trace e = (front : List Entry) × (trace ≡ front ++ e ∷ [])

-- out of memory
abbrev pub WantsMemory : Entry → Type 0
WantsMemory (Tested place answer) = answer ≡ tests.Memory
WantsMemory (Set place answer) = answer ≡ sets.Memory

-- the last entry is one that ran out of memory
abbrev pub EndsInMemory : List Entry → Type 0
EndsInMemory trace = (e : Entry) × EndsWith trace e × WantsMemory e

-- the last entry is a Set for which the machine wants a reboot
abbrev pub EndsInReboot : List Entry → Type 0
EndsInReboot trace = (r : ℕ) × EndsWith trace (Set r sets.Reboot)

-- nothing follows such an entry: a reboot was asked for, or it ran out of memory
abbrev pub IsFinal : Entry → Type 0
IsFinal (Tested place answer) = answer ≡ tests.Memory
IsFinal (Set place sets.Done) = ⊥
IsFinal (Set place sets.Reboot) = Unit {0}
IsFinal (Set place (sets.Fault f)) = ⊥
IsFinal (Set place sets.Memory) = Unit {0}

-- 1 where the failure is the host's
abbrev pub host_failure : Failure → ℕ
host_failure NoSuchResource = 0
host_failure (OutOfProfile name) = 0
host_failure BadPath = 0
host_failure InTheWay = 0
host_failure HostFailed = 1

abbrev pub test_failures : TestAnswer → ℕ
test_failures tests.Yes = 0
test_failures tests.No = 0
test_failures (tests.Fault f) = host_failure f
test_failures tests.Memory = 0

abbrev pub set_failures : SetAnswer → ℕ
set_failures sets.Done = 0
set_failures sets.Reboot = 0
set_failures (sets.Fault f) = host_failure f
set_failures sets.Memory = 0

abbrev pub entry_failures : Entry → ℕ
entry_failures (Tested place answer) = test_failures answer
entry_failures (Set place answer) = set_failures answer

-- how many entries say that the host failed
abbrev pub host_failures : List Entry → ℕ
host_failures trace = sum_by entry_failures trace

-- the states along a trace: each entry is one step, and after the last one nothing changes but what `still` allows
abbrev pub Chain : {S : Type 0} → (S → Document → Entry → S → Type 0) → (S → S → Type 0) → Document → S → List Entry → S → Type 0
Chain does still document before [] after = still before after
Chain {S} does still document before (e ∷ es) after = (mid : S) × does before document e mid × Chain does still document mid es after
