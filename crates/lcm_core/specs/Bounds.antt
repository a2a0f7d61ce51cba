-- How often a resource is called in a run.
use Rattle.std.specs.Prelude.{ℕ, ◌==◌, ◌≤◌, Bool, false, List, count_by}
use Rattle.dsc_document.specs.declared.document.Document.{Document}
use Rattle.resource_kinds.specs.declared.entry.Entry.{Entry}
use Rattle.resource_kinds.specs.declared.entry.Entry.TheVariants.{Tested, Set}
use Rattle.lcm_core.specs.declared.modes.RunMode.{RunMode}
use Rattle.lcm_core.specs.Legal.{Legal}

abbrev pub is_test_of : ℕ → Entry → Bool
is_test_of r (Tested place answer) = place == r
is_test_of r (Set place answer) = false

abbrev pub is_set_of : ℕ → Entry → Bool
is_set_of r (Tested place answer) = false
is_set_of r (Set place answer) = place == r

-- how many Tests of the resource, and how many Sets
abbrev pub tests_of : List Entry → ℕ → ℕ
tests_of trace r = count_by (is_test_of r) trace

abbrev pub sets_of : List Entry → ℕ → ℕ
sets_of trace r = count_by (is_set_of r) trace

-- at most two Tests of each resource, and one Set
abbrev pub IsBounded : List Entry → Type 0
IsBounded trace = (r : ℕ) → (tests_of trace r ≤ 2) × (sets_of trace r ≤ 1)

abbrev pub LegalIsBounded : Type 0
LegalIsBounded =
    (document : Document) (mode : RunMode) (order : List ℕ) (trace : List Entry) → Legal document mode order trace → IsBounded trace
