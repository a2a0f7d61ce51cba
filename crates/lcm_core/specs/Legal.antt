-- Which traces a run may leave: the Test and Set of the Local Configuration Manager.
use Rattle.std.specs.Prelude.{◌≡◌, ◌⊎◌, ℕ, ◌<◌, List, ◌∷◌, ◌++◌, length, Contains}
use Rattle.dsc_terms.specs.Lists.{Precedes}
use Rattle.dsc_document.specs.declared.document.Document.{Document}
use Rattle.dsc_document.specs.Dependencies.{IsDependency}
use Rattle.lcm_core.specs.declared.modes.RunMode.{RunMode}
use Rattle.lcm_core.specs.declared.modes.RunMode.TheVariants.{Repair}
use Rattle.resource_kinds.specs.declared.entry.TestAnswer.TheVariants as tests
use Rattle.resource_kinds.specs.declared.entry.SetAnswer.TheVariants as sets
use Rattle.resource_kinds.specs.declared.entry.Entry.{Entry}
use Rattle.resource_kinds.specs.declared.entry.Entry.TheVariants.{Tested, Set}
use Rattle.resource_kinds.specs.Trace.{HasEntry, EndsWith, IsFinal, Succeeded}

-- a repair waits for the dependencies: the last entry of each is a test that answered yes
abbrev pub IsReady : Document → RunMode → List Entry → ℕ → Type 0
IsReady document mode before r = mode ≡ Repair → (q : ℕ) → IsDependency document r q → Succeeded before q

-- no entry was the last of its run
abbrev pub GoesOn : List Entry → Type 0
GoesOn before = (e : Entry) → EndsWith before e → IsFinal e → ⊥

-- the first entry of r: it stands in the order, and every resource that has an entry stands before it there
pub record IsFirstTest (order : List ℕ) (before : List Entry) (r : ℕ) : Type 0 where
  pub listed : Contains order r
  pub once : HasEntry before r → ⊥
  pub in_order : (q : ℕ) → HasEntry before q → Precedes order q r

-- r may be tested after these entries: first in its turn, and again directly after its Set was done
pub record MayTest (document : Document) (mode : RunMode) (order : List ℕ) (before : List Entry) (r : ℕ) : Type 0 where
  pub is_place : r < length document.resources
  pub in_turn : IsFirstTest order before r ⊎ EndsWith before (Set r sets.Done)
  pub ready : IsReady document mode before r
  pub goes_on : GoesOn before

-- r may be set after these entries: in a repair, directly after its Test answered no, and once
pub record MaySet (document : Document) (mode : RunMode) (before : List Entry) (r : ℕ) : Type 0 where
  pub is_place : r < length document.resources
  pub repairs : mode ≡ Repair
  pub after_no : EndsWith before (Tested r tests.No)
  pub once : (front : List Entry) (answer : _) (rest : List Entry) → before ≡ front ++ Set r answer ∷ rest → ⊥
  pub ready : IsReady document mode before r
  pub goes_on : GoesOn before

abbrev pub MayFollow : Document → RunMode → List ℕ → List Entry → Entry → Type 0
MayFollow document mode order before (Tested r answer) = MayTest document mode order before r
MayFollow document mode order before (Set r answer) = MaySet document mode before r

-- each entry may stand where it stands
abbrev pub Legal : Document → RunMode → List ℕ → List Entry → Type 0
Legal document mode order trace = (before : List Entry) (e : Entry) (after : List Entry) → trace ≡ before ++ e ∷ after → MayFollow document mode order before e
