-- The turn of a resource in a repair.
use Rattle.std.specs.Prelude.{◌≡◌, ◌≢◌, ◌⊎◌, ℕ, ◌+◌, ◌≤◌, Bool, false, List, [], ◌∷◌, ◌++◌, get_or, length, Result, Ok, Err}
use Rattle.std.specs.List.{list_all}
use Rattle.dsc_terms.specs.Counts.{RoseBy}
use Rattle.dsc_document.specs.declared.document.Document.{Document}
use Rattle.lcm_core.specs.declared.turns.Stop.{Stop}
use Rattle.lcm_core.specs.declared.turns.Stop.TheVariants as stops
use Rattle.resource_kinds.specs.declared.entry.TestAnswer.{TestAnswer}
use Rattle.resource_kinds.specs.declared.entry.TestAnswer.TheVariants as tests
use Rattle.resource_kinds.specs.declared.entry.SetAnswer.{SetAnswer}
use Rattle.resource_kinds.specs.declared.entry.SetAnswer.TheVariants as sets
use Rattle.resource_kinds.specs.declared.entry.Entry.{Entry}
use Rattle.resource_kinds.specs.declared.entry.Entry.TheVariants.{Tested, Set}
use Rattle.resource_kinds.specs.Trace.{Chain, EndsInMemory, EndsWith, IsFinal, WantsMemory, entry_is_yes, host_failures}
use Rattle.lcm_core.specs.Legal.{GoesOn}

-- one Test, of another answer than no
pub record IsTested (r : ℕ) (turn : List Entry) : Type 0 where
  pub answer : TestAnswer
  pub other : answer ≢ tests.No
  pub is : turn ≡ Tested r answer ∷ []

-- a Test that answered no, and one Set, which was not done
pub record IsSetInVain (r : ℕ) (turn : List Entry) : Type 0 where
  pub answer : SetAnswer
  pub other : answer ≢ sets.Done
  pub is : turn ≡ Tested r tests.No ∷ Set r answer ∷ []

-- a Test that answered no, a Set that was done, and the second Test
pub record IsTestedAgain (r : ℕ) (turn : List Entry) : Type 0 where
  pub answer : TestAnswer
  pub is : turn ≡ Tested r tests.No ∷ Set r sets.Done ∷ Tested r answer ∷ []

-- the resource is tested, set where it does not hold, and tested again where it was set
abbrev pub IsTurn : ℕ → List Entry → Type 0
IsTurn r turn = IsTested r turn ⊎ (IsSetInVain r turn ⊎ IsTestedAgain r turn)

-- what the last entry of a turn shows: whether the resource succeeded, or why the run stops
abbrev pub Shows : Entry → Result Bool Stop → ℕ → Type 0
Shows last (Ok held) r = (held ≡ entry_is_yes last) × (IsFinal last → ⊥)
Shows last (Err (stops.RebootAsked place)) r = (place ≡ r) × (last ≡ Set r sets.Reboot)
Shows last (Err stops.Memory) r = WantsMemory last

-- how the turns end: all were taken, or the last entry shows why not
abbrev pub IsStop : Result (Unit {0}) Stop → List Entry → Type 0
IsStop (Ok done) trace = GoesOn trace
IsStop (Err (stops.RebootAsked r)) trace = EndsWith trace (Set r sets.Reboot)
IsStop (Err stops.Memory) trace = EndsInMemory trace

-- each of the places is marked
abbrev pub all_held : List Bool → List ℕ → Bool
all_held held places = list_all (λ q. get_or held q false) places

-- the entries of a turn are after those that were there, by steps from the one value to the other
pub record TookTurn {S : Type 0} (trace : S → List Entry) (spare : S → ℕ) (does : S → Document → Entry → S → Type 0) (still : S → S → Type 0) (faults : S → ℕ)
    (document : Document) (r : ℕ) (before after : S) (result : Result Bool Stop) : Type 0 where
  pub turn : List Entry
  pub is_turn : IsTurn r turn
  pub follows : trace after ≡ trace before ++ turn
  pub last : Entry
  pub ends : EndsWith turn last
  pub shows : Shows last result r
  pub chain : Chain does still document before turn after
  pub failures : RoseBy (host_failures turn) (faults before) (faults after)
  pub later : faults before ≤ faults after
  pub capacity : spare before ≤ spare after + length turn

-- the same of what follows the first Test, which answered no
pub record TookRest {S : Type 0} (trace : S → List Entry) (spare : S → ℕ) (does : S → Document → Entry → S → Type 0) (still : S → S → Type 0) (faults : S → ℕ)
    (document : Document) (r : ℕ) (before after : S) (result : Result Bool Stop) : Type 0 where
  pub rest : List Entry
  pub is_turn : IsTurn r (Tested r tests.No ∷ rest)
  pub follows : trace after ≡ trace before ++ rest
  pub last : Entry
  pub ends : EndsWith rest last
  pub shows : Shows last result r
  pub chain : Chain does still document before rest after
  pub failures : RoseBy (host_failures rest) (faults before) (faults after)
  pub later : faults before ≤ faults after
  pub capacity : spare before ≤ spare after + length rest
