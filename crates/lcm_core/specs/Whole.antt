-- What a run leaves out of a trace: nothing that it could do.
use Rattle.std.specs.Prelude.{◌≡◌, ℕ, List, [], ◌∷◌, ◌++◌, Contains}
use Rattle.dsc_terms.specs.Lists.{Precedes}
use Rattle.dsc_document.specs.declared.document.Document.{Document}
use Rattle.lcm_core.specs.declared.modes.RunMode.{RunMode}
use Rattle.lcm_core.specs.declared.modes.RunMode.TheVariants.{Repair}
use Rattle.resource_kinds.specs.declared.entry.TestAnswer.TheVariants as tests
use Rattle.resource_kinds.specs.declared.entry.SetAnswer.TheVariants as sets
use Rattle.resource_kinds.specs.declared.entry.Entry.{Entry}
use Rattle.resource_kinds.specs.declared.entry.Entry.TheVariants.{Tested, Set}
use Rattle.resource_kinds.specs.Trace.{HasEntry, EndsWith, IsFinal, place_of}
use Rattle.lcm_core.specs.Legal.{IsReady}

-- where the trace ends with a reboot asked for, or with memory refused, only the resources before that one are asked of it
abbrev pub IsReached : List ℕ → List Entry → ℕ → Type 0
IsReached order trace r = (e : Entry) → EndsWith trace e → IsFinal e → Precedes order r (place_of e)

abbrev pub BeginsWithTest : List Entry → ℕ → Type 0
BeginsWithTest [] r = ⊥
BeginsWithTest (Tested place answer ∷ es) r = place ≡ r
BeginsWithTest (Set place answer ∷ es) r = ⊥

abbrev pub BeginsWithSet : List Entry → ℕ → Type 0
BeginsWithSet [] r = ⊥
BeginsWithSet (Tested place answer ∷ es) r = ⊥
BeginsWithSet (Set place answer ∷ es) r = place ≡ r

pub record Whole (document : Document) (mode : RunMode) (order : List ℕ) (trace : List Entry) : Type 0 where
  -- each resource has an entry, in a repair where its dependencies succeeded
  pub tested : (r : ℕ) → Contains order r → IsReached order trace r → IsReady document mode trace r → HasEntry trace r
  -- what was set is tested again
  pub again : (before : List Entry) (r : ℕ) (after : List Entry) → IsReached order trace r → trace ≡ before ++ Set r sets.Done ∷ after → BeginsWithTest after r
  -- in a repair what does not hold is set
  pub repaired : (before : List Entry) (r : ℕ) (after : List Entry) → mode ≡ Repair → IsReached order trace r → trace ≡ before ++ Tested r tests.No ∷ after → (HasEntry before r → ⊥) → BeginsWithSet after r
