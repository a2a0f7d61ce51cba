-- The places of names that compare by fold.
use Rattle.std.specs.Prelude.{◌≡◌, ◌↔◌, ℕ, List, Option, Some, None, option_and_then, IsTrue, is_some}
use Rattle.std.specs.BTreeMap.{get_by}
use Rattle.std.specs.Cmp.Lexicographic.{slice_cmp}
use Rattle.std.specs.Ordering.{nat_cmp}
use Rattle.mof_values.specs.Fold.{fold_case, SameName}
use Rattle.dsc_document.specs.Names.{IsName}
use Rattle.dsc_document.specs.declared.places.Places.{Places}

-- the place that is kept for a name
unfoldable pub place_of : Places → List ℕ → Option ℕ
place_of places name = get_by (λ kept. slice_cmp nat_cmp (fold_case name) kept.items) places.by_fold

-- the place of a name, where there is a name
abbrev pub place_of_any : Places → Option (List ℕ) → Option ℕ
place_of_any places name = option_and_then (place_of places) name

-- only this name's place has changed
pub record Puts (old new : Places) (name : List ℕ) (place : ℕ) : Type 0 where
  pub here : (other : List ℕ) → SameName name other → place_of new other ≡ Some place
  pub kept : (other : List ℕ) → (SameName name other → ⊥) → place_of new other ≡ place_of old other

-- the same, where there may be no name
abbrev pub PutsIfAny : Places → Places → Option (List ℕ) → ℕ → Type 0
PutsIfAny old new None place = new ≡ old
PutsIfAny old new (Some name) place = Puts old new name place

-- the names that have a place are those of a list
abbrev pub HoldsNames : (ℕ → Option (List ℕ)) → Places → Type 0
HoldsNames name_at places = (name : List ℕ) → IsTrue (is_some (place_of places name)) ↔ IsName name_at name
