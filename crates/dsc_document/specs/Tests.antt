-- One rule at a time.
use Rattle.std.specs.Prelude.{◌≡◌, ◌≢◌, ℕ, ◌<◌, ◌≤◌, List, ◌∷◌, ◌++◌, All, Contains, None, is_some, IsTrue, Result, MatchResult}
use Rattle.mof_values.specs.declared.instance.Instance.{Instance}
use Rattle.mof_values.specs.declared.value.Scalar.{Scalar}
use Rattle.mof_values.specs.declared.value.Scalar.TheVariants.{Alias}
use Rattle.dsc_document.specs.Declarations.{is_header}
use Rattle.dsc_document.specs.Places.{place_of}
use Rattle.dsc_document.specs.Rules.{HasAt, Applies, rule_of, indexes_of, StandsBefore}
use Rattle.dsc_document.specs.declared.places.Places.{Places}
use Rattle.dsc_document.specs.declared.error.DocError.{DocError}
use Rattle.dsc_document.specs.declared.error.DocError.TheVariants.{Memory}

abbrev pub NoneApplies : ℕ → List Instance → Type 0
NoneApplies rule instances = (refusal : DocError) → rule_of refusal ≡ rule → Applies instances refusal → ⊥

abbrev pub KeepsUpTo : ℕ → List Instance → Type 0
KeepsUpTo rule instances = (refusal : DocError) → rule_of refusal ≤ rule → Applies instances refusal → ⊥

-- the refusal applies, and none of its rule at an earlier index does
pub record IsFirstOf (rule : ℕ) (instances : List Instance) (refusal : DocError) : Type 0 where
  pub is : rule_of refusal ≡ rule
  pub applies : Applies instances refusal
  pub first : (other : DocError) → rule_of other ≡ rule → StandsBefore (indexes_of other) (indexes_of refusal) → Applies instances other → ⊥

-- the rule was tested
abbrev pub Tests : {T : Type 0} → ℕ → List Instance → Result T DocError → Type 0
Tests rule instances result =
    MatchResult result (λ _. NoneApplies rule instances) (λ refusal. refusal ≢ Memory → IsFirstOf rule instances refusal)

-- ---- what the tests find on their way

-- the scalars hold an alias that has no place
abbrev pub HoldsUnplaced : Places → List Scalar → Type 0
HoldsUnplaced places scalars = (alias : List ℕ) × Contains scalars (Alias alias) × (place_of places alias ≡ None)

abbrev pub IsHeaderAt : List Instance → ℕ → Type 0
IsHeaderAt instances index = HasAt instances index (λ i. IsTrue (is_header i))

-- the first header at a place or after it
pub record IsNextHeader (instances : List Instance) (from index : ℕ) : Type 0 where
  pub not_before : from ≤ index
  pub header : IsHeaderAt instances index
  pub first : (k : ℕ) → from ≤ k → k < index → IsHeaderAt instances k → ⊥

-- each of the names has a place
abbrev pub ArePlaced : Places → List (List ℕ) → Type 0
ArePlaced places names = All (λ n. IsTrue (is_some (place_of places n))) names

-- the first of the names that has no place
abbrev pub IsFirstUnplaced : Places → List (List ℕ) → List ℕ → Type 0
IsFirstUnplaced places names name =
    (known : List (List ℕ)) × (rest : List (List ℕ)) × (names ≡ known ++ name ∷ rest)
    × ArePlaced places known × (place_of places name ≡ None)
