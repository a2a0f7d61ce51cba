-- Which arguments are taken, and which are refused.
use Rattle.std.specs.Prelude.{◌≡◌, ◌≢◌, ◌⊎◌, ◌<◌, ◌≤◌, ℕ, List, [], ◌∷◌, ◌++◌, All, codes, Some, length, slice_index}
use Rattle.std.specs.Fmt.{decimal}
use Rattle.clap.specs.Words.{fault_of}
use Rattle.serve_words.specs.declared.command.TheConstants.{MAX_CONNECTIONS}
use Rattle.serve_words.specs.Words.{SpellsCount, serve_app, value_of}

-- ---- the eight arguments

abbrev pub eight_words : List ℕ → List ℕ → List ℕ → List ℕ → List (List ℕ)
eight_words store shelf listen connections =
    codes "--store" ∷ store ∷ codes "--shelf" ∷ shelf ∷ codes "--listen" ∷ listen ∷ codes "--connections" ∷ connections ∷ []

-- the arguments are taken and give these values
pub record Give (arguments : List (List ℕ)) (store shelf listen : List ℕ) (connections : ℕ) : Type 0 where
  pub taken : fault_of serve_app arguments ≡ []
  pub store_is : value_of (codes "store") arguments ≡ Some store
  pub shelf_is : value_of (codes "shelf") arguments ≡ Some shelf
  pub listen_is : value_of (codes "listen") arguments ≡ Some listen
  pub connections_is : (text : List ℕ) × (value_of (codes "connections") arguments ≡ Some text) × SpellsCount text connections

-- not empty, and not begun by a hyphen (45)
abbrev pub IsPlain : List ℕ → Type 0
IsPlain text = (0 < length text) × (slice_index text 0 ≢ 45)

abbrev pub EightWordsAreTaken : Type 0
EightWordsAreTaken =
    (store shelf listen : List ℕ) (count : ℕ) → IsPlain store → IsPlain shelf → IsPlain listen → 1 ≤ count → count ≤ MAX_CONNECTIONS
    → Give (eight_words store shelf listen (decimal count)) store shelf listen count

-- ---- arguments without an option

abbrev pub IsOption : List ℕ → Type 0
IsOption name = (name ≡ codes "store") ⊎ (name ≡ codes "shelf") ⊎ (name ≡ codes "listen") ⊎ (name ≡ codes "connections")

-- the argument is `--name`, or `--name=` and a value; 61 is `=`
abbrev pub Names : List ℕ → List ℕ → Type 0
Names name word = (word ≡ codes "--" ++ name) ⊎ ((value : List ℕ) × (word ≡ codes "--" ++ name ++ 61 ∷ value))

abbrev pub WordsThatLackAnOptionAreRefused : Type 0
WordsThatLackAnOptionAreRefused =
    (name : List ℕ) (arguments : List (List ℕ)) → IsOption name → All (λ word. Names name word → ⊥) arguments
    → fault_of serve_app arguments ≢ []

-- ---- a number out of range

abbrev pub NumbersOutOfRangeAreRefused : Type 0
NumbersOutOfRangeAreRefused =
    (text : List ℕ) (before after : List (List ℕ)) → ((count : ℕ) → SpellsCount text count → ⊥)
    → (fault_of serve_app (before ++ codes "--connections" ∷ text ∷ after) ≢ [])
    × (fault_of serve_app (before ++ (codes "--connections=" ++ text) ∷ after) ≢ [])
