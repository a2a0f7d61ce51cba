-- How the code finds resources that meet: by a key of what each is about.
use Rattle.std.specs.Prelude.{◌≡◌, ℕ, List, [], ◌∷◌, ◌++◌, Option, Some, None, option_map}
use Rattle.resource_kinds.specs.declared.keys.Keys.{Keys}
use Rattle.resource_kinds.specs.declared.wanted.Wanted.{Wanted}
use Rattle.resource_kinds.specs.Apart.{Target, Path, Variable, LogEntry, closed_path, target_of}
use Rattle.resource_kinds.specs.Keys.{AnyBeginsWith}

-- a target as a key; of two targets the keys differ
abbrev pub entry_key : List ℕ → List ℕ → List ℕ
entry_key [] message = 1 ∷ message
entry_key (b ∷ bs) message = 0 ∷ b ∷ entry_key bs message

abbrev pub target_key : Target → List ℕ
target_key (Path path) = 0 ∷ path
target_key (Variable name) = 1 ∷ name
target_key (LogEntry id message) = 2 ∷ entry_key id message

abbrev pub key_if_any : Option Wanted → Option (List ℕ)
key_if_any wanted = option_map (λ w. target_key (target_of w)) wanted

-- the key of a path below this one has a place
abbrev pub HasBelow : Keys → List ℕ → Type 0
HasBelow keys path = AnyBeginsWith keys ((0 ∷ path) ++ 47 ∷ [])

abbrev pub HasBelowIfAny : Keys → Option (List ℕ) → Type 0
HasBelowIfAny keys None = ⊥
HasBelowIfAny keys (Some path) = HasBelow keys path

-- something has a place that is about a path below the one at which no folder is asked for
abbrev pub HasInside : Keys → Option Wanted → Type 0
HasInside keys None = ⊥
HasInside keys (Some wanted) = HasBelowIfAny keys (closed_path wanted)
