-- The places of keys, which are lists of bytes.
use Rattle.std.specs.Prelude.{◌≡◌, ℕ, List, ◌++◌, Option, Some, None}
use Rattle.std.specs.BTreeMap.{get_by}
use Rattle.std.specs.Cmp.Lexicographic.{slice_cmp}
use Rattle.std.specs.Ordering.{nat_cmp}
use Rattle.resource_kinds.specs.declared.keys.Keys.{Keys}

-- the place that is kept for a key
unfoldable pub kept_place : Keys → List ℕ → Option ℕ
kept_place keys key = get_by (λ kept. slice_cmp nat_cmp key kept.items) keys.by_key

-- only this key's place has changed
pub record Puts (old new : Keys) (key : List ℕ) (place : ℕ) : Type 0 where
  pub here : kept_place new key ≡ Some place
  pub kept : (other : List ℕ) → (key ≡ other → ⊥) → kept_place new other ≡ kept_place old other

-- the same, where there may be no key
abbrev pub PutsIfAny : Keys → Keys → Option (List ℕ) → ℕ → Type 0
PutsIfAny old new None place = new ≡ old
PutsIfAny old new (Some key) place = Puts old new key place

-- some key that begins with this has a place
abbrev pub AnyBeginsWith : Keys → List ℕ → Type 0
AnyBeginsWith keys front = (rest : List ℕ) × (place : ℕ) × (kept_place keys (front ++ rest) ≡ Some place)
