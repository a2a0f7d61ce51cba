-- What a claim claims, character by character.
use Rattle.std.proofs.Common.{◌≡◌, ℕ, Bool, true, false, List, [], ◌∷◌, refl, sym, ◌∙◌}
use Rattle.std.specs.Prelude.{if◌then◌else◌}
use Rattle.std.specs.List.{list_any}
use Rattle.node_state.specs.Fits.{claimed, is_backslash}

-- the type of what is left, or what stood after the last backslash before it
abbrev pub type_or : List ℕ → List ℕ → List ℕ
type_or left after = if list_any is_backslash left then claimed left else after

claimed_plain : (claim : List ℕ) → type_or claim claim ≡ claimed claim
claimed_plain [] = refl
claimed_plain (c ∷ claim) = by (list_any is_backslash (c ∷ claim)) refl
  where
    by : (b : Bool) → list_any is_backslash (c ∷ claim) ≡ b → type_or (c ∷ claim) (c ∷ claim) ≡ claimed (c ∷ claim)
    by true is = rw is refl
    by false is = rw is refl

pub type_first : (claim : List ℕ) → claimed claim ≡ type_or claim claim
type_first claim = sym (claimed_plain claim)

pub type_next : (c : ℕ) (rest after : List ℕ) → type_or (c ∷ rest) after ≡ type_or rest (if is_backslash c then rest else after)
type_next c rest after = by (is_backslash c) (list_any is_backslash rest) refl refl
  where
    by : (b more : Bool) → is_backslash c ≡ b → list_any is_backslash rest ≡ more → type_or (c ∷ rest) after ≡ type_or rest (if is_backslash c then rest else after)
    by true true is has = rw (is, has) refl
    by true false is has = rw (is, has) (sym (claimed_plain rest) ∙ rw has refl)
    by false true is has = rw (is, has) refl
    by false false is has = rw (is, has) refl
