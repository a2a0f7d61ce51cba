-- Lists of scalar values.
use Rattle.std.proofs.Common.{◌≡◌, ℕ, List, [], ◌∷◌, ◌++◌, Bool, true, false, ◌&&◌, refl}
use Rattle.std.proofs.Math.Utf8.{scalar}
use Rattle.std.specs.Str.{all_scalars}

pub both : (a b : Bool) → a && b ≡ true → (a ≡ true) × (b ≡ true)
both true b is = (refl, is)
both false b is = cc is

pub scalars_end : (a b : List ℕ) → all_scalars (a ++ b) ≡ true → all_scalars b ≡ true
scalars_end [] b is = is
scalars_end (x ∷ a) b is = scalars_end a b (both (scalar x) (all_scalars (a ++ b)) is).1

pub scalars_front : (a b : List ℕ) → all_scalars (a ++ b) ≡ true → all_scalars a ≡ true
scalars_front [] b is = refl
scalars_front (x ∷ a) b is = let parts = both (scalar x) (all_scalars (a ++ b)) is in rw (parts.0, scalars_front a b parts.1) refl

pub scalars_join : (a b : List ℕ) → all_scalars a ≡ true → all_scalars b ≡ true → all_scalars (a ++ b) ≡ true
scalars_join [] b first second = second
scalars_join (x ∷ a) b first second = let parts = both (scalar x) (all_scalars a) first in rw (parts.0, scalars_join a b parts.1 second) refl
