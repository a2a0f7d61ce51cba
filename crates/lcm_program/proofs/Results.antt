-- Facts about what a result or an option holds.
use Rattle.std.proofs.Common.{◌≡◌, Option, Some, None, Result, Ok, Err, refl}
use Rattle.std.specs.Prelude.{OnOk}

pub on_ok_weaker : {A E : Type 0} (r : Result A E) (P Q : Type 0) → (P → Q) → OnOk r P → OnOk r Q
on_ok_weaker (Ok x) P Q step h = step h
on_ok_weaker (Err e) P Q step h = tt

-- what is no `Some` is `None`
pub none_of : {X : Type 0} (o : Option X) → ((u : X) × (o ≡ Some u) → ⊥) → o ≡ None
none_of None h = refl
none_of (Some u) h = absurd (h (u, refl))
