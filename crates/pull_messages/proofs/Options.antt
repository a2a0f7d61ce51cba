-- Values that may be absent.
use Rattle.std.proofs.Common.{◌≡◌, Option, Some, None, refl}

-- what is no `Some` is `None`
pub none_of : {X : Type 0} (o : Option X) → ¬ ((u : X) × (o ≡ Some u)) → o ≡ None
none_of None h = refl
none_of (Some u) h = absurd (h (u, refl))
