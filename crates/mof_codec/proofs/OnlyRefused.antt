-- Text that spells no instances is read as none.
use Rattle.std.proofs.Common.{ℕ, List, subst}
use Rattle.mof_values.specs.declared.instance.Instance.{Instance}
use Rattle.mof_syntax.specs.Encodings.{Chars}
use Rattle.mof_syntax.specs.Limits.{Spells}
use Rattle.mof_syntax.specs.Refusals.{Reads}
use Rattle.mof_syntax.proofs.Decoded.{one_text}

pub no_instances : (bytes text : List ℕ) → Chars bytes text → ((is : List Instance) → Spells text is → ⊥)
    → (is : List Instance) → Reads bytes is → ⊥
no_instances bytes text chars none is r =
    none is (subst (λ (cs : List ℕ). Spells cs is) (one_text bytes r.text text r.decoded chars) r.spelled)
