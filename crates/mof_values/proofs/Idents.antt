-- Texts that are too long for an identifier.
use Rattle.std.proofs.Common.{◌≡◌, ◌<◌, ◌&&◌, ℕ, Bool, true, false, List, [], ◌∷◌, length, refl, arith}
use Rattle.std.specs.Prelude.{nat_le}
use Rattle.std.specs.List.{list_all}
use Rattle.std.proofs.lemmas.Bool.Decides.{nat_tests}
use Rattle.mof_values.specs.Ident.{is_first, is_next, is_ident}
use Rattle.mof_values.specs.declared.limits.TheConstants.{MAX_IDENTIFIER}

no_last : (a : Bool) → (a && false) ≡ false
no_last true = refl
no_last false = refl

pub long_is_no_ident : (cs : List ℕ) → MAX_IDENTIFIER < length cs → is_ident cs ≡ false
long_is_no_ident [] long = refl
long_is_no_ident (c ∷ cs) long =
    let too_long : nat_le (length (c ∷ cs)) MAX_IDENTIFIER ≡ false = grind (arith, nat_tests) in
    rw too_long (no_last (is_first c && list_all is_next cs))
