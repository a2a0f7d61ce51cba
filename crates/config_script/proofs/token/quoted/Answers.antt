use Rattle.std.proofs.Common.{◌≡◌, ◌∷◌, ◌∙◌, ℕ, ap, arith, false, rules}
use Rattle.std.specs.Prelude.{◌==◌}
use Rattle.std.specs.Str.{chars}
use Rattle.std.proofs.lemmas.Bool.Decides.{nat_tests}
use Rattle.config_script.proofs.Scanned.{quoted_found, quoted_on}
use Rattle.config_script.proofs.token.quoted.Goals as goal

pub returns-in-34 : goal.returns-in-34
returns-in-34 c = quoted_found _ _ _ _ c.loop-c.invariant.1 (c.in-Some.ensures.some ∙ ap (λ (x : ℕ). x ∷ chars c.in-Some.rest.now) c.in-34.is) c.before-in-34.ensures

pub loop-c-preserved : goal.loop-c-preserved
loop-c-preserved c =
    let quote : (c.in-Some.c == 34) ≡ false = grind (arith, nat_tests) in
    let dollar : (c.in-Some.c == 36) ≡ false = grind (arith, nat_tests) in
    let tick : (c.in-Some.c == 96) ≡ false = grind (arith, nat_tests) in
    (search rules, quoted_on _ _ _ _ c.loop-c.invariant.1 c.in-Some.ensures.some quote dollar tick)
