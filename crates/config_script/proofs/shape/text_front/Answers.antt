use Rattle.std.proofs.Common.{◌≡◌, true, arith}
use Rattle.std.specs.Prelude.{◌==◌}
use Rattle.std.proofs.lemmas.Bool.Decides.{nat_tests}
use Rattle.config_script.proofs.Texts.{apostrophe_front}
use Rattle.config_script.proofs.shape.text_front.Goals as goal

pub returns-in-Some-eq39-default : goal.returns-in-Some-eq39-default
returns-in-Some-eq39-default c =
    let test = c.in-Some-eq39-default.field-0-0-test in
    let is : (c.in-Some-eq39-default.field-0-0 == 39) ≡ true = grind (arith, nat_tests) in
    apostrophe_front _ _ _ c.in-Some-eq39-default.ensures.some is
