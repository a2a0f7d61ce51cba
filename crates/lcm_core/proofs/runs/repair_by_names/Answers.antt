use Rattle.std.proofs.Common.{◌∷◌, ap, arith, length, length-append, sym, ◌∙◌}
use Rattle.lcm_core.proofs.runs.repair_by_names.Goals as goal

pub returns-in-Err-clause-legal : goal.returns-in-Err-clause-legal
returns-in-Err-clause-legal g c = λ before e after p. absurd (omega (arith, ap length (sym c.requires.fresh ∙ p), length-append before (e ∷ after)))
