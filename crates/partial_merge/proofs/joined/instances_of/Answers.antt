use Rattle.std.proofs.Common.{refl, rules, ◌≢◌}
use Rattle.mof_syntax.specs.declared.mof_error.MofError.TheVariants.{Memory}
use Rattle.partial_merge.proofs.joined.instances_of.Goals as goal

pub returns-in-Err : goal.returns-in-Err
returns-in-Err c =
    let caused : c.in-Err.refusal ≢ Memory = search rules in
    record {
      spelled = tt;
      few = tt;
      refused = (refl, record { caused = caused; unspelled = c.in-Err.ensures.only caused; refused = c.in-Err.ensures.refused });
    }
