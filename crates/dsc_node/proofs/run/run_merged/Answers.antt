use Rattle.std.proofs.Common.{◌∙◌, ◌∷◌, inr, refl, ap, arith, length, length-append}
use Rattle.dsc_node.proofs.Runs.{chain_after, ends_as, whole_or_none}
use Rattle.dsc_node.proofs.run.run_merged.Goals as goal

pub returns-in-Err : goal.returns-in-Err
returns-in-Err g c =
    let none = c.reserve.ensures.trace ∙ c.requires.fresh in
    rw none (record {
      legal = λ before e after p. absurd (omega (arith, ap length p, length-append before (e ∷ after)));
      whole = inr refl;
      end = inr refl;
      chain = c.reserve.ensures.still;
      faults = omega (arith, c.reserve.ensures.faults);
      later = omega (arith, c.reserve.ensures.faults);
      bound = λ r. (omega arith, omega arith);
    })

pub returns : goal.returns
returns g c =
    let document = c.args.ordered.now.document in
    record {
      legal = c.run_ordered.ensures.legal;
      whole = whole_or_none document c.args.mode c.args.ordered.now.order c.run_ordered.result _ c.run_ordered.ensures.whole;
      end = ends_as c.args.mode c.run_ordered.result _ c.run_ordered.ensures.end;
      chain = chain_after g.M.Resources.does g.M.Resources.still g.met.M.Resources.still_does g.met.M.Machine.still_still
          document _ c.reserve.new.self _ _ c.reserve.ensures.still c.run_ordered.ensures.chain;
      faults = omega (arith, c.run_ordered.ensures.faults, c.reserve.ensures.faults);
      later = omega (arith, c.run_ordered.ensures.later, c.reserve.ensures.faults);
      bound = c.run_ordered.ensures.bound;
    }
