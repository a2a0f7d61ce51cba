use Rattle.lcm_core.proofs.Bounded.{at_most}
use Rattle.lcm_core.proofs.Compliance.{compliant_hold}
use Rattle.lcm_core.proofs.Successes.{legal_ends}
use Rattle.lcm_core.proofs.Traces.{legal_places}
use Rattle.lcm_core.proofs.laws.trace_laws.Goals as goal

pub returns : goal.returns
returns c = record {
  known = legal_places;
  ends_at_yes = legal_ends;
  bounded = λ document mode order trace legal r. at_most document mode order trace r legal;
  together = compliant_hold c.set_laws.ensures.succeeded;
}
