use Rattle.node_store.proofs.Sizes.{event_fits, front_small}
use Rattle.node_store.proofs.laws.bodies_fit.Goals as goal

pub returns-clause-events : goal.returns-clause-events
returns-clause-events c = event_fits

pub returns-clause-fronts : goal.returns-clause-fronts
returns-clause-fronts c = λ agent node sound digests.
    let small = front_small agent node sound digests in
    record { capacity = small.0; fit = small.1 }
