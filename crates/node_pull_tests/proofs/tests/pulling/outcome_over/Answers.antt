use Rattle.node_pull_tests.proofs.tests.pulling.outcome_over.Goals as goal

pub of_node-requires-clause-meta : goal.of_node-requires-clause-meta
of_node-requires-clause-meta g c = record { is = c.requires; ordered = (c.in-Ok.field-0.items, c.in-Ok.ensures.order) }
