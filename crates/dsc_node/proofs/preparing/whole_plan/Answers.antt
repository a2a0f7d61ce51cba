use Rattle.dsc_node.proofs.preparing.whole_plan.Goals as goal

pub returns-clause-ok : goal.returns-clause-ok
returns-clause-ok c =
    let pushed = c.in_ok-staged in
    record { staged = pushed.staged; document = pushed.document; parts = pushed.ensures.ok; merged = pushed.ensures.document; is = c.runs.ensures }
