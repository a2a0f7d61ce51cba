use Rattle.std.proofs.Common.{◌∙◌, ap, Err, Ok, refl}
use Rattle.node_pull.proofs.GoingOn.{registers_goes_on}
use Rattle.node_pull.proofs.PullRows.{registered}
use Rattle.node_pull.proofs.registering.register_node.Goals as goal

pub returns-in-Ok-clause-registers : goal.returns-in-Ok-clause-registers
returns-in-Ok-clause-registers g c =
    registered c.args.meta.now c.args.server.now c.args.agent c.args.node_name.now c.args.moment _ _ c.deref.result.now (Ok tt) (Ok tt) (c.deref.ensures.value ∙ c.in_ok-names.ensures)
    c.in-Ok.ensures.asks refl

pub returns-clause-registers : goal.returns-clause-registers
returns-clause-registers g c =
    registered c.args.meta.now c.args.server.now c.args.agent c.args.node_name.now c.args.moment _ _ c.deref.result.now (Err c.in-Err.error) _ (c.deref.ensures.value ∙ c.in_ok-names.ensures)
    c.in-Err.ensures.asks (ap Err c.error_of.ensures)

pub returns-clause-goes_on : goal.returns-clause-goes_on
returns-clause-goes_on g c = registers_goes_on c.args.meta.now c.args.server.now c.args.agent c.args.node_name.now c.args.moment _ _ _ (returns-clause-registers g c)
