use Rattle.node_pull.proofs.GoingOn.{asks_goes_on}
use Rattle.node_pull.proofs.reporting.send_report.Goals as goal

pub returns-clause-goes_on : goal.returns-clause-goes_on
returns-clause-goes_on g c = asks_goes_on c.args.server.now _ _ _ _ c.report.result c.report.ensures.asks
