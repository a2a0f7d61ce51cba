use Rattle.dsc_node.proofs.SendingLaws.{reports_are_marked_in_order, reports_are_sent_in_order}
use Rattle.dsc_node.proofs.laws.reports_are_sent_in_order.Goals as goal

pub returns-clause-sent : goal.returns-clause-sent
returns-clause-sent c = reports_are_sent_in_order

pub returns-clause-marked : goal.returns-clause-marked
returns-clause-marked c = reports_are_marked_in_order
