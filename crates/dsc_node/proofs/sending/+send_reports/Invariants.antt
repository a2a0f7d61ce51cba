use Rattle.dsc_node.specs.Sending.{unsent_count}
use Rattle.dsc_node.proofs.sending.+send_reports.Given as goal

abbrev pub decreases-send_reports : goal.decreases-send_reports
decreases-send_reports g l = unsent_count l.store.now.node
