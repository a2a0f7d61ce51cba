use Rattle.node_store.proofs.Reported.{no_reason}
use Rattle.node_store.proofs.reports.read_reason.Goals as goal

pub returns-in-Err-clause-reads : goal.returns-in-Err-clause-reads
returns-in-Err-clause-reads c = no_reason _ _ _ _ c.in-Err.ensures.reads
