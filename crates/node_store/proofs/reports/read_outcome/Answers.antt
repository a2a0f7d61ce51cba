use Rattle.node_store.proofs.Reported.{no_outcome}
use Rattle.node_store.proofs.reports.read_outcome.Goals as goal

pub returns-in-Err-clause-reads : goal.returns-in-Err-clause-reads
returns-in-Err-clause-reads c = no_outcome _ _ _ _ c.in-Err.ensures.reads
