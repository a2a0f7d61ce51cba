use Rattle.node_store.proofs.Heads.{no_stage}
use Rattle.node_store.proofs.reading.read_stage.Goals as goal

pub returns-in-Err : goal.returns-in-Err
returns-in-Err c = no_stage _ _ _ _ c.in-Err.ensures.reads
