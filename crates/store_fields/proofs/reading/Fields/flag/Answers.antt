use Rattle.store_fields.proofs.Texts.{flag_missing}
use Rattle.store_fields.proofs.reading.Fields.flag.Goals as goal

pub returns-in-Err-clause-reads : goal.returns-in-Err-clause-reads
returns-in-Err-clause-reads c = flag_missing _ _ _ _ c.in-Err.ensures.reads
