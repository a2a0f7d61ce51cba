use Rattle.document_laws.proofs.Excluded.{read_not_refused}
use Rattle.document_laws.proofs.laws.what_is_read_is_not_refused.Goals as goal

pub returns : goal.returns
returns c = read_not_refused
