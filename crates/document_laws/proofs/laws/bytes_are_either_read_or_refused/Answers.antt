use Rattle.document_laws.proofs.Reading.{read_or_refused}
use Rattle.document_laws.proofs.laws.bytes_are_either_read_or_refused.Goals as goal

pub returns : goal.returns
returns c = read_or_refused
