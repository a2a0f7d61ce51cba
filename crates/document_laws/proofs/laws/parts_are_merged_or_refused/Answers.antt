use Rattle.document_laws.proofs.Parts.{merged_or_refused}
use Rattle.document_laws.proofs.laws.parts_are_merged_or_refused.Goals as goal

pub returns : goal.returns
returns c = merged_or_refused c.args.parts.now
