use Rattle.document_laws.proofs.Rules.{document_kept_or_broken, part_kept_or_broken}
use Rattle.document_laws.proofs.laws.instances_keep_the_rules_or_break_one.Goals as goal

pub returns : goal.returns
returns c = record { part = part_kept_or_broken; document = document_kept_or_broken }
