use Rattle.dsc_document.proofs.Indexes.{Indexes}
use Rattle.partial_merge.specs.Parts.{part_name_at}
use Rattle.partial_merge.proofs.part_names.check_names.Given as goal

abbrev pub invariant-loop-second : goal.invariant-loop-second
invariant-loop-second l = Indexes (part_name_at l.parts) l.second l.places
