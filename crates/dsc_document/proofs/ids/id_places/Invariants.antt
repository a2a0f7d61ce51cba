use Rattle.dsc_document.specs.Rules.{id_at}
use Rattle.dsc_document.proofs.Indexes.{Indexes}
use Rattle.dsc_document.proofs.ids.id_places.Given as goal

abbrev pub invariant-loop-second : goal.invariant-loop-second
invariant-loop-second l = Indexes (id_at l.instances) l.second l.places
