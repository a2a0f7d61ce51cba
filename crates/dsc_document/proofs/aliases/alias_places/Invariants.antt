use Rattle.dsc_document.specs.Rules.{alias_at}
use Rattle.dsc_document.proofs.Indexes.{Indexes}
use Rattle.dsc_document.proofs.aliases.alias_places.Given as goal

abbrev pub invariant-loop-second : goal.invariant-loop-second
invariant-loop-second l = Indexes (alias_at l.instances) l.second l.places
