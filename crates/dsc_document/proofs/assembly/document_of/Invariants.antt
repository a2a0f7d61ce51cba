use Rattle.std.proofs.Common.{◌≡◌, filter, filter_map, map}
use Rattle.dsc_document.specs.Declarations.{is_other}
use Rattle.dsc_document.specs.Rules.{resource_at}
use Rattle.dsc_document.proofs.assembly.document_of.Given as goal

abbrev pub invariant-loop-index : goal.invariant-loop-index
invariant-loop-index l = record {
  resources : l.resources.items ≡ filter_map resource_at l.yielded;
  others : l.others.items ≡ filter is_other (map (λ p. p.1) l.yielded);
}
