use Rattle.std.proofs.Common.{◌≤◌, ◌+◌, length, take}
use Rattle.depend_order.specs.Documents.{names_in}
use Rattle.depend_order.specs.Index.{AreResolved}
use Rattle.depend_order.proofs.names.places_counted.Given as goal

abbrev pub invariant-loop-resource : goal.invariant-loop-resource
invariant-loop-resource g l = record {
  places : AreResolved l.document.resources (take l.resource-index l.document.resources) l.depends.items;
  steps : l.steps ≤ l.fn.steps + (length l.document.resources + names_in (take l.resource-index l.document.resources));
}
