use Rattle.std.proofs.Common.{◌≡◌, ◌+◌, length, take}
use Rattle.std.specs.List.{AllZip}
use Rattle.depend_order.specs.Index.{IsKept}
use Rattle.depend_order.proofs.names.places_in.Given as goal

abbrev pub invariant-loop-name : goal.invariant-loop-name
invariant-loop-name g l = record {
  places : AllZip (IsKept l.index) (take l.name-index l.names) l.places.items;
  count : length l.places.items ≡ l.name-index;
  steps : l.steps ≡ l.fn.steps + l.name-index;
}
