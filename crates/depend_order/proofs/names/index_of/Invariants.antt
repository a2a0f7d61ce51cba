use Rattle.std.proofs.Common.{◌≡◌, ◌+◌, take}
use Rattle.depend_order.specs.Index.{IsIndex}
use Rattle.depend_order.proofs.Repeated.{Apart}
use Rattle.depend_order.proofs.names.index_of.Given as goal

abbrev pub invariant-loop-place : goal.invariant-loop-place
invariant-loop-place g l = record {
  index : IsIndex (take l.place l.resources) l.index;
  apart : Apart l.resources l.place;
  steps : l.steps ≡ l.fn.steps + l.place;
}
