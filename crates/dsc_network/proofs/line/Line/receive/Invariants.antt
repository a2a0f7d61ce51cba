use Rattle.std.proofs.Common.{◌≡◌, ◌<◌, ◌+◌, length}
use Rattle.std.specs.Io.{StartsWith}
use Rattle.dsc_outside.specs.Link.{answer_limit}
use Rattle.dsc_network.proofs.line.Line.receive.Given as goal

abbrev pub invariant-loop : goal.invariant-loop
invariant-loop g l = record {
  start : StartsWith l.into.items l.fn.into.items;
  capacity : length l.into.items + l.capacity ≡ length l.fn.into.items + answer_limit;
  left : 0 < l.capacity;
}
