use Rattle.std.proofs.Common.{◌≡◌, ◌+◌, length}
use Rattle.std.specs.Io.{StartsWith}
use Rattle.pull_adapters.proofs.item_files.append_front.Given as goal

abbrev pub invariant-loop : goal.invariant-loop
invariant-loop g l = record {
  start : StartsWith l.into.items l.fn.into.items;
  capacity : length l.into.items + l.capacity ≡ length l.fn.into.items + l.longest;
}
