use Rattle.std.proofs.Common.{◌≡◌, length}
use Rattle.pull_adapters.proofs.item_files.append_item.Given as goal

abbrev pub invariant-loop : goal.invariant-loop
invariant-loop g l = record {
  same : l.into.items ≡ l.fn.into.items;
  kept : l.kept ≡ length l.fn.into.items;
}
