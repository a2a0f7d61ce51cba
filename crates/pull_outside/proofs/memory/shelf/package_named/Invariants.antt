use Rattle.std.proofs.Common.{◌≡◌, drop}
use Rattle.pull_outside.specs.Shelf.{package_named}
use Rattle.pull_outside.proofs.memory.shelf.package_named.Given as goal

abbrev pub invariant-loop-item : goal.invariant-loop-item
invariant-loop-item l = package_named l.name l.version (drop l.item-index l.items) ≡ package_named l.name l.version l.items
