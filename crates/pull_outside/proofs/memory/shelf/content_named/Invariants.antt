use Rattle.std.proofs.Common.{◌≡◌, drop}
use Rattle.pull_outside.specs.Shelf.{content_named}
use Rattle.pull_outside.proofs.memory.shelf.content_named.Given as goal

abbrev pub invariant-loop-item : goal.invariant-loop-item
invariant-loop-item l = content_named l.name (drop l.item-index l.items) ≡ content_named l.name l.items
