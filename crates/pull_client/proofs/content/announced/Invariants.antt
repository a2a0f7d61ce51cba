use Rattle.std.proofs.Common.{◌≡◌, length}
use Rattle.pull_client.specs.Content.{announced}
use Rattle.pull_client.proofs.content.announced.Given as goal

abbrev pub invariant-loop-left : goal.invariant-loop-left
invariant-loop-left l = announced l.headers ≡ announced l.left

abbrev pub decreases-loop-left : goal.decreases-loop-left
decreases-loop-left l = length l.left
