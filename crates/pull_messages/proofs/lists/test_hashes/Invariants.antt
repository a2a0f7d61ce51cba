use Rattle.std.proofs.Common.{length}
use Rattle.serde_json.specs.View.{items_view}
use Rattle.pull_messages.specs.Members.{optional, sha256, each}
use Rattle.pull_messages.proofs.Fronts.{SameTest}
use Rattle.pull_messages.proofs.lists.test_hashes.Given as goal

abbrev pub invariant-loop-left : goal.invariant-loop-left
invariant-loop-left l = SameTest (each (optional sha256 tt l.field) (items_view l.objects)) (each (optional sha256 tt l.field) (items_view l.left))

abbrev pub decreases-loop-left : goal.decreases-loop-left
decreases-loop-left l = length l.left
