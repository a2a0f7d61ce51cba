use Rattle.std.proofs.Common.{length}
use Rattle.serde_json.specs.View.{items_view}
use Rattle.pull_messages.specs.Members.{an_object, each}
use Rattle.pull_messages.proofs.Fronts.{SameTest}
use Rattle.pull_messages.proofs.lists.test_objects.Given as goal

abbrev pub invariant-loop-left : goal.invariant-loop-left
invariant-loop-left l = SameTest (each (an_object l.field) (items_view l.values)) (each (an_object l.field) (items_view l.left))

abbrev pub decreases-loop-left : goal.decreases-loop-left
decreases-loop-left l = length l.left
