use Rattle.std.proofs.Common.{◌≡◌, length}
use Rattle.serde_json.specs.View.{items_view}
use Rattle.pull_messages.specs.declared.limits.Limit.TheVariants.{Free}
use Rattle.pull_messages.specs.Members.{required, a_text, each}
use Rattle.pull_messages.proofs.Fronts.{with_front}
use Rattle.pull_messages.proofs.lists.each_required.Given as goal

abbrev pub invariant-loop-left : goal.invariant-loop-left
invariant-loop-left l = with_front l.texts.items (each (required (a_text Free) l.field) (items_view l.left)) ≡ each (required (a_text Free) l.field) (items_view l.objects)

abbrev pub decreases-loop-left : goal.decreases-loop-left
decreases-loop-left l = length l.left
