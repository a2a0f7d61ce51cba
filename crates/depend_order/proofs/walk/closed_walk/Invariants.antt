use Rattle.std.proofs.Common.{◌++◌, ◌∷◌, [], length, not}
use Rattle.std.specs.List.{count_by}
use Rattle.dsc_terms.specs.Lists.{IsOnce}
use Rattle.depend_order.specs.Cycle.{IsLeft, IsWalk}
use Rattle.depend_order.specs.Numbers.{Lists}
use Rattle.depend_order.proofs.Marks.{IsMarking}
use Rattle.depend_order.proofs.walk.closed_walk.Given as goal

abbrev pub invariant-loop-visited : goal.invariant-loop-visited
invariant-loop-visited l = record {
  visited : IsMarking (length l.depends) l.walk.items l.visited.items;
  once : IsOnce l.walk.items;
  walk : IsWalk (length l.depends) (Lists l.depends) (l.walk.items ++ l.place ∷ []);
  left : IsLeft (length l.depends) (Lists l.depends) l.place;
}

abbrev pub decreases-loop-visited : goal.decreases-loop-visited
decreases-loop-visited l = count_by not l.visited.items
