use Rattle.std.proofs.Common.{◌≡◌, ◌++◌, map}
use Rattle.partial_merge.specs.Parts.{in_part}
use Rattle.partial_merge.proofs.joined.push_resources.Given as goal

abbrev pub invariant-loop-resource : goal.invariant-loop-resource
invariant-loop-resource l = l.out.items ≡ l.initial.out.items ++ map (in_part l.place) l.yielded
