use Rattle.std.proofs.Common.{◌≡◌, map, take}
use Rattle.std.specs.Result.{result_ok}
use Rattle.resource_kinds.specs.Wanted.{wanted_of}
use Rattle.resource_kinds.proofs.overlap.all_wanted.Given as goal

-- what the resources so far ask for
abbrev pub invariant-loop-resource : goal.invariant-loop-resource
invariant-loop-resource l = l.all.items ≡ map (λ r. result_ok (wanted_of r)) (take l.resource-index l.resources)
