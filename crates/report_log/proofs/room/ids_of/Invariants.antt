use Rattle.std.proofs.Common.{◌≡◌, map, take}
use Rattle.report_log.proofs.room.ids_of.Given as goal

abbrev pub invariant-loop-resource : goal.invariant-loop-resource
invariant-loop-resource l = l.ids.items ≡ map (λ resource. resource.id) (take l.resource-index l.resources)
