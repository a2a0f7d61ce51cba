use Rattle.std.proofs.Common.{length}
use Rattle.std.specs.List.{flat_map, AllByRecursion}
use Rattle.store_fields.proofs.Appending.{WrittenSoFar}
use Rattle.store_fields.proofs.lists.put_each.Given as goal

abbrev pub invariant-loop-left : goal.invariant-loop-left
invariant-loop-left g l =
    WrittenSoFar (flat_map g.F.FieldForm.bytes_of l.items) (flat_map g.F.FieldForm.bytes_of l.left) l.initial.into l.into
    × AllByRecursion g.F.FieldForm.fits l.left
    × (AllByRecursion g.F.FieldForm.is_in_range l.left → AllByRecursion g.F.FieldForm.is_in_range l.items)

abbrev pub decreases-loop-left : goal.decreases-loop-left
decreases-loop-left g l = length l.left
