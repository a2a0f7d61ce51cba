use Rattle.std.proofs.Common.{◌≡◌, length}
use Rattle.store_fields.proofs.Listed.{ReadSoFar}
use Rattle.store_fields.proofs.lists.read_list.Given as goal

abbrev pub invariant-loop : goal.invariant-loop
invariant-loop g l = (length l.items.items ≡ l.counter) × ReadSoFar g.F.FieldForm.bytes_of g.F.FieldForm.is_in_range l.count l.initial.fields l.items.items l.fields
