use Rattle.std.proofs.Common.{◌≡◌, ◌≤◌, ◌+◌, length}
use Rattle.std.specs.Prelude.{slice_get}
use Rattle.shelf_layout.specs.Keys.{keys_in}
use Rattle.shelf_layout.proofs.keys.key_at.Given as goal

abbrev pub invariant-loop : goal.invariant-loop
invariant-loop l = record {
  key : slice_get (keys_in l.text) l.index ≡ slice_get (keys_in l.rest) l.left;
  shorter : length l.rest + l.counter ≤ length l.text;
}
