use Rattle.std.proofs.Common.{◌≡◌, false, take}
use Rattle.std.specs.List.{list_any}
use Rattle.store_lines.specs.Told.{same_class}
use Rattle.store_lines.proofs.told.has_class.Given as goal

abbrev pub invariant-loop-shown : goal.invariant-loop-shown
invariant-loop-shown l = list_any (same_class l.class) (take l.shown-index l.classes) ≡ false
