use Rattle.std.proofs.Common.{◌≡◌, map, take}
use Rattle.store_lines.specs.Told.{class_word}
use Rattle.store_lines.proofs.values.classes_named.Given as goal

abbrev pub invariant-loop-name : goal.invariant-loop-name
invariant-loop-name l = map class_word l.classes.items ≡ map (λ v. v.now) (take l.name-index l.names)
