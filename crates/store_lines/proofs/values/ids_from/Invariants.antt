use Rattle.std.proofs.Common.{map, take}
use Rattle.store_lines.specs.Words.{AreIds}
use Rattle.store_lines.proofs.values.ids_from.Given as goal

abbrev pub invariant-loop-text : goal.invariant-loop-text
invariant-loop-text l = AreIds (map (λ v. v.now) (take l.text-index l.texts)) l.ids.items
