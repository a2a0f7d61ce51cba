use Rattle.std.proofs.Common.{◌≡◌, map, take}
use Rattle.std.specs.Prelude.{encode_utf8_all}
use Rattle.store_lines.proofs.values.texts_from.Given as goal

abbrev pub invariant-loop-value : goal.invariant-loop-value
invariant-loop-value l = map encode_utf8_all l.texts.items ≡ map (λ v. v.now) (take l.value-index l.values)
