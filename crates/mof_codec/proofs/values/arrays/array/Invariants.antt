use Rattle.std.proofs.Common.{◌-◌, length}
use Rattle.std.specs.Str.{chars}
use denote.Shadow.{shadow}
use denote.Text.{Utf8}
use Rattle.mof_syntax.specs.Limits.{elements_limit}
use Rattle.mof_codec.proofs.ArraysRead.{ArraySoFar}
use Rattle.mof_codec.proofs.values.arrays.array.Given as goal

abbrev pub invariant-elements : goal.invariant-elements
invariant-elements l = shadow (Utf8 l.left) × ArraySoFar (chars l.text) l.elements.items (chars l.left)

abbrev pub decreases-elements : goal.decreases-elements
decreases-elements l = elements_limit - length l.elements.items
