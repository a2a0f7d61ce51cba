use Rattle.std.proofs.Common.{length}
use Rattle.std.specs.Str.{chars}
use denote.Shadow.{shadow}
use denote.Text.{Utf8}
use Rattle.mof_codec.proofs.LiteralsRead.{StringsSoFar}
use Rattle.mof_codec.proofs.values.strings.string.Given as goal

abbrev pub invariant-loop-after : goal.invariant-loop-after
invariant-loop-after l = shadow (Utf8 l.left) × StringsSoFar (chars l.text) l.read.items (chars l.left)

abbrev pub decreases-loop-after : goal.decreases-loop-after
decreases-loop-after l = length (chars l.left)
