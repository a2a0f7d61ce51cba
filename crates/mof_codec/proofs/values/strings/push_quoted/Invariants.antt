use Rattle.std.proofs.Common.{length}
use Rattle.std.specs.Str.{chars}
use denote.Shadow.{shadow}
use denote.Text.{Utf8}
use Rattle.mof_codec.proofs.LiteralsRead.{QuotedSoFar}
use Rattle.mof_codec.proofs.values.strings.push_quoted.Given as goal

abbrev pub invariant-loop-rest : goal.invariant-loop-rest
invariant-loop-rest l = shadow (Utf8 l.left) × QuotedSoFar l.fn.read.items (chars l.text) l.read.items (chars l.left)

abbrev pub decreases-loop-rest : goal.decreases-loop-rest
decreases-loop-rest l = length (chars l.left)
