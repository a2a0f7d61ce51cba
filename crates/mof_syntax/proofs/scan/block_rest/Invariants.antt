use Rattle.std.proofs.Common.{◌≡◌, length}
use Rattle.std.specs.Str.{chars}
use denote.Shadow.{shadow}
use denote.Text.{Utf8}
use Rattle.mof_syntax.specs.Scanning.{block_rest}
use Rattle.mof_syntax.proofs.scan.block_rest.Given as goal

abbrev pub invariant-loop-first : goal.invariant-loop-first
invariant-loop-first l = shadow (Utf8 l.left) × (block_rest (chars l.text) ≡ block_rest (chars l.left))

abbrev pub decreases-loop-first : goal.decreases-loop-first
decreases-loop-first l = length (chars l.left)
