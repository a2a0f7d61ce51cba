use Rattle.std.proofs.Common.{length}
use Rattle.std.specs.Str.{chars}
use denote.Shadow.{shadow}
use denote.Text.{Utf8}
use Rattle.mof_codec.proofs.ScalarSearch.{ScalarSearched}
use Rattle.mof_codec.proofs.refusing.scalar.first_scalar.Given as goal

abbrev pub invariant-loop-c : goal.invariant-loop-c
invariant-loop-c l = shadow (Utf8 l.left) × ScalarSearched (chars l.front) (chars l.left) l.state l.wanted

abbrev pub decreases-loop-c : goal.decreases-loop-c
decreases-loop-c l = length (chars l.left)
