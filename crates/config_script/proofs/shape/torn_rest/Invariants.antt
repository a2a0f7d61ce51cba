use Rattle.std.proofs.Common.{length}
use Rattle.std.specs.Str.{chars}
use denote.Shadow.{shadow}
use denote.Text.{Utf8}
use Rattle.config_script.proofs.Fronts.{IsApart}
use Rattle.config_script.proofs.Wrong.{Onward}
use Rattle.config_script.proofs.shape.torn_rest.Given as goal

abbrev pub invariant-loop-place : goal.invariant-loop-place
invariant-loop-place l = shadow (Utf8 l.left) × IsApart (chars l.left) × Onward (chars l.text) l.place l.fed (chars l.left)

abbrev pub decreases-loop-place : goal.decreases-loop-place
decreases-loop-place l = length (chars l.left)
