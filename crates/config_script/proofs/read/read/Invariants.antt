use Rattle.std.proofs.Common.{length}
use Rattle.std.specs.Str.{chars}
use denote.Shadow.{shadow}
use denote.Text.{Utf8}
use Rattle.config_script.proofs.Taken.{ReadTo}
use Rattle.config_script.proofs.read.read.Given as goal

abbrev pub invariant-loop-left : goal.invariant-loop-left
invariant-loop-left l = shadow (Utf8 l.left) × ReadTo (chars l.text) l.node l.fed (chars l.left) l.place l.reading

abbrev pub decreases-loop-left : goal.decreases-loop-left
decreases-loop-left l = length (chars l.left)
