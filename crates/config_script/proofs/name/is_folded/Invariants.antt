use Rattle.std.proofs.Common.{◌↔◌, length}
use Rattle.std.specs.Str.{chars}
use denote.Shadow.{shadow}
use denote.Text.{Utf8}
use Rattle.mof_values.specs.Fold.{SameName}
use Rattle.config_script.proofs.name.is_folded.Given as goal

abbrev pub invariant-loop-c : goal.invariant-loop-c
invariant-loop-c l = shadow (Utf8 l.left) × (SameName (chars l.text) l.word ↔ SameName (chars l.left) l.codes)

abbrev pub decreases-loop-c : goal.decreases-loop-c
decreases-loop-c l = length (chars l.left)
