use Rattle.std.proofs.Common.{◌≡◌, false, length}
use Rattle.std.specs.Str.{chars}
use denote.Shadow.{shadow}
use denote.Text.{Utf8}
use Rattle.config_script.specs.Lexing.{separated}
use Rattle.config_script.proofs.token.separators_rest.Given as goal

abbrev pub invariant-loop-c : goal.invariant-loop-c
invariant-loop-c l = shadow (Utf8 l.left) × (separated false false (chars l.text) ≡ separated l.fed false (chars l.left))

abbrev pub decreases-loop-c : goal.decreases-loop-c
decreases-loop-c l = length (chars l.left)
