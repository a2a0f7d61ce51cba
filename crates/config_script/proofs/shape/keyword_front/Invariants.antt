use Rattle.std.proofs.Common.{◌≡◌, length}
use Rattle.std.specs.Str.{chars}
use denote.Shadow.{shadow}
use denote.Text.{Utf8}
use Rattle.config_script.specs.Fronts.{keyword_front}
use Rattle.config_script.proofs.shape.keyword_front.Given as goal

abbrev pub invariant-loop-codes : goal.invariant-loop-codes
invariant-loop-codes l = shadow (Utf8 l.left) × (keyword_front l.word (chars l.text) ≡ keyword_front l.codes (chars l.left))

abbrev pub decreases-loop-codes : goal.decreases-loop-codes
decreases-loop-codes l = length l.codes
