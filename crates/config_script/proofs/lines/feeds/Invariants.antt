use Rattle.std.proofs.Common.{◌≡◌, ◌≤◌, ◌+◌, length}
use Rattle.std.specs.Str.{chars}
use denote.Shadow.{shadow}
use denote.Text.{Utf8}
use Rattle.config_script.specs.Tokens.{feeds}
use Rattle.config_script.proofs.lines.feeds.Given as goal

abbrev pub invariant-loop-c : goal.invariant-loop-c
invariant-loop-c l = shadow (Utf8 l.left) × (l.count + feeds (chars l.left) ≡ feeds (chars l.text)) × (l.count + length (chars l.left) ≤ length (chars l.text))

abbrev pub decreases-loop-c : goal.decreases-loop-c
decreases-loop-c l = length (chars l.left)
