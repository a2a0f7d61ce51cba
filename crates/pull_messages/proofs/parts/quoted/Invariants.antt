use Rattle.std.proofs.Common.{◌≡◌, ◌+◌, ◌∷◌, ◌++◌, length}
use Rattle.std.specs.Prelude.{encode_utf8_all}
use Rattle.mof_values.specs.declared.limits.TheConstants.{MAX_NAME_BYTES}
use Rattle.pull_messages.specs.Targets.{doubled}
use Rattle.pull_messages.proofs.parts.quoted.Given as goal

abbrev pub invariant-loop-c : goal.invariant-loop-c
invariant-loop-c l = (l.chars ≡ (39 ∷ doubled l.text.items) ++ l.left) × (length (encode_utf8_all l.text.items) + l.capacity ≡ MAX_NAME_BYTES)

abbrev pub decreases-loop-c : goal.decreases-loop-c
decreases-loop-c l = length l.left
