use Rattle.std.proofs.Common.{◌≡◌, ◌++◌, take}
use Rattle.pull_messages.specs.TargetText.{escaped_all}
use Rattle.pull_messages.proofs.target_text.push_escaped.Given as goal

abbrev pub invariant-loop-byte : goal.invariant-loop-byte
invariant-loop-byte l = l.out.items ≡ l.fn.out.items ++ escaped_all (take l.byte-index l.bytes)
