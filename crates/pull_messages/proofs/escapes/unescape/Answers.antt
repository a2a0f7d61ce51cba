use Rattle.std.proofs.Common.{ℕ, List, ◌++◌, sym, subst}
use Rattle.pull_messages.specs.Escapes.{IsWritten}
use Rattle.pull_messages.specs.Spelling.{Spells}
use Rattle.pull_messages.proofs.Escaped.{written_more, more_front}
use Rattle.pull_messages.proofs.escapes.unescape.Goals as goal

pub loop-byte-preserved : goal.loop-byte-preserved
loop-byte-preserved c =
    let before = c.loop-byte.invariant in
    let byte = c.in-Some.ensures.some in (
      before.0 ++ byte.0,
      more_front c.args.text.now before.0 c.loop-byte.left.now byte.0 c.in-Some.rest.now before.1 byte.1,
      subst (λ (bytes : List ℕ). Spells IsWritten bytes (before.0 ++ byte.0)) (sym c.in_ok-push.ensures.items)
          (written_more c.loop-byte.bytes.items before.0 c.in-Some.byte byte.0 before.2 byte.2),
    )
