use Rattle.std.proofs.Common.{refl, ◌++◌, ◌∷◌, [], arith, length-append}
use Rattle.pull_messages.proofs.Escaped.{written_more, more_front}
use Rattle.pull_messages.proofs.escapes.front_size.Goals as goal

pub loop-init : goal.loop-init
loop-init c = ([], [], refl, refl, refl)

pub loop-preserved : goal.loop-preserved
loop-preserved c =
    let before = c.loop.invariant in
    let byte = c.in-Some.ensures.some in (
      before.0 ++ byte.0,
      before.1 ++ c.in-Some.field-0-0 ∷ [],
      more_front c.args.text.now before.0 c.loop.left.now byte.0 c.in-Some.rest.now before.2 byte.1,
      written_more before.1 before.0 c.in-Some.field-0-0 byte.0 before.3 byte.2,
      omega (arith, length-append before.1 (c.in-Some.field-0-0 ∷ []), before.4),
    )
