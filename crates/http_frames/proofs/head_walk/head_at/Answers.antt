use Rattle.std.proofs.Common.{◌≡◌, false, sym, ◌∙◌, arith}
use Rattle.http_frames.specs.HeadPlaces.{is_whole}
use Rattle.http_frames.proofs.HeadReading.{walk_long, walk_short}
use Rattle.http_frames.proofs.head_walk.head_at.Goals as goal

pub returns-then-bytes-ge-HEAD_BYTES : goal.returns-then-bytes-ge-HEAD_BYTES
returns-then-bytes-ge-HEAD_BYTES c =
    let inside : is_whole c.args.walk.place ≡ false = sym c.is_whole.ensures ∙ c.if-is_whole.false in (
      omega (arith, c.if-bytes-ge-HEAD_BYTES.true),
      walk_long c.args.bytes.now c.args.walk c.requires.walked inside (c.requires.all inside),
    )

pub returns : goal.returns
returns c =
    let inside : is_whole c.args.walk.place ≡ false = sym c.is_whole.ensures ∙ c.if-is_whole.false in (
      c.requires.walked,
      walk_short c.args.bytes.now c.args.walk c.requires.walked inside (c.requires.all inside) (omega (arith, c.if-bytes-ge-HEAD_BYTES.false)),
    )
