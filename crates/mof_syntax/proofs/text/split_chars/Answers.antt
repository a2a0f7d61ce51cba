use Rattle.std.specs.Str.{chars}
use Rattle.mof_syntax.proofs.Texts.{ends_after, drop_next}
use Rattle.mof_syntax.proofs.text.split_chars.Goals as goal

pub loop-preserved : goal.loop-preserved
loop-preserved c = (c.without_first-left.utf8, drop_next (chars c.args.text.now) _ _ c.loop.counter c.loop.invariant.1 c.without_first-left.ensures)

pub before-requires : goal.before-requires
before-requires c = rw c.loop.invariant.1 (ends_after (chars c.args.text.now) c.loop.counter)
