use Rattle.std.proofs.Common.{rules, ◌∙◌, sym}
use Rattle.std.specs.Str.{chars}
use Rattle.mof_codec.proofs.LiteralsRead.{plain_start, plain_next}
use Rattle.mof_codec.proofs.values.strings.plain_rest.Goals as goal

pub loop-c-init : goal.loop-c-init
loop-c-init c = (c.utf8.text, plain_start (chars c.args.text.now))

pub loop-c-preserved : goal.loop-c-preserved
loop-c-preserved c = (search rules, plain_next _ _ _ _ c.loop-c.invariant.1 c.in-Some.ensures.some (sym c.is_plain.ensures ∙ c.if-not-is_plain.false))
