use Rattle.std.proofs.Common.{ap, arith, length, rules}
use Rattle.std.specs.Str.{chars}
use Rattle.mof_syntax.specs.Scanning.{is_in_line}
use Rattle.config_script.proofs.Walked.{after_short, comment_passed}
use Rattle.config_script.proofs.token.separators_rest.Goals as goal

pub loop-c-preserved : goal.loop-c-preserved
loop-c-preserved c = (
  search rules,
  comment_passed c.loop-c.fed (chars c.args.text.now) (chars c.loop-c.left.now) (chars c.in-Some.rest.now) (chars c.after-left.result.now) c.in-Some.c
      c.loop-c.invariant.1 c.in-Some.ensures.some c.in-35.is c.after-left.ensures,
)

pub loop-c-smaller : goal.loop-c-smaller
loop-c-smaller c = omega (arith, ap length c.after-left.ensures, after_short is_in_line (chars c.in-Some.rest.now), ap length c.in-Some.ensures.some)
