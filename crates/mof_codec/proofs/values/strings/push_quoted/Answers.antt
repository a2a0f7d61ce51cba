use Rattle.std.proofs.Common.{rules, sym}
use Rattle.mof_codec.proofs.LiteralsRead.{quoted_end, quoted_next, quoted_stuck, shorter_after}
use Rattle.mof_codec.proofs.values.strings.push_quoted.Goals as goal

pub returns-in-Some-clause-some : goal.returns-in-Some-clause-some
returns-in-Some-clause-some c = rw c.in_ok-push_chars.ensures
    (quoted_end _ _ _ _ _ (quoted_next _ _ _ _ _ _ c.loop-rest.invariant.1 c.plain_front.ensures.front) (sym c.in-Some.ensures))

pub returns-in_default-literal_char-clause-none : goal.returns-in_default-literal_char-clause-none
returns-in_default-literal_char-clause-none c =
    quoted_stuck _ _ _ _ (quoted_next _ _ _ _ _ _ c.loop-rest.invariant.1 c.plain_front.ensures.front) (sym c.in_default.ensures) c.in_default-literal_char.ensures.none

pub loop-rest-preserved : goal.loop-rest-preserved
loop-rest-preserved c = (
  search rules,
  rw c.in_ok-push.ensures.items (rw c.in_ok-push_chars.ensures
      (quoted_next _ _ _ _ _ _ (quoted_next _ _ _ _ _ _ c.loop-rest.invariant.1 c.plain_front.ensures.front) c.in-Some-literal_char.ensures.some.0)),
)

pub loop-rest-smaller : goal.loop-rest-smaller
loop-rest-smaller c = shorter_after _ _ _ _ c.plain_front.ensures.split c.in-Some-literal_char.ensures.some.1
