use Rattle.std.proofs.Common.{rules, refl, sym}
use Rattle.mof_syntax.proofs.Literals.{at_char, ends_at_quote, goes_on_plain, goes_on_escaped, no_escape_there, escape_shorter, ne_test, nothing_quoted}
use Rattle.mof_syntax.proofs.lead.literal_rest.Goals as goal

pub returns-then-c-eq34-clause-some : goal.returns-then-c-eq34-clause-some
returns-then-c-eq34-clause-some c = ends_at_quote _ _ (at_char _ _ _ _ _ c.in-Some.ensures.some c.if-c-eq34.true c.loop-c.invariant.1)

pub returns-in_err-left-clause-none : goal.returns-in_err-left-clause-none
returns-in_err-left-clause-none c = rw c.from_residual.ensures (λ rest q. no_escape_there _ _ rest (sym c.in_err-left.ensures) (at_char _ _ _ _ _ c.in-Some.ensures.some c.if-c-eq92.true c.loop-c.invariant.1) q)

pub loop-c-smaller-then-c-eq92 : goal.loop-c-smaller-then-c-eq92
loop-c-smaller-then-c-eq92 c = escape_shorter _ _ _ _ c.in-Some.ensures.some c.in_ok-left.ensures

pub loop-c-preserved-then-c-eq92 : goal.loop-c-preserved-then-c-eq92
loop-c-preserved-then-c-eq92 c = (search rules, goes_on_escaped _ _ _ (sym c.in_ok-left.ensures) (at_char _ _ _ _ _ c.in-Some.ensures.some c.if-c-eq92.true c.loop-c.invariant.1))

pub loop-c-preserved : goal.loop-c-preserved
loop-c-preserved c = (search rules, goes_on_plain _ _ _ (ne_test _ _ c.if-c-eq34.false) (ne_test _ _ c.if-c-eq92.false) (at_char _ _ _ _ _ c.in-Some.ensures.some refl c.loop-c.invariant.1))

pub returns-clause-none : goal.returns-clause-none
returns-clause-none c = λ rest q. nothing_quoted _ rest c.in_default.ensures.none (c.loop-c.invariant.1.only rest q)
