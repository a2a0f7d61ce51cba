use Rattle.std.proofs.Common.{sym, arith}
use Rattle.std.proofs.lemmas.Bool.{eqb-true, eqb-false}
use Rattle.mof_syntax.proofs.Texts.{some_left, none_left}
use Rattle.mof_codec.proofs.Options.{of_some, of_none}
use Rattle.mof_codec.proofs.DeclarationsRead.{text_start, text_next, text_read, text_full, text_stuck}
use Rattle.mof_codec.proofs.values.declarations.instances_of.Goals as goal

pub declarations-init : goal.declarations-init
declarations-init c = rw c.new-instances.ensures.items (c.separators_rest-left.utf8, text_start _ _ c.separators_rest-left.ensures.stands c.separators_rest-left.ensures.stops)

pub returns-then-len-eq-MAX_INSTANCES-clause-none : goal.returns-then-len-eq-MAX_INSTANCES-clause-none
returns-then-len-eq-MAX_INSTANCES-clause-none c =
    text_full _ _ _ c.declarations.invariant.1 (some_left _ c.declarations.invariant.0 (eqb-false _ _ (sym c.declarations-test.ensures))) (omega arith)

pub returns-in_default-clause-none : goal.returns-in_default-clause-none
returns-in_default-clause-none c =
    text_stuck _ _ _ c.declarations.invariant.1 (some_left _ c.declarations.invariant.0 (eqb-false _ _ (sym c.declarations-test.ensures))) (of_none _ _ c.in_default.is c.in_ok-instance.ensures.none)

pub declarations-preserved : goal.declarations-preserved
declarations-preserved c =
    rw c.in_ok-push.ensures.items (
      c.separators_rest-left-in-declarations.utf8,
      text_next _ _ _ c.declarations.invariant.1 _ _ _ (λ same. omega arith) (of_some _ _ _ c.in-Some.is c.in_ok-instance.ensures.some)
          c.separators_rest-left-in-declarations.ensures.stands c.separators_rest-left-in-declarations.ensures.stops,
    )

pub returns-clause-spelled : goal.returns-clause-spelled
returns-clause-spelled c = text_read _ _ _ c.declarations.invariant.1 (none_left _ (eqb-true _ _ (sym c.declarations-test.ensures)))
