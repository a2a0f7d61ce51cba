use Rattle.std.specs.Str.{chars}
use Rattle.mof_codec.proofs.Stepping.{stepped_none, stepped_on, stuck_after}
use Rattle.std.proofs.Common.{rules, sym, ◌∙◌}
use Rattle.mof_codec.proofs.refusing.fault.state_after.Goals as goal

pub loop-c-init : goal.loop-c-init
loop-c-init c = (c.utf8.text, stepped_none (chars c.args.text.now))

pub returns-in_default-step-clause-none : goal.returns-in_default-step-clause-none
returns-in_default-step-clause-none c = stuck_after _ _ _ _ _ c.loop-c.invariant.1 c.in-Some.ensures.some (sym c.in_default-step.is ∙ c.step.ensures)

pub loop-c-preserved : goal.loop-c-preserved
loop-c-preserved c = (search rules, stepped_on _ _ _ _ _ c.in-Some-step.next c.loop-c.invariant.1 c.in-Some.ensures.some (sym c.in-Some-step.is ∙ c.step.ensures))
