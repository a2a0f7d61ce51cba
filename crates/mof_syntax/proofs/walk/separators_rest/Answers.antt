use Rattle.std.proofs.Common.{rules}
use Rattle.std.specs.Str.{chars}
use Rattle.mof_syntax.specs.Separators.{none}
use Rattle.mof_syntax.proofs.Walking.{separators_on, separator_shorter}
use Rattle.mof_syntax.proofs.walk.separators_rest.Goals as goal

pub loop-rest-init : goal.loop-rest-init
loop-rest-init c = (c.utf8.text, none (chars c.args.text.now))

pub loop-rest-smaller : goal.loop-rest-smaller
loop-rest-smaller c = separator_shorter _ _ c.in-Some.ensures

pub loop-rest-preserved : goal.loop-rest-preserved
loop-rest-preserved c = (search rules, separators_on _ _ _ c.loop-rest.invariant.1 c.in-Some.ensures)
