use Rattle.std.proofs.Common.{refl, ap, length, arith}
use Rattle.rehearsal.proofs.ReadTo.{begins, read_few}
use Rattle.rehearsal.proofs.script.read_script.Goals as goal

pub loop-reader-init : goal.loop-reader-init
loop-reader-init c = (refl, rw (c.new.ensures.items, c.new-2.ensures.items) (begins c.args.script.now))

pub returns-clause-few : goal.returns-clause-few
returns-clause-few c = omega (arith, read_few _ _ _ _ _ c.loop-reader.invariant.1, ap length c.loop-reader.invariant.0, c.requires)
