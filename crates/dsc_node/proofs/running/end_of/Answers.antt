use Rattle.std.proofs.Common.{Some, arith}
use Rattle.dsc_node.proofs.Readings.{gave_some}
use Rattle.dsc_node.proofs.running.end_of.Goals as goal

pub returns-then-time-start-clause-time : goal.returns-then-time-start-clause-time
returns-then-time-start-clause-time g c =
    (Some c.in-Ok.time, gave_some (g.C.Clock.coming c.args.clock.now) (g.C.Clock.coming c.now.new.self) c.now.result c.in-Ok.time c.in-Ok.is c.now.ensures.reading, omega (arith, c.if-time-start.true))

pub returns-else-time-start-clause-time : goal.returns-else-time-start-clause-time
returns-else-time-start-clause-time g c =
    (Some c.in-Ok.time, gave_some (g.C.Clock.coming c.args.clock.now) (g.C.Clock.coming c.now.new.self) c.now.result c.in-Ok.time c.in-Ok.is c.now.ensures.reading, omega (arith, c.if-time-start.false))
