use Rattle.std.proofs.Common.{arith}
use Rattle.gate_log.proofs.Leading.{wrote_added, wrote_replaced}
use Rattle.gate_log_tests.specs.Counting.{LeadsToCount, cells_of, count_shape, whole_of}
use Rattle.gate_log_tests.proofs.Counts.{adds, anew, cells_long, whole_long}
use Rattle.gate_log_tests.proofs.counter.write.Goals as goal

pub add_all-requires-clause-capacity : goal.add_all-requires-clause-capacity
add_all-requires-clause-capacity g c = omega (arith, cells_long c.args.number, c.has_room.ensures.0 c.if-has_room.true)

pub rewrite-requires-clause-capacity : goal.rewrite-requires-clause-capacity
rewrite-requires-clause-capacity g c = omega (arith, whole_long c.args.count)

pub returns-then-has_room-clause-answer : goal.returns-then-has_room-clause-answer
returns-then-has_room-clause-answer g c =
    let old = c.requires.sum.0 in
    wrote_added count_shape LeadsToCount g.D.Disk c.args.disk.now c.add_all.new.disk c.args.log.now c.add_all.new.log (cells_of c.args.number) c.args.count c.add_all.result c.add_all.ensures.answer
    (c.add_all.ensures.kept old c.args.count c.requires.sum.1 (adds c.args.number old c.args.count c.requires.sum.2 (omega (arith, c.ranges.count.fits))))

pub returns-then-has_room-clause-any_moment : goal.returns-then-has_room-clause-any_moment
returns-then-has_room-clause-any_moment g c = λ old kept sum.
    c.add_all.ensures.any_moment old c.args.count kept (adds c.args.number old c.args.count sum (omega (arith, c.ranges.count.fits)))

pub returns-clause-answer : goal.returns-clause-answer
returns-clause-answer g c =
    let old = c.requires.sum.0 in
    wrote_replaced count_shape LeadsToCount g.D.Disk c.args.disk.now c.rewrite.new.disk c.args.log.now c.rewrite.new.log (whole_of c.args.count) c.args.count c.rewrite.result c.rewrite.ensures.answer
    (c.rewrite.ensures.kept old c.args.count c.requires.sum.1 (anew c.args.count old))

pub returns-clause-any_moment : goal.returns-clause-any_moment
returns-clause-any_moment g c = λ old kept sum. c.rewrite.ensures.any_moment old c.args.count kept (anew c.args.count old)
