use Rattle.gate_log.specs.Kept.{IsReadyBy}
use Rattle.gate_log_tests.specs.Counting.{LeadsToCount, count_shape}
use Rattle.gate_log_tests.proofs.tests.counters.add_all_tens.Given as goal

abbrev pub invariant-loop : goal.invariant-loop
invariant-loop g l = IsReadyBy g.D.Disk l.disk count_shape LeadsToCount l.counter-2.log l.counter-2.count
