use Rattle.pull_store.specs.Store.{IsReady}
use Rattle.pull_server_tests.proofs.tests.full.first_other.Given as goal

abbrev pub invariant-loop-place : goal.invariant-loop-place
invariant-loop-place g l = IsReady g.D.Disk l.disk l.store
