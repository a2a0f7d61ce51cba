use Rattle.pull_store.specs.Store.{IsReady}
use Rattle.pull_server_tests.proofs.tests.running.are_answered.Given as goal

abbrev pub invariant-loop-more : goal.invariant-loop-more
invariant-loop-more g l = IsReady g.D.Disk l.disk l.store
