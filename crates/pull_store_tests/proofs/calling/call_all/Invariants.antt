use Rattle.pull_store.specs.Store.{IsReady}
use Rattle.pull_store_tests.proofs.calling.call_all.Given as goal

abbrev pub invariant-loop-word : goal.invariant-loop-word
invariant-loop-word g l = IsReady g.D.Disk l.disk l.store
