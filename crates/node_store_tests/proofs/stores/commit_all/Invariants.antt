use Rattle.node_store.specs.Store.{IsReady}
use Rattle.node_store_tests.proofs.stores.commit_all.Given as goal

abbrev pub invariant-loop-body : goal.invariant-loop-body
invariant-loop-body g l = IsReady g.D.Disk l.disk l.store
