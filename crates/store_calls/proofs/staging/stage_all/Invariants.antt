use Rattle.node_store.specs.Store.{IsReady}
use Rattle.store_calls.proofs.staging.stage_all.Given as goal

abbrev pub invariant-loop-number : goal.invariant-loop-number
invariant-loop-number g l = IsReady g.D.Disk l.disk l.store
