use Rattle.pull_store.specs.Store.{IsReady}
use Rattle.fleet_view_tests.proofs.exchanges.first_other.Given as goal

abbrev pub invariant-loop-place : goal.invariant-loop-place
invariant-loop-place g l = IsReady g.D.Disk l.disk l.service.store
