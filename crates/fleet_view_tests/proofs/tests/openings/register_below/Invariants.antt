use Rattle.pull_store.specs.Store.{IsReady}
use Rattle.fleet_view_tests.proofs.tests.openings.register_below.Given as goal

abbrev pub invariant-loop-agent : goal.invariant-loop-agent
invariant-loop-agent g l = IsReady g.D.Disk l.disk l.store
