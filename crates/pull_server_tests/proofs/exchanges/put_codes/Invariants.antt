use Rattle.pull_store.specs.Store.{IsReady}
use Rattle.pull_server_tests.proofs.exchanges.put_codes.Given as goal

abbrev pub invariant-loop-head : goal.invariant-loop-head
invariant-loop-head g l = IsReady g.D.Disk l.disk l.store
