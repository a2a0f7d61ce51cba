use Rattle.std.proofs.Common.{◌≡◌, map, take}
use Rattle.pull_server.specs.Actions.{with_name}
use Rattle.pull_server.proofs.acting.named.Given as goal

abbrev pub invariant-loop-client : goal.invariant-loop-client
invariant-loop-client l = l.found.items ≡ map (with_name l.names) (take l.client-index l.clients)
