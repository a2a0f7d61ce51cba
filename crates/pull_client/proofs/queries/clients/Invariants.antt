use Rattle.std.proofs.Common.{◌≡◌, map, take}
use Rattle.pull_client.specs.Queries.{client_of}
use Rattle.pull_client.proofs.queries.clients.Given as goal

abbrev pub invariant-loop-name : goal.invariant-loop-name
invariant-loop-name l = l.clients.items ≡ map (client_of l.held) (take l.name-index l.names)
