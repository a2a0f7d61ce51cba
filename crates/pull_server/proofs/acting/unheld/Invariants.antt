use Rattle.std.proofs.Common.{◌≡◌, map, take}
use Rattle.pull_server.specs.Actions.{without_checksum}
use Rattle.pull_server.proofs.acting.unheld.Given as goal

abbrev pub invariant-loop-name : goal.invariant-loop-name
invariant-loop-name l = l.found.items ≡ map without_checksum (take l.name-index l.names)
