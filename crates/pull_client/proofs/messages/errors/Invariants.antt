use Rattle.std.proofs.Common.{◌≡◌, map, take}
use Rattle.pull_client.specs.Reports.{error_text}
use Rattle.pull_client.proofs.messages.errors.Given as goal

abbrev pub invariant-loop-missed : goal.invariant-loop-missed
invariant-loop-missed l = l.errors.items ≡ map error_text (take l.missed-index l.listed)
