use Rattle.std.proofs.Common.{◌≡◌, ◌+◌, drop}
use Rattle.pull_store.specs.Steps.{place_in}
use Rattle.pull_store.proofs.applying.place_in.Given as goal

abbrev pub invariant-loop-at : goal.invariant-loop-at
invariant-loop-at l = place_in l.agent l.agents ≡ l.at + place_in l.agent (drop l.at l.agents)
