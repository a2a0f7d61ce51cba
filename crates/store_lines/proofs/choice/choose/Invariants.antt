use Rattle.std.proofs.Common.{◌≡◌, flat_map, take}
use Rattle.agent_line.specs.Lines.{forgotten_line}
use Rattle.store_lines.specs.Choice.{chosen_agents, chosen_rows}
use Rattle.store_lines.proofs.choice.choose.Given as goal

abbrev pub invariant-loop-row : goal.invariant-loop-row
invariant-loop-row l =
    (l.agents.items ≡ chosen_agents l.choice l.since (take l.row-index l.rows))
    × (l.text.items ≡ flat_map (forgotten_line l.store) (chosen_rows l.choice l.since (take l.row-index l.rows)))
