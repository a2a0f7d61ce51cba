use Rattle.std.proofs.Common.{◌≡◌, ◌++◌, flat_map, take}
use Rattle.agent_line.specs.Table.{further_id}
use Rattle.agent_line.proofs.cells.push_further.Given as goal

abbrev pub invariant-loop-error : goal.invariant-loop-error
invariant-loop-error l = l.chars.items ≡ l.fn.chars.items ++ flat_map further_id (take l.error-index l.errors)
