use Rattle.std.proofs.Common.{◌≡◌, map, take}
use Rattle.serde_json.specs.View.{view}
use Rattle.agent_line.specs.Unmet.{unmet_data}
use Rattle.agent_line.proofs.unmet.unmet_values.Given as goal

abbrev pub invariant-loop-error : goal.invariant-loop-error
invariant-loop-error l = map view l.values.items ≡ map unmet_data (take l.error-index l.errors)
