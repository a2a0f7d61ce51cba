use Rattle.std.proofs.Common.{◌≡◌, ◌++◌, take}
use Rattle.store_lines.specs.Gauges.{samples}
use Rattle.store_lines.proofs.gauges.push_samples.Given as goal

abbrev pub invariant-loop-store : goal.invariant-loop-store
invariant-loop-store l = l.text.items ≡ l.fn.text.items ++ samples l.gauge (take l.store-index l.stores)
