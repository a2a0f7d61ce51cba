use Rattle.std.proofs.Common.{◌≡◌, ◌+◌, ◌≤◌, length, map, take}
use Rattle.dsc_terms.specs.Counts.{RoseBy}
use Rattle.lcm_core.specs.declared.modes.RunMode.TheVariants.{Monitor}
use Rattle.resource_kinds.specs.Trace.{Chain, place_of, host_failures}
use Rattle.lcm_core.specs.Legal.{Legal, GoesOn}
use Rattle.lcm_core.proofs.runs.monitor.Given as goal

abbrev pub invariant-loop-place : goal.invariant-loop-place
invariant-loop-place g l =
    let trace = g.R.Resources.trace l.resources in
    record {
      places : map place_of trace ≡ take l.place-index l.order;
      legal : Legal l.document Monitor l.order trace;
      goes_on : GoesOn trace;
      chain : Chain g.R.Resources.does g.R.Resources.still l.document l.fn.resources trace l.resources;
      faults : RoseBy (host_failures trace) (g.R.Resources.faults l.fn.resources) (g.R.Resources.faults l.resources);
      later : g.R.Resources.faults l.fn.resources ≤ g.R.Resources.faults l.resources;
      used : g.R.Resources.spare l.fn.resources ≤ g.R.Resources.spare l.resources + length trace;
      capacity : length l.order ≤ g.R.Resources.spare l.resources + l.place-index;
    }
