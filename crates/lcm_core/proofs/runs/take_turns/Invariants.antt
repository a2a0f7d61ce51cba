use Rattle.std.proofs.Common.{◌≡◌, ◌+◌, ◌*◌, ◌≤◌, ◌<◌, ℕ, false, length, take, get_or}
use Rattle.dsc_terms.specs.Counts.{RoseBy}
use Rattle.resource_kinds.specs.Trace.{Chain, has_succeeded, host_failures}
use Rattle.lcm_core.specs.Legal.{GoesOn}
use Rattle.lcm_core.proofs.Past.{Past}
use Rattle.lcm_core.proofs.runs.take_turns.Given as goal

abbrev pub invariant-loop-place : goal.invariant-loop-place
invariant-loop-place g l =
    let trace = g.R.Resources.trace l.resources in
    let count = length l.document.resources in
    record {
      past : Past l.document l.order (take l.place-index l.order) trace;
      goes_on : GoesOn trace;
      size : length l.held ≡ count;
      marks : (q : ℕ) → q < count → get_or l.held q false ≡ has_succeeded trace q;
      chain : Chain g.R.Resources.does g.R.Resources.still l.document l.fn.resources trace l.resources;
      faults : RoseBy (host_failures trace) (g.R.Resources.faults l.fn.resources) (g.R.Resources.faults l.resources);
      later : g.R.Resources.faults l.fn.resources ≤ g.R.Resources.faults l.resources;
      used : g.R.Resources.spare l.fn.resources ≤ g.R.Resources.spare l.resources + length trace;
      capacity : 3 * count ≤ g.R.Resources.spare l.resources + 3 * l.place-index;
    }
