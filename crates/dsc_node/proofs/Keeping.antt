-- Memory that was reserved is enough for the event of a run.
use Rattle.std.proofs.Common.{◌≡◌, ◌==◌, ◌&&◌, cond, Bool, true, false, sym, ◌∙◌}
use Rattle.lcm_core.specs.declared.modes.RunEnd.{RunEnd}
use Rattle.lcm_core.specs.declared.modes.RunEnd.TheVariants as ends
use Rattle.report_log.specs.declared.report.Report.{Report}
use Rattle.node_state.specs.declared.event.Event.TheVariants as events
use Rattle.node_store.specs.Store.{TakesMemory}
use Rattle.dsc_node.specs.Runs.{event_of}

module _ (report : Report) (reserved : Bool) (is : reserved ≡ true) where
  none : reserved ≡ false → ⊥
  none not = let both = sym is ∙ not in cc both

  one : (b : Bool) → TakesMemory reserved (cond b (events.Promote report) (events.Note report)) → ⊥
  one true takes = none takes
  one false takes = none takes

  pub reserved_is_enough : (end : RunEnd) (pending : Bool) → TakesMemory reserved (event_of end pending report) → ⊥
  reserved_is_enough (ends.RebootAsked place) pending takes = none takes
  reserved_is_enough ends.Finished pending takes = one (pending && (report.missed == 0)) takes
  reserved_is_enough ends.Memory pending takes = none takes
