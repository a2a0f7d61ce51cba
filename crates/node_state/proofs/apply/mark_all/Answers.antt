use Rattle.std.proofs.Common.{◌∙◌, ap, sym}
use Rattle.std.specs.Prelude.{slice_set}
use Rattle.std.proofs.lemmas.List.Edits.{map_over_more}
use Rattle.node_state.specs.declared.node.Kept.{Kept}
use Rattle.node_state.specs.Table.{marked}
use Rattle.node_state.proofs.apply.mark_all.Goals as goal

pub loop-kept-preserved : goal.loop-kept-preserved
loop-kept-preserved c =
    let xs = c.loop-kept.reports in
    let i = c.loop-kept.kept-index in
    ap (λ (k : Kept). slice_set xs i k) c.mark.ensures
    ∙ ap (λ (k : Kept). slice_set xs i (marked c.args.job k)) (sym c.kept-item.is)
    ∙ map_over_more (marked c.args.job) c.args.reports.now xs i c.kept-item.result c.loop-kept-test.true c.loop-kept.invariant c.kept-item.is
