use Rattle.node_state.specs.declared.error.StageError.TheVariants as stages
use Rattle.node_pull.specs.declared.error.PullFault.TheVariants.{Memory}
use Rattle.node_pull.specs.Pulling.{list_of, not_staged}
use Rattle.std.proofs.Common.{ap}
use Rattle.http_frames.proofs.PassedOn.{passed_on}
use Rattle.node_pull.proofs.PullRows.{document_staged, pulled_short, pulled_whole}
use Rattle.node_pull.proofs.pulling.brought.Goals as goal

pub returns-in-Err-clause-pulled : goal.returns-in-Err-clause-pulled
returns-in-Err-clause-pulled g c = λ before listed. rw c.staging_error.ensures (not_staged before _ _ c.args.parts.items c.in-Err.error listed c.in-Err.ensures.refused)

pub returns-in_err-modules-clause-pulled : goal.returns-in_err-modules-clause-pulled
returns-in_err-modules-clause-pulled g c = λ before listed.
    rw (passed_on Memory c.from_residual.result c.from_residual.ensures.1) (not_staged before _ _ c.args.parts.items stages.Memory listed tt)

pub returns-clause-pulled : goal.returns-clause-pulled
returns-clause-pulled g c = λ before listed.
    pulled_whole g.M.Machine.packages g.M.Resources.faults c.args.meta.now c.args.server.now c.args.agent c.args.held.now before _ _ c.args.machine.now _ c.args.parts.items
    c.in-Ok.pair.0 c.in-Ok.pair.1.document c.in_ok-modules.modules.items c.deref.result.now _ c.in-Ok.ensures.staged c.deref.ensures.value c.in_ok-modules.ensures listed c.in-Ok.ensures.fits
    c.in-Ok.ensures.merged c.in_ok-packages.ensures.packages c.brought_of.ensures.list

pub brought_of-requires : goal.brought_of-requires
brought_of-requires g c = record {
  document = document_staged c.args.parts.items c.in-Ok.pair.0 c.in-Ok.pair.1 c.in-Ok.ensures.staged
      (record { merged = c.in-Ok.ensures.merged; ordered = c.in-Ok.ensures.ordered; in_size = c.in-Ok.ensures.in_size });
}

pub returns-in_err-packages-clause-pulled : goal.returns-in_err-packages-clause-pulled
returns-in_err-packages-clause-pulled g c = λ before listed.
    rw (passed_on c.in_err-packages.field-0.0 c.from_residual-in_err-packages.result c.from_residual-in_err-packages.ensures.1)
    (pulled_short g.M.Machine.packages g.M.Resources.faults c.args.meta.now c.args.server.now c.args.agent c.args.held.now before _ _ c.args.machine.now _ c.args.parts.items
    c.in-Ok.pair.0 c.in-Ok.pair.1.document c.in_ok-modules.modules.items c.deref.result.now c.in_err-packages.field-0.0 c.in-Ok.ensures.staged c.deref.ensures.value c.in_ok-modules.ensures listed c.in-Ok.ensures.fits
    c.in-Ok.ensures.merged c.in_err-packages.ensures.packages)
