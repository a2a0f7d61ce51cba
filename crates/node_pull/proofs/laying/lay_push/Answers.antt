use Rattle.std.proofs.Common.{◌∙◌}
use Rattle.node_state.specs.StagedParts.{parts_of}
use Rattle.node_pull.proofs.PushedLists.{are_laid, are_named, document_if, fits_if, laid_if, refused_if}
use Rattle.node_pull.proofs.laying.lay_push.Goals as goal

pub staged_in_order-requires : goal.staged_in_order-requires
staged_in_order-requires c =
    let laid = are_laid c.args.meta.now c.args.part c.args.held.now c.in_ok-parts.parts.items c.in_ok-names.names.items c.deref.result.now c.deref-2.result.now c.in_ok-names.ensures
    c.deref.ensures.value (c.deref-2.ensures.value ∙ c.in_ok-new.ensures.items) c.in_ok-parts.ensures in
    record { named = are_named c.args.meta.now c.args.part c.args.held.now c.in_ok-parts.parts.items c.requires.meta.is c.requires.declared laid; meta = c.requires.meta.is }

pub returns-clause-laid : goal.returns-clause-laid
returns-clause-laid c =
    let laid = are_laid c.args.meta.now c.args.part c.args.held.now c.in_ok-parts.parts.items c.in_ok-names.names.items c.deref.result.now c.deref-2.result.now c.in_ok-names.ensures
    c.deref.ensures.value (c.deref-2.ensures.value ∙ c.in_ok-new.ensures.items) c.in_ok-parts.ensures in
    laid_if c.args.meta.now c.args.part c.args.held.now c.in_ok-parts.parts.items (λ pair. parts_of pair.0) c.staged_in_order.result laid c.staged_in_order.ensures.staged

pub returns-clause-fits : goal.returns-clause-fits
returns-clause-fits c =
    fits_if c.args.meta.now c.args.part c.args.held.now c.in_ok-parts.parts.items (λ pair. parts_of pair.0) c.staged_in_order.result c.staged_in_order.ensures.staged c.staged_in_order.ensures.fits

pub returns-clause-document : goal.returns-clause-document
returns-clause-document c =
    document_if c.args.meta.now c.args.part c.args.held.now c.in_ok-parts.parts.items (λ pair. parts_of pair.0) (λ pair. pair.1) c.staged_in_order.result c.staged_in_order.ensures.staged
    c.staged_in_order.ensures.merged c.staged_in_order.ensures.ordered c.staged_in_order.ensures.in_size

pub returns-clause-refused : goal.returns-clause-refused
returns-clause-refused c =
    let laid = are_laid c.args.meta.now c.args.part c.args.held.now c.in_ok-parts.parts.items c.in_ok-names.names.items c.deref.result.now c.deref-2.result.now c.in_ok-names.ensures
    c.deref.ensures.value (c.deref-2.ensures.value ∙ c.in_ok-new.ensures.items) c.in_ok-parts.ensures in
    refused_if c.args.meta.now c.args.part c.args.held.now c.in_ok-parts.parts.items c.staged_in_order.result laid c.staged_in_order.ensures.refused
