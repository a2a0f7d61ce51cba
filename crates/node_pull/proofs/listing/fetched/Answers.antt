use Rattle.std.proofs.Common.{◌∙◌}
use Rattle.pull_client.specs.declared.error.PeerError.TheVariants.{Memory}
use Rattle.node_pull.specs.Contents.{no_memory, to_fetch}
use Rattle.node_pull.specs.Listing.{not_given}
use Rattle.http_frames.proofs.PassedOn.{passed_on}
use Rattle.node_pull.proofs.ListRows.{parts_laid, parts_refused, parts_short}
use Rattle.node_pull.proofs.listing.fetched.Goals as goal

pub returns-in_err-wanted-clause-fetched : goal.returns-in_err-wanted-clause-fetched
returns-in_err-wanted-clause-fetched g c = rw (passed_on Memory c.from_residual.result c.from_residual.ensures.1) (not_given Memory _ _ (no_memory _ _))

pub returns-in_err-laid_over-clause-fetched : goal.returns-in_err-laid_over-clause-fetched
returns-in_err-laid_over-clause-fetched g c = rw (passed_on Memory c.from_residual-in_err-laid_over.result c.from_residual-in_err-laid_over.ensures.1)
    (parts_short c.args.server.now c.args.agent c.args.held.now c.args.names.now (to_fetch c.args.asked.now c.args.fetches.now) c.deref.result.now c.new.result.items c.in_ok-parts.parts.items _ _
    (c.deref.ensures.value ∙ c.in_ok-wanted.ensures) c.new.ensures.items c.in_ok-parts.ensures.contents)

pub returns-clause-fetched : goal.returns-clause-fetched
returns-clause-fetched g c =
    parts_laid c.args.server.now c.args.agent c.args.held.now c.args.names.now (to_fetch c.args.asked.now c.args.fetches.now) c.deref.result.now c.new.result.items c.in_ok-parts.parts.items
    c.deref-2.result.now c.in_ok-laid_over.field-0.items _ _
    (c.deref.ensures.value ∙ c.in_ok-wanted.ensures) c.new.ensures.items c.deref-2.ensures.value c.in_ok-laid_over.ensures c.in_ok-parts.ensures.contents

pub returns-in_err-parts-clause-fetched : goal.returns-in_err-parts-clause-fetched
returns-in_err-parts-clause-fetched g c = rw (passed_on c.in_err-parts.field-0.0 c.from_residual-in_err-parts.result c.from_residual-in_err-parts.ensures.1)
    (parts_refused c.args.server.now c.args.agent c.args.held.now c.args.names.now (to_fetch c.args.asked.now c.args.fetches.now) c.deref.result.now c.new.result.items _ _ c.in_err-parts.field-0.0
    (c.deref.ensures.value ∙ c.in_ok-wanted.ensures) c.new.ensures.items c.in_err-parts.ensures.contents)
