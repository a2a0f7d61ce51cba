use Rattle.std.proofs.Common.{◌∙◌, ap, sym}
use Rattle.meta_config.specs.declared.meta.Partial.{Partial}
use Rattle.node_pull.proofs.PartNames.{names_at_more}
use Rattle.node_pull.proofs.names.names_at.Goals as goal

pub loop-place-preserved : goal.loop-place-preserved
loop-place-preserved c =
    names_at_more c.args.partials.now c.args.places.now c.loop-place.names.items c.push.new.self.items c.loop-place.place-index c.index-partials-place.result c.in_ok-copy.field-0
    c.loop-place-test.true c.requires c.index-partials-place.is
    (c.in_ok-copy.ensures ∙ ap (λ (p : Partial). p.name) (sym c.index-partials-place.is)) c.in_ok-push.ensures.items c.loop-place.invariant
