use Rattle.std.proofs.Common.{ℕ, All}
use Rattle.std.specs.List.{AllZip}
use Rattle.std.specs.Global.{Vec}
use Rattle.meta_config.specs.declared.meta.Partial.{Partial}
use Rattle.meta_config.specs.Parts.{IsPartName, MeansPart}
use Rattle.meta_config.proofs.PartPlaces.{item_has, zip_more}
use Rattle.meta_config.proofs.parts.places_of_names.Goals as goal

pub places_in-requires-clause-known : goal.places_in-requires-clause-known
places_in-requires-clause-known c =
    rw c.as_slice.ensures
    (item_has (λ (p : Partial). All (IsPartName c.args.partials.now) p.depends) c.args.partials.now c.loop-partial.partial-index c.partial-item.result c.requires.known c.loop-partial-test.true c.partial-item.is)

pub loop-partial-preserved : goal.loop-partial-preserved
loop-partial-preserved c =
    rw c.in_ok-push.ensures.items
    (zip_more (λ (p : Partial) (places : Vec ℕ). AllZip (MeansPart c.args.partials.now) p.depends places.items) c.args.partials.now c.loop-partial.depends.items c.loop-partial.partial-index
    c.partial-item.result c.in_ok-places.places c.loop-partial-test.true c.partial-item.is (rw c.as_slice.ensures at c.in_ok-places.ensures) c.loop-partial.invariant)
