use Rattle.meta_config.specs.Parts.{IsPartName, MeansPart}
use Rattle.meta_config.proofs.PartPlaces.{item_has, zip_more}
use Rattle.meta_config.proofs.parts.places_in.Goals as goal

pub place_of-requires-clause-known : goal.place_of-requires-clause-known
place_of-requires-clause-known c =
    item_has (IsPartName c.args.partials.now) c.args.names.now c.loop-name.name-index c.name-item.result c.requires.known c.loop-name-test.true c.name-item.is

pub loop-name-preserved : goal.loop-name-preserved
loop-name-preserved c =
    rw c.in_ok-push.ensures.items
    (zip_more (MeansPart c.args.partials.now) c.args.names.now c.loop-name.places.items c.loop-name.name-index c.name-item.result c.place_of.result
    c.loop-name-test.true c.name-item.is c.place_of.ensures c.loop-name.invariant)
