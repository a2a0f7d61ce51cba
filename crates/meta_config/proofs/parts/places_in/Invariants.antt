use Rattle.std.proofs.Common.{take}
use Rattle.std.specs.List.{AllZip}
use Rattle.meta_config.specs.Parts.{MeansPart}
use Rattle.meta_config.proofs.parts.places_in.Given as goal

abbrev pub invariant-loop-name : goal.invariant-loop-name
invariant-loop-name l = AllZip (MeansPart l.partials) (take l.name-index l.names) l.places.items
