use Rattle.std.proofs.Common.{take}
use Rattle.meta_config.specs.Parts.{AreResolvedParts}
use Rattle.meta_config.proofs.parts.places_of_names.Given as goal

abbrev pub invariant-loop-partial : goal.invariant-loop-partial
invariant-loop-partial l = AreResolvedParts l.partials (take l.partial-index l.partials) l.depends.items
