use Rattle.std.proofs.Common.{take}
use Rattle.node_pull.specs.Names.{AreNamesAt}
use Rattle.node_pull.proofs.names.names_at.Given as goal

abbrev pub invariant-loop-place : goal.invariant-loop-place
invariant-loop-place l = AreNamesAt l.partials (take l.place-index l.places) l.names.items
