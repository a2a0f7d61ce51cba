-- What contracts see of staged parts.
use Rattle.std.specs.Prelude.{List}
use Rattle.partial_merge.specs.declared.part.Part.{Part}
use Rattle.node_state.specs.declared.list.Staged.{Staged}

abbrev pub parts_of : Staged → List Part
parts_of staged = staged.parts
