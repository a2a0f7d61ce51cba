use Rattle.std.proofs.Common.{◌↔◌, length}
use Rattle.mof_values.specs.Fold.{SameName}
use Rattle.config_script.specs.Named.{name_chars}
use Rattle.config_script.proofs.name.Name.is_same.Given as goal

abbrev pub invariant-loop-others : goal.invariant-loop-others
invariant-loop-others l = SameName (name_chars l.self) l.chars ↔ SameName (name_chars l.left) l.others

abbrev pub decreases-loop-others : goal.decreases-loop-others
decreases-loop-others l = length l.others
