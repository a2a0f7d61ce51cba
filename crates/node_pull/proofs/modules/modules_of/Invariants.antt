use Rattle.std.proofs.Common.{◌≡◌, length}
use Rattle.std.specs.Prelude.{filter_map}
use Rattle.node_pull.specs.Packages.{module_of, modules_of, with_modules}
use Rattle.node_pull.proofs.modules.modules_of.Given as goal

abbrev pub invariant-loop-left : goal.invariant-loop-left
invariant-loop-left l = modules_of l.document ≡ with_modules l.modules.items (filter_map module_of l.left)

abbrev pub decreases-loop-left : goal.decreases-loop-left
decreases-loop-left l = length l.left
