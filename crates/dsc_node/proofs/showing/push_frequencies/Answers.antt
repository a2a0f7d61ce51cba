use Rattle.std.proofs.Common.{rules, append_assoc}
use Rattle.dsc_node.specs.Shown.{line}
use Rattle.dsc_node.proofs.showing.push_frequencies.Goals as goal

pub returns : goal.returns
unfolding line
returns c = search (rules, append_assoc)
