use Rattle.dsc_node.proofs.LineLaws.{lines_spell_one_trace}
use Rattle.dsc_node.proofs.laws.lines_spell_one_trace.Goals as goal

pub returns : goal.returns
returns c = lines_spell_one_trace
