use Rattle.config_script.proofs.Others.{other_changes_nothing}
use Rattle.config_script.proofs.laws.other_blocks_change_nothing.Goals as goal

pub returns : goal.returns
returns c = other_changes_nothing c.args.node.now
