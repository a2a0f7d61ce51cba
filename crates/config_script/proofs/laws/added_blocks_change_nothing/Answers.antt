use Rattle.config_script.proofs.Added.{added_change_nothing}
use Rattle.config_script.proofs.laws.added_blocks_change_nothing.Goals as goal

pub returns : goal.returns
returns c = added_change_nothing c.args.node.now
