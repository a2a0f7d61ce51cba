use Rattle.config_script.proofs.Pushed.{adds_three}
use Rattle.config_script.proofs.writing.push_literal.Goals as goal

pub returns : goal.returns
returns c = adds_three _ _ _ _ _ _ _ c.in_ok-push_ascii.ensures c.in_ok-push_name.ensures c.in_ok-push_ascii-2.ensures
