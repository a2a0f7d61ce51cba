use Rattle.config_script.proofs.Pushed.{adds_number}
use Rattle.config_script.proofs.writing.push_number.Goals as goal

pub returns : goal.returns
returns c = adds_number _ _ _ _ _ _ c.args.number.plain c.sign.ensures c.in_ok-push_ascii.ensures c.in_ok-push_text.ensures
