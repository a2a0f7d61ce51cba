use Rattle.mof_codec.proofs.Writing.{adds_join}
use Rattle.config_script.proofs.writing.push_further.Goals as goal

pub returns : goal.returns
returns c = adds_join _ _ _ _ _ c.in_ok-push_ascii.ensures c.in_ok-push_scalar.ensures
