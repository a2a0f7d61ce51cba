use Rattle.mof_codec.proofs.Writing.{adds_ascii}
use Rattle.config_script.proofs.writing.push_ascii.Goals as goal

pub returns : goal.returns
returns c = adds_ascii _ _ _ c.requires c.in_ok-push_str.ensures.bytes
