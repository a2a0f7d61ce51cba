use Rattle.config_script.proofs.Pushed.{adds_text}
use Rattle.config_script.proofs.writing.push_text.Goals as goal

pub returns : goal.returns
returns c = adds_text _ _ _ c.utf8.text c.in_ok-push_str.ensures.bytes
