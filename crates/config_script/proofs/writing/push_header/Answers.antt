use Rattle.std.specs.Str.{chars}
use Rattle.config_script.proofs.Pushed.{adds_header}
use Rattle.config_script.proofs.writing.push_header.Goals as goal

pub returns : goal.returns
returns c = adds_header _ _ _ _ (chars c.args.title.now) c.in_ok-push_ascii.ensures c.in_ok-push_name.ensures c.in_ok-push_ascii-2.ensures
