use Rattle.std.proofs.Common.{◌<◌, arith, length}
use Rattle.config_script.proofs.Texts.{shorter_is_other}
use Rattle.config_script.proofs.name.is_folded.Goals as goal

pub returns-then-text-word : goal.returns-then-text-word
returns-then-text-word c =
    let short : length c.args.text.now < length c.args.word.now = omega arith in
    shorter_is_other c.args.text.now c.args.word.now c.utf8.text short
