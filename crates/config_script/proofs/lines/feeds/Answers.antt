use Rattle.std.proofs.Common.{ap, length, rules}
use Rattle.mof_syntax.proofs.Texts.{chars_shorter}
use Rattle.config_script.proofs.lines.feeds.Goals as goal

pub overflow_add-count : goal.overflow_add-count
overflow_add-count c =
    let few = chars_shorter _ c.utf8.text in
    let here = ap length c.in-Some.ensures.some in
    search rules
