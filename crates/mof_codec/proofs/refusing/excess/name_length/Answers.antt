use Rattle.std.proofs.Common.{rules}
use Rattle.mof_syntax.proofs.Texts.{chars_shorter}
use Rattle.mof_codec.proofs.refusing.excess.name_length.Goals as goal

pub overflow_add-length : goal.overflow_add-length
overflow_add-length c =
    let few = chars_shorter _ c.utf8.text in
    search rules
