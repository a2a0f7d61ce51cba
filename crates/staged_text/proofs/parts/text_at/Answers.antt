use Rattle.std.proofs.Common.{◌≡◌}
use Rattle.std.specs.Prelude.{Some}
use Rattle.staged_text.specs.Texts.{parts_at}
use Rattle.staged_text.proofs.Spelled.{parts_spell}
use Rattle.staged_text.proofs.parts.text_at.Goals as goal

pub text_of-requires : goal.text_of-requires
text_of-requires c =
    let held : parts_at c.args.stage c.args.node.now ≡ Some c.as_slice.result.now = cc in
    parts_spell c.args.stage c.args.node.now c.as_slice.result.now c.requires held
