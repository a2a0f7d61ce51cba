use Rattle.std.proofs.Common.{◌∙◌}
use Rattle.mof_syntax.proofs.Texts.{place_is}
use Rattle.mof_syntax.proofs.text.place_of.Goals as goal

pub returns : goal.returns
returns c = c.char_count.ensures ∙ place_is _ _ _ c.before-2.ensures
