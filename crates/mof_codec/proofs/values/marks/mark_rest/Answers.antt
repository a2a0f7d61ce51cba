use Rattle.std.proofs.Common.{◌∙◌, ap, ℕ}
use Rattle.std.specs.Str.{chars}
use Rattle.mof_codec.specs.Values.{char_rest}
use Rattle.mof_codec.proofs.Options.{if_some, if_none}
use Rattle.mof_codec.proofs.MarkFronts.{begins_mark, begins_no_mark}
use Rattle.mof_codec.proofs.values.marks.mark_rest.Goals as goal

pub returns-clause-some : goal.returns-clause-some
returns-clause-some c =
    if_some _ _ _ (c.char_rest.ensures ∙ ap (λ (n : ℕ). char_rest n (chars c.separators_rest.result.now)) c.code.ensures) (λ rest e. begins_mark _ _ _ rest c.separators_rest.ensures.stands e)

pub returns-clause-none : goal.returns-clause-none
returns-clause-none c =
    if_none _ _ _ (c.char_rest.ensures ∙ ap (λ (n : ℕ). char_rest n (chars c.separators_rest.result.now)) c.code.ensures) (λ e. begins_no_mark _ _ _ c.separators_rest.ensures.stands c.separators_rest.ensures.stops e)
