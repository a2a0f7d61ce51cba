use Rattle.std.proofs.Common.{sym, ◌∙◌, subst}
use Rattle.std.specs.Str.{chars}
use Rattle.mof_codec.specs.declared.refusing.scalar.Wanted.{Wanted}
use Rattle.mof_codec.specs.Searching.{IsWanted}
use Rattle.mof_codec.proofs.ScalarSearch.{real_begins, begins_real}
use Rattle.mof_codec.proofs.refusing.scalar.is_wanted.Goals as goal

pub returns-in-Real : goal.returns-in-Real
returns-in-Real c = (
  λ e. subst (λ (w : Wanted). IsWanted w (chars c.args.text.now)) (sym c.in-Real.is) (real_begins (chars c.args.text.now) (sym c.is_real.ensures ∙ e)),
  λ r. c.is_real.ensures ∙ begins_real (chars c.args.text.now) (subst (λ (w : Wanted). IsWanted w (chars c.args.text.now)) c.in-Real.is r),
)
