use Rattle.std.proofs.Common.{◌≡◌, Bool, true, false, sym, ◌∙◌}
use Rattle.mof_codec.proofs.ScalarSearch.{never_stuck}
use Rattle.mof_codec.proofs.FormSearch.{real_found, real_none, here_found, here_none}
use Rattle.mof_codec.proofs.Truths.{clash}
use Rattle.mof_codec.proofs.refusing.form.form_at.Goals as goal

pub returns-in-Some-clause-some : goal.returns-in-Some-clause-some
returns-in-Some-clause-some c =
    let split = c.split_chars.ensures in
    real_found _ _ c.requires.within c.in-Some.at (rw split.rest at (sym c.begins_with.ensures ∙ c.if-begins_with.true)) (rw split.front at c.in-Some.ensures.some)

pub returns-in-None-clause-none : goal.returns-in-None-clause-none
returns-in-None-clause-none c =
    let split = c.split_chars.ensures in
    real_none _ _ c.requires.within (rw split.rest at (sym c.begins_with.ensures ∙ c.if-begins_with.true)) (rw split.front at c.in-None.ensures.none)

pub returns-in_err-state-clause-none : goal.returns-in_err-state-clause-none
returns-in_err-state-clause-none c = absurd (never_stuck _ c.requires.fault.front (rw c.split_chars.ensures.front at c.in_err-state.ensures.none))

pub returns-in-Some-form_here-clause-some : goal.returns-in-Some-form_here-clause-some
returns-in-Some-form_here-clause-some c =
    let split = c.split_chars.ensures in
    here_found _ _ c.requires.within _ (rw split.front at c.in_ok-state.ensures.some) (λ e. clash e (rw split.rest at (sym c.begins_with.ensures ∙ c.if-begins_with.false))) c.in-Some-form_here.form
    (rw split.rest at c.in-Some-form_here.ensures.some)

pub returns-in-None-form_here-clause-none : goal.returns-in-None-form_here-clause-none
returns-in-None-form_here-clause-none c =
    let split = c.split_chars.ensures in
    here_none _ _ c.requires.within _ (rw split.front at c.in_ok-state.ensures.some) (λ e. clash e (rw split.rest at (sym c.begins_with.ensures ∙ c.if-begins_with.false)))
    (rw split.rest at c.in-None-form_here.ensures.none)
