use Rattle.std.proofs.Common.{ℕ, List, [], ◌++◌, refl, ◌∙◌, ap}
use Rattle.std.proofs.lemmas.Result.{err_from_is_err_and}
use Rattle.pull_messages.specs.declared.target_kinds.FleetTarget.TheVariants.{Summary}
use Rattle.pull_messages.specs.FleetTargets.{SpellsFleetTarget}
use Rattle.pull_messages.specs.Stops.{StopsAt, EndsAt, IsWord}
use Rattle.pull_messages.proofs.FormLaws.{left_exit, finished_ok, finished_bad, summary_word}
use Rattle.pull_messages.proofs.Languages.{ends_of_stop}
use Rattle.pull_messages.proofs.Words.{word_free}
use Rattle.pull_messages.proofs.fleet_forms.summary.Goals as goal

pub returns-in_err-rest-clause-bad : goal.returns-in_err-rest-clause-bad
returns-in_err-rest-clause-bad c =
    let p = err_from_is_err_and c.from_residual.result c.from_residual.ensures.1 in
    let chars = c.args.chars.now in
    left_exit c.from_residual.result p.0 c.in_err-rest.field-0.0 (StopsAt (IsWord summary_word) chars) (EndsAt (IsWord summary_word) chars) p.1 p.2
    (λ n stops. ends_of_stop (IsWord summary_word) chars n (word_free summary_word) stops) c.in_err-rest.ensures.stop

pub returns-clause-ok : goal.returns-clause-ok
returns-clause-ok c =
    let front = c.in_ok-rest.ensures.taken in
    let chars = c.args.chars.now in
    finished_ok (λ t. SpellsFleetTarget t chars) c.finished.result Summary c.in_ok-rest.rest.now c.finished.ensures
    (λ none. (front.0, [], front.1 ∙ ap (λ (l : List ℕ). front.0 ++ l) none, front.2, refl))

pub returns-clause-bad : goal.returns-clause-bad
returns-clause-bad c =
    let front = c.in_ok-rest.ensures.taken in
    finished_bad (IsWord summary_word) c.finished.result Summary c.args.chars.now front.0 c.in_ok-rest.rest.now (word_free summary_word)
    c.finished.ensures front.1 front.2
