use Rattle.std.proofs.Common.{◌≡◌, ℕ, List, [], ◌∷◌, ◌++◌, refl, sym, ◌∙◌, ap, subst, append-nil}
use Rattle.std.proofs.lemmas.Result.{err_from_is_err_and}
use Rattle.pull_messages.specs.declared.target_kinds.FleetTarget.TheVariants.{Report}
use Rattle.pull_messages.specs.FleetTargets.{SpellsFleetTarget}
use Rattle.pull_messages.specs.Spelling.{Spells}
use Rattle.pull_messages.specs.Stops.{StopsAt, EndsAt, IsWord, IsAgent, IsAgentForm, IsReportForm}
use Rattle.pull_messages.specs.Targets.{IsPart, agent, agent_parts, word}
use Rattle.pull_messages.proofs.FormLaws.{left_exit, agent_form_in, finished_ok, finished_bad, joined, spells_append, kept_free, kept_first, kept_second, kept_third, reports_end, path_end}
use Rattle.pull_messages.proofs.fleet_forms.report.Goals as goal

pub returns-in_err-id-clause-bad : goal.returns-in_err-id-clause-bad
returns-in_err-id-clause-bad c =
    let p = err_from_is_err_and c.from_residual.result c.from_residual.ensures.1 in
    let chars = c.args.chars.now in
    left_exit c.from_residual.result p.0 c.in_err-id.field-0.0 (StopsAt (IsAgentForm reports_end) chars) (EndsAt IsReportForm chars) p.1 p.2
    (kept_first chars) c.in_err-id.ensures.stop

pub returns-in_err-job-clause-bad : goal.returns-in_err-job-clause-bad
returns-in_err-job-clause-bad c =
    let p = err_from_is_err_and c.from_residual-in_err-job.result c.from_residual-in_err-job.ensures.1 in
    let chars = c.args.chars.now in
    let form = c.in_ok-id.ensures.taken in
    left_exit c.from_residual-in_err-job.result p.0 c.in_err-job.field-0.0 (StopsAt IsAgent c.in_ok-id.rest.now) (EndsAt IsReportForm chars) p.1 p.2
    (λ n stops. kept_second chars form.0 c.in_ok-id.rest.now n form.1 (agent_form_in c.in_ok-id.id reports_end form.0 form.2) stops) c.in_err-job.ensures.stop

pub returns-in_err-rest-clause-bad : goal.returns-in_err-rest-clause-bad
returns-in_err-rest-clause-bad c =
    let p = err_from_is_err_and c.from_residual-in_err-rest.result c.from_residual-in_err-rest.ensures.1 in
    let chars = c.args.chars.now in
    let form = c.in_ok-id.ensures.taken in
    let job = c.in_ok-job.ensures.taken in
    left_exit c.from_residual-in_err-rest.result p.0 c.in_err-rest.field-0.0 (StopsAt (IsWord path_end) c.in_ok-job.rest.now) (EndsAt IsReportForm chars) p.1 p.2
    (λ n stops. kept_third chars form.0 c.in_ok-id.rest.now job.0 c.in_ok-job.rest.now n form.1 (agent_form_in c.in_ok-id.id reports_end form.0 form.2)
    job.1 (c.in_ok-job.job, job.2) stops) c.in_err-rest.ensures.stop

pub returns-clause-bad : goal.returns-clause-bad
returns-clause-bad c =
    let form = c.in_ok-id.ensures.taken in
    let job = c.in_ok-job.ensures.taken in
    let last = c.in_ok-rest.ensures.taken in
    finished_bad IsReportForm c.finished.result (Report c.in_ok-id.id c.in_ok-job.job) c.args.chars.now (form.0 ++ (job.0 ++ last.0)) c.in_ok-rest.rest.now kept_free
    c.finished.ensures (joined _ form.0 c.in_ok-id.rest.now (job.0 ++ last.0) c.in_ok-rest.rest.now form.1 (joined _ job.0 c.in_ok-job.rest.now last.0 c.in_ok-rest.rest.now job.1 last.1))
    (form.0, job.0 ++ last.0, refl, agent_form_in c.in_ok-id.id reports_end form.0 form.2, (job.0, last.0, refl, (c.in_ok-job.job, job.2), last.2))

pub returns-clause-ok : goal.returns-clause-ok
returns-clause-ok c =
    let form = c.in_ok-id.ensures.taken in
    let job = c.in_ok-job.ensures.taken in
    let last = c.in_ok-rest.ensures.taken in
    let id = c.in_ok-id.id in
    let target = Report id c.in_ok-job.job in
    finished_ok (λ t. SpellsFleetTarget t c.args.chars.now) c.finished.result target c.in_ok-rest.rest.now c.finished.ensures
    (λ none.
    let after : Spells IsPart (agent c.in_ok-job.job ∷ word path_end ∷ []) (job.0 ++ (last.0 ++ [])) =
    (job.0, last.0 ++ [], refl, job.2, (last.0, [], refl, last.2, refl)) in
    let split = joined c.args.chars.now form.0 c.in_ok-id.rest.now (job.0 ++ last.0) c.in_ok-rest.rest.now form.1 (joined _ job.0 c.in_ok-job.rest.now last.0 c.in_ok-rest.rest.now job.1 last.1) in
    let whole : c.args.chars.now ≡ form.0 ++ (job.0 ++ (last.0 ++ [])) =
    split ∙ ap (λ (l : List ℕ). (form.0 ++ (job.0 ++ last.0)) ++ l) none ∙ append-nil (form.0 ++ (job.0 ++ last.0))
    ∙ ap (λ (l : List ℕ). form.0 ++ (job.0 ++ l)) (sym (append-nil last.0)) in
    subst (SpellsFleetTarget target) (sym whole)
    (spells_append IsPart (agent_parts id (word reports_end ∷ [])) (agent c.in_ok-job.job ∷ word path_end ∷ []) form.0 (job.0 ++ (last.0 ++ [])) form.2 after))
