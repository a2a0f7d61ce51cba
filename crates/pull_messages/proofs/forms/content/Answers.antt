use Rattle.std.proofs.Common.{◌≡◌, ℕ, List, [], ◌∷◌, ◌++◌, codes, refl, sym, ◌∙◌, ap, subst, append-nil}
use Rattle.std.proofs.lemmas.Result.{err_from_is_err_and}
use Rattle.pull_messages.specs.declared.target_kinds.Target.TheVariants.{Content}
use Rattle.pull_messages.specs.Spelling.{Spells}
use Rattle.pull_messages.specs.Stops.{StopsAt, EndsAt, IsWord, IsAnyQuoted, IsAgentForm, IsContentForm}
use Rattle.pull_messages.specs.Targets.{IsPart, agent_parts, word, quoted, SpellsTarget}
use Rattle.pull_messages.proofs.FormLaws.{left_exit, agent_form_in, finished_ok, finished_bad, joined, spells_append, content_end, content_free, content_first, content_second, content_third}
use Rattle.pull_messages.proofs.forms.content.Goals as goal

pub returns-in_err-id-clause-bad : goal.returns-in_err-id-clause-bad
returns-in_err-id-clause-bad c =
    let p = err_from_is_err_and c.from_residual.result c.from_residual.ensures.1 in
    let chars = c.args.chars.now in
    left_exit c.from_residual.result p.0 c.in_err-id.field-0.0 (StopsAt (IsAgentForm content_end) chars) (EndsAt IsContentForm chars) p.1 p.2
    (content_first chars) c.in_err-id.ensures.stop

pub returns-in_err-name-clause-bad : goal.returns-in_err-name-clause-bad
returns-in_err-name-clause-bad c =
    let p = err_from_is_err_and c.from_residual-in_err-name.result c.from_residual-in_err-name.ensures.1 in
    let chars = c.args.chars.now in
    let form = c.in_ok-id.ensures.taken in
    left_exit c.from_residual-in_err-name.result p.0 c.in_err-name.field-0.0 (StopsAt (IsAnyQuoted 41) c.in_ok-id.rest.now) (EndsAt IsContentForm chars) p.1 p.2
    (λ n stops. content_second chars form.0 c.in_ok-id.rest.now n form.1 (agent_form_in c.in_ok-id.id content_end form.0 form.2) stops) c.in_err-name.ensures.stop

pub returns-in_err-rest-clause-bad : goal.returns-in_err-rest-clause-bad
returns-in_err-rest-clause-bad c =
    let p = err_from_is_err_and c.from_residual-in_err-rest.result c.from_residual-in_err-rest.ensures.1 in
    let chars = c.args.chars.now in
    let form = c.in_ok-id.ensures.taken in
    let name = c.in_ok-name.ensures.taken in
    left_exit c.from_residual-in_err-rest.result p.0 c.in_err-rest.field-0.0 (StopsAt (IsWord (codes "/ConfigurationContent")) c.in_ok-name.rest.now) (EndsAt IsContentForm chars) p.1 p.2
    (λ n stops. content_third chars form.0 c.in_ok-id.rest.now name.0 c.in_ok-name.rest.now n form.1 (agent_form_in c.in_ok-id.id content_end form.0 form.2)
    name.1 (c.in_ok-name.name, name.2) stops) c.in_err-rest.ensures.stop

pub returns-clause-bad : goal.returns-clause-bad
returns-clause-bad c =
    let form = c.in_ok-id.ensures.taken in
    let name = c.in_ok-name.ensures.taken in
    let last = c.in_ok-rest.ensures.taken in
    finished_bad IsContentForm c.finished.result (Content c.in_ok-id.id c.in_ok-name.name) c.args.chars.now (form.0 ++ (name.0 ++ last.0)) c.in_ok-rest.rest.now content_free
    c.finished.ensures (joined _ form.0 c.in_ok-id.rest.now (name.0 ++ last.0) c.in_ok-rest.rest.now form.1 (joined _ name.0 c.in_ok-name.rest.now last.0 c.in_ok-rest.rest.now name.1 last.1))
    (form.0, name.0 ++ last.0, refl, agent_form_in c.in_ok-id.id content_end form.0 form.2, (name.0, last.0, refl, (c.in_ok-name.name, name.2), last.2))

pub returns-clause-ok : goal.returns-clause-ok
returns-clause-ok c =
    let form = c.in_ok-id.ensures.taken in
    let name = c.in_ok-name.ensures.taken in
    let last = c.in_ok-rest.ensures.taken in
    let id = c.in_ok-id.id in
    finished_ok (λ t. SpellsTarget t c.args.chars.now) c.finished.result (Content id c.in_ok-name.name) c.in_ok-rest.rest.now c.finished.ensures
    (λ none.
    let after : Spells IsPart (quoted c.in_ok-name.name 41 ∷ word (codes "/ConfigurationContent") ∷ []) (name.0 ++ (last.0 ++ [])) =
    (name.0, last.0 ++ [], refl, name.2, (last.0, [], refl, last.2, refl)) in
    let split = joined c.args.chars.now form.0 c.in_ok-id.rest.now (name.0 ++ last.0) c.in_ok-rest.rest.now form.1 (joined _ name.0 c.in_ok-name.rest.now last.0 c.in_ok-rest.rest.now name.1 last.1) in
    let whole : c.args.chars.now ≡ form.0 ++ (name.0 ++ (last.0 ++ [])) =
    split ∙ ap (λ (l : List ℕ). (form.0 ++ (name.0 ++ last.0)) ++ l) none ∙ append-nil (form.0 ++ (name.0 ++ last.0))
    ∙ ap (λ (l : List ℕ). form.0 ++ (name.0 ++ l)) (sym (append-nil last.0)) in
    subst (SpellsTarget (Content id c.in_ok-name.name)) (sym whole)
    (spells_append IsPart (agent_parts id (word content_end ∷ [])) (quoted c.in_ok-name.name 41 ∷ word (codes "/ConfigurationContent") ∷ []) form.0 (name.0 ++ (last.0 ++ [])) form.2 after))
