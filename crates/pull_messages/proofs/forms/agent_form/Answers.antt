use Rattle.std.proofs.Common.{arith}
use Rattle.std.proofs.lemmas.Result.{err_from_is_err_and}
use Rattle.pull_messages.specs.Stops.{StopsAt, IsWord, IsAgent, IsAgentForm, Then}
use Rattle.pull_messages.proofs.Agents.{agent_free, agent_some}
use Rattle.pull_messages.proofs.FormLaws.{left_exit, word_some, agent_form_taken, path_word}
use Rattle.pull_messages.proofs.Languages.{stop_first, stop_second, then_some}
use Rattle.pull_messages.proofs.Words.{word_free, bytes_scalars}
use Rattle.pull_messages.proofs.forms.agent_form.Goals as goal

pub returns-in_err-rest-clause-stop : goal.returns-in_err-rest-clause-stop
returns-in_err-rest-clause-stop c =
    let p = err_from_is_err_and c.from_residual.result c.from_residual.ensures.1 in
    let chars = c.args.chars.now in
    let end = c.args.end.now in
    let scalars = bytes_scalars end (λ i. omega (arith, c.type_inv.end i)) in
    left_exit c.from_residual.result p.0 c.in_err-rest.field-0.0 (StopsAt (IsWord path_word) chars) (StopsAt (IsAgentForm end) chars) p.1 p.2
    (λ n stops. stop_first (IsWord path_word) (Then IsAgent (IsWord end)) chars n (word_free path_word)
    (then_some IsAgent (IsWord end) agent_some (word_some end scalars)) stops)
    c.in_err-rest.ensures.stop

pub returns-in_err-id-clause-stop : goal.returns-in_err-id-clause-stop
returns-in_err-id-clause-stop c =
    let p = err_from_is_err_and c.from_residual-in_err-id.result c.from_residual-in_err-id.ensures.1 in
    let chars = c.args.chars.now in
    let end = c.args.end.now in
    let scalars = bytes_scalars end (λ i. omega (arith, c.type_inv.end i)) in
    let first = c.in_ok-rest.ensures.taken in
    left_exit c.from_residual-in_err-id.result p.0 c.in_err-id.field-0.0 (StopsAt IsAgent c.in_ok-rest.rest.now) (StopsAt (IsAgentForm end) chars) p.1 p.2
    (λ n stops. stop_second (IsWord path_word) (Then IsAgent (IsWord end)) chars first.0 c.in_ok-rest.rest.now n (word_free path_word) first.1 first.2
    (stop_first IsAgent (IsWord end) c.in_ok-rest.rest.now n agent_free (word_some end scalars) stops))
    c.in_err-id.ensures.stop

pub returns-in_err-rest-2-clause-stop : goal.returns-in_err-rest-2-clause-stop
returns-in_err-rest-2-clause-stop c =
    let p = err_from_is_err_and c.from_residual-in_err-rest-2.result c.from_residual-in_err-rest-2.ensures.1 in
    let chars = c.args.chars.now in
    let end = c.args.end.now in
    let first = c.in_ok-rest.ensures.taken in
    let second = c.in_ok-id.ensures.taken in
    left_exit c.from_residual-in_err-rest-2.result p.0 c.in_err-rest-2.field-0.0 (StopsAt (IsWord end) c.in_ok-id.rest.now) (StopsAt (IsAgentForm end) chars) p.1 p.2
    (λ n stops. stop_second (IsWord path_word) (Then IsAgent (IsWord end)) chars first.0 c.in_ok-rest.rest.now n (word_free path_word) first.1 first.2
    (stop_second IsAgent (IsWord end) c.in_ok-rest.rest.now second.0 c.in_ok-id.rest.now n agent_free second.1 (c.in_ok-id.id, second.2) stops))
    c.in_err-rest-2.ensures.stop

pub returns-clause-taken : goal.returns-clause-taken
returns-clause-taken c =
    let first = c.in_ok-rest.ensures.taken in
    let second = c.in_ok-id.ensures.taken in
    let third = c.in_ok-rest-2.ensures.taken in
    agent_form_taken c.args.chars.now first.0 c.in_ok-rest.rest.now second.0 c.in_ok-id.rest.now third.0 c.in_ok-rest-2.rest.now c.args.end.now c.in_ok-id.id
    first.1 first.2 second.1 second.2 third.1 third.2
