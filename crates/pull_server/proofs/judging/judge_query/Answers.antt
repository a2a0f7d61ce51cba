use Rattle.std.proofs.Common.{rules, ◌≡◌, ◌∙◌, false, ap, List, ℕ}
use Rattle.dsc_terms.specs.Counts.{Rose}
use Rattle.pull_messages.specs.Writing.{action_text}
use Rattle.pull_store.specs.Store.{is_spent}
use Rattle.pull_server.specs.Actions.{action_for, asks_unnamed}
use Rattle.pull_server.proofs.Judged.{query_told}
use Rattle.pull_server.proofs.judging.judge_query.Goals as goal

pub returns-in_ok-write_action-in-Ok-clause-reply : goal.returns-in_ok-write_action-in-Ok-clause-reply
returns-in_ok-write_action-in-Ok-clause-reply g c =
    let names = c.args.row.now.registration.names in
    let named : asks_unnamed names c.args.query.now ≡ false = search rules in
    let fresh : is_spent c.args.store.now ≡ false = search rules in
    query_told (is_spent c.args.store.now) names c.args.query.now (g.S.Shelf.holds c.args.shelf.now) (Rose (g.S.Shelf.faults c.args.shelf.now) (g.S.Shelf.faults c.action.new.shelf))
    c.in_ok-write_action-in-Ok.field-0.items c.message_reply.result named fresh
    (λ shelf told. c.in_ok-write_action-in-Ok.ensures.text ∙ ap action_text (c.in-Ok.ensures.action shelf told ∙ ap (λ (l : List (List ℕ)). action_for shelf l c.args.query.now) c.as_slice-names.ensures))
    c.message_reply.ensures
