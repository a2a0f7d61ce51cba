use Rattle.std.proofs.Common.{rules, ◌≡◌, ◌∙◌, [], Some, None, Ok, IfOk, refl, sym}
use Rattle.dsc_terms.specs.Counts.{Rose}
use Rattle.pull_messages.specs.declared.target_kinds.Target.TheVariants.{Content}
use Rattle.pull_store.specs.Rows.{row_of}
use Rattle.pull_store.specs.Store.{is_spent}
use Rattle.pull_outside.specs.Shelf.{Contents}
use Rattle.pull_server.specs.Contents.{content_for}
use Rattle.pull_server.proofs.Judged.{refuses, item_said, Shown}
use Rattle.pull_server.proofs.Rows.{no_row_to_fetch, no_content, spent_content, found_content}
use Rattle.pull_server.proofs.judging.judge_content.Goals as goal

pub returns-in_default-clause-judged : goal.returns-in_default-clause-judged
returns-in_default-clause-judged g c =
    let none : row_of c.args.agent c.args.store.now.rows ≡ None = search rules in
    refuses c.args.store.now c.args.request.now (Ok (Content c.args.agent c.args.name.now)) (g.S.Shelf.holds c.args.shelf.now) (Rose (g.S.Shelf.faults c.args.shelf.now) (g.S.Shelf.faults c.args.shelf.now))
    c.plain.result 404 [] c.plain.ensures refl refl (λ shelf told. c.requires.past shelf ∙ no_row_to_fetch c.args.store.now shelf c.args.request.now c.args.agent c.args.name.now none)

pub returns-clause-judged : goal.returns-clause-judged
returns-clause-judged g c =
    let store = c.args.store.now in
    let request = c.args.request.now in
    let row = c.in-Some.row.now in
    let has : row_of c.args.agent store.rows ≡ Some row = search rules in
    let state : is_spent store ≡ c.is_spent.result = sym c.is_spent.ensures in
    let finds : IfOk c.content-found.result (λ f. (shelf : Contents) → g.S.Shelf.holds c.args.shelf.now ≡ Some shelf → Shown f ≡ content_for shelf row.registration.names c.args.name.now) = search rules in
    item_said store request (Content c.args.agent c.args.name.now) (g.S.Shelf.holds c.args.shelf.now) (g.S.Shelf.faults c.args.shelf.now) (g.S.Shelf.faults c.item_reply.new.shelf)
    c.requires.past refl (λ shelf. content_for shelf row.registration.names c.args.name.now)
    (λ shelf none. no_content store shelf request c.args.agent c.args.name.now row has none)
    (λ shelf bytes is spent. spent_content store shelf request c.args.agent c.args.name.now row bytes has is spent)
    (λ shelf bytes is unspent. found_content store shelf request c.args.agent c.args.name.now row bytes has is unspent)
    c.is_spent.result c.content-found.result c.in_ok-item_reply.field-0 state finds (rw c.item_reply.ensures.faults c.content-found.ensures.cause) c.in_ok-item_reply.ensures.reply
