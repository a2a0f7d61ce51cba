use Rattle.std.proofs.Common.{rules, ◌≡◌, ◌∙◌, [], Some, None, Ok, refl}
use Rattle.dsc_terms.specs.Counts.{Rose}
use Rattle.pull_messages.specs.declared.target_kinds.Target.TheVariants.{Action}
use Rattle.pull_messages.specs.Tables.{query_of}
use Rattle.pull_store.specs.Rows.{row_of}
use Rattle.pull_server.proofs.Judged.{refuses, query_said, query_refused}
use Rattle.pull_server.proofs.Rows.{no_row_to_act}
use Rattle.pull_server.proofs.Said.{read_as, refused_as}
use Rattle.pull_server.proofs.judging.judge_action.Goals as goal

pub returns-in_default-clause-judged : goal.returns-in_default-clause-judged
returns-in_default-clause-judged g c =
    let none : row_of c.args.agent c.args.store.now.rows ≡ None = search rules in
    refuses c.args.store.now c.args.request.now (Ok (Action c.args.agent)) (g.S.Shelf.holds c.args.shelf.now) (Rose (g.S.Shelf.faults c.args.shelf.now) (g.S.Shelf.faults c.args.shelf.now))
    c.plain.result 404 [] c.plain.ensures refl refl (λ shelf told. c.requires shelf ∙ no_row_to_act c.args.store.now shelf c.args.request.now c.args.agent none)

pub returns-in_ok-judge_query-in-Ok-clause-judged : goal.returns-in_ok-judge_query-in-Ok-clause-judged
returns-in_ok-judge_query-in-Ok-clause-judged g c =
    let has : row_of c.args.agent c.args.store.now.rows ≡ Some c.in-Some.row.now = search rules in
    let read = read_as query_of c.as_slice.result.now c.args.request.now.body c.in-Ok.query c.as_slice.ensures c.in-Ok.ensures.answers in
    query_said c.args.store.now c.args.request.now c.args.agent c.in-Some.row.now (g.S.Shelf.holds c.args.shelf.now) (Rose (g.S.Shelf.faults c.args.shelf.now) (g.S.Shelf.faults c.judge_query.new.shelf))
    c.requires has c.in-Ok.query c.in_ok-judge_query-in-Ok.field-0 read c.in_ok-judge_query-in-Ok.ensures.reply

pub returns-in_ok-bad_message-in-Err-clause-judged : goal.returns-in_ok-bad_message-in-Err-clause-judged
returns-in_ok-bad_message-in-Err-clause-judged g c =
    let has : row_of c.args.agent c.args.store.now.rows ≡ Some c.in-Some.row.now = search rules in
    let bad = refused_as query_of c.as_slice.result.now c.args.request.now.body c.in-Err.error c.as_slice.ensures c.in-Err.ensures.answers (λ e. c.in_ok-bad_message-in-Err.ensures.memory e) in
    query_refused c.args.store.now c.args.request.now c.args.agent c.in-Some.row.now (g.S.Shelf.holds c.args.shelf.now) (Rose (g.S.Shelf.faults c.args.shelf.now) (g.S.Shelf.faults c.args.shelf.now))
    c.requires has c.in-Err.error c.in_ok-bad_message-in-Err.field-0 bad c.in_ok-bad_message-in-Err.ensures.says
