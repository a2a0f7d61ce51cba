use Rattle.std.proofs.Common.{rules, ◌≡◌, ◌∙◌, ℕ, false, [], None, Ok, refl, sym, ap, is_none, List}
use Rattle.dsc_terms.specs.Counts.{Rose}
use Rattle.pull_messages.specs.declared.target_kinds.Target.TheVariants.{SendReport}
use Rattle.pull_messages.specs.Tables.{report_of}
use Rattle.pull_store.specs.Rows.{row_of}
use Rattle.pull_server.specs.Asked.{asked}
use Rattle.pull_server.specs.Judging.{kept_outcome}
use Rattle.pull_server.specs.Messages.{fault_text}
use Rattle.pull_server.specs.Table.{outcome_of}
use Rattle.pull_server.proofs.Judged.{refuses, asks_report, reported_change}
use Rattle.pull_server.proofs.Rows.{no_row_to_report, bad_report, reports}
use Rattle.pull_server.proofs.Said.{read_as, refused_as}
use Rattle.pull_server.proofs.Shelves.{of_all}
use Rattle.pull_server.proofs.judging.judge_report.Goals as goal

pub returns-in_default-clause-judged : goal.returns-in_default-clause-judged
returns-in_default-clause-judged g c =
    let none : row_of c.args.agent c.args.store.now.rows ≡ None = search rules in
    refuses c.args.store.now c.args.request.now (Ok (SendReport c.args.agent)) (g.S.Shelf.holds c.args.shelf.now) (Rose (g.S.Shelf.faults c.args.shelf.now) (g.S.Shelf.faults c.args.shelf.now))
    c.plain.result 404 [] c.plain.ensures refl refl (λ shelf told.
    c.requires.past shelf ∙ no_row_to_report c.args.store.now shelf c.args.request.now c.args.agent none)

pub returns-in_ok-to_vec-in-Ok-clause-judged : goal.returns-in_ok-to_vec-in-Ok-clause-judged
returns-in_ok-to_vec-in-Ok-clause-judged g c =
    let has : is_none (row_of c.args.agent c.args.store.now.rows) ≡ false = search rules in
    let same : c.in_ok-to_vec-in-Ok.field-0.items ≡ c.args.request.now.body = search rules in
    let read = read_as report_of c.as_slice.result.now c.args.request.now.body c.in-Ok.report c.as_slice.ensures c.in-Ok.ensures in (
      refl,
      has,
      same,
      record {
        asks = asks_report c.args.request.now c.args.agent c.in-Ok.report read ∙ ap (λ (l : List ℕ). reported_change c.args.agent c.in-Ok.report.job l) (sym same);
        passes = of_all
            (λ contents. outcome_of (asked c.args.store.now contents c.args.request.now (Ok (SendReport c.args.agent))) ≡ kept_outcome (asked c.args.store.now contents c.args.request.now (Ok (SendReport c.args.agent))))
            (g.S.Shelf.holds c.args.shelf.now) (λ contents. c.requires.past contents ∙ reports c.args.store.now contents c.args.request.now c.args.agent c.in-Ok.report has read);
      },
    )

pub returns-in_ok-bad_message-in-Err-clause-judged : goal.returns-in_ok-bad_message-in-Err-clause-judged
returns-in_ok-bad_message-in-Err-clause-judged g c =
    let has : is_none (row_of c.args.agent c.args.store.now.rows) ≡ false = search rules in
    let bad = refused_as report_of c.as_slice.result.now c.args.request.now.body c.in-Err.error c.as_slice.ensures c.in-Err.ensures (λ e. c.in_ok-bad_message-in-Err.ensures.memory e) in
    refuses c.args.store.now c.args.request.now (Ok (SendReport c.args.agent)) (g.S.Shelf.holds c.args.shelf.now) (Rose (g.S.Shelf.faults c.args.shelf.now) (g.S.Shelf.faults c.args.shelf.now))
    c.in_ok-bad_message-in-Err.field-0 400 (fault_text c.in-Err.error) c.in_ok-bad_message-in-Err.ensures.says refl refl (λ shelf told.
    c.requires.past shelf ∙ bad_report c.args.store.now shelf c.args.request.now c.args.agent c.in-Err.error has bad)
