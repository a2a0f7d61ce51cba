use Rattle.std.proofs.Common.{rules, ◌≡◌, ◌≤◌, ◌∙◌, true, false, [], Ok, refl, sym, length, arith}
use Rattle.dsc_terms.specs.Counts.{Rose}
use Rattle.pull_messages.specs.declared.target_kinds.Target.TheVariants.{Node}
use Rattle.pull_messages.specs.Tables.{registration_of}
use Rattle.pull_store.specs.Sound.{most_bytes}
use Rattle.pull_server.specs.Asked.{asked}
use Rattle.pull_server.specs.Judging.{kept_outcome}
use Rattle.pull_server.specs.Messages.{fault_text}
use Rattle.pull_server.specs.Signed.{is_signed}
use Rattle.pull_server.specs.Table.{outcome_of}
use Rattle.pull_server.proofs.Judged.{refuses, asks_registration}
use Rattle.pull_server.proofs.Rows.{unsigned_request, bad_registration, registers}
use Rattle.pull_server.proofs.Said.{read_as, refused_as}
use Rattle.pull_server.proofs.Shelves.{of_told, then_of}
use Rattle.pull_server.proofs.judging.judge_registration.Goals as goal

pub returns-in-Ok-false-clause-judged : goal.returns-in-Ok-false-clause-judged
returns-in-Ok-false-clause-judged g c =
    let unsigned : c.in-Ok-false.field-0 ≡ false = search rules in
    refuses c.args.store.now c.args.request.now (Ok (Node c.args.agent)) (g.S.Shelf.holds c.args.shelf.now) (Rose (g.S.Shelf.faults c.args.shelf.now) (g.S.Shelf.faults c.is_signed.new.shelf))
    c.plain.result 401 [] c.plain.ensures refl refl (λ shelf told.
    c.requires.past shelf ∙ unsigned_request c.args.store.now shelf c.args.request.now c.args.agent (sym (of_told (λ contents. c.in-Ok-false.field-0 ≡ is_signed contents.keys c.args.request.now) (g.S.Shelf.holds c.args.shelf.now) c.in-Ok-false.ensures.signed shelf told) ∙ unsigned))

pub returns-in-Ok-clause-judged : goal.returns-in-Ok-clause-judged
returns-in-Ok-clause-judged g c =
    let signed : c.in-Ok-true.field-0 ≡ true = search rules in
    let read = read_as registration_of c.as_slice.result.now c.args.request.now.body c.in-Ok.registration c.as_slice.ensures c.in-Ok.ensures.answers in
    let small : length c.as_slice.result.now ≤ most_bytes = search rules in (
      refl,
      record { sized = c.in-Ok.ensures.sized; whole = omega (arith, c.in-Ok.ensures.weighed, small) },
      record {
        asks = asks_registration c.args.request.now c.args.agent c.in-Ok.registration read;
        passes = then_of (λ contents. c.in-Ok-true.field-0 ≡ is_signed contents.keys c.args.request.now)
            (λ contents. outcome_of (asked c.args.store.now contents c.args.request.now (Ok (Node c.args.agent))) ≡ kept_outcome (asked c.args.store.now contents c.args.request.now (Ok (Node c.args.agent))))
            (g.S.Shelf.holds c.args.shelf.now) c.in-Ok-true.ensures.signed
            (λ contents is. c.requires.past contents ∙ registers c.args.store.now contents c.args.request.now c.args.agent c.in-Ok.registration (sym is ∙ signed) read);
      },
    )

pub returns-in_ok-bad_message-in-Err-clause-judged : goal.returns-in_ok-bad_message-in-Err-clause-judged
returns-in_ok-bad_message-in-Err-clause-judged g c =
    let signed : c.in-Ok-true.field-0 ≡ true = search rules in
    let bad = refused_as registration_of c.as_slice.result.now c.args.request.now.body c.in-Err.error c.as_slice.ensures c.in-Err.ensures.answers (λ e. c.in_ok-bad_message-in-Err.ensures.memory e) in
    refuses c.args.store.now c.args.request.now (Ok (Node c.args.agent)) (g.S.Shelf.holds c.args.shelf.now) (Rose (g.S.Shelf.faults c.args.shelf.now) (g.S.Shelf.faults c.is_signed.new.shelf))
    c.in_ok-bad_message-in-Err.field-0 400 (fault_text c.in-Err.error) c.in_ok-bad_message-in-Err.ensures.says refl refl (λ shelf told.
    c.requires.past shelf ∙ bad_registration c.args.store.now shelf c.args.request.now c.args.agent c.in-Err.error
    (sym (of_told (λ contents. c.in-Ok-true.field-0 ≡ is_signed contents.keys c.args.request.now) (g.S.Shelf.holds c.args.shelf.now) c.in-Ok-true.ensures.signed shelf told) ∙ signed) bad)
