use Rattle.std.proofs.Common.{◌≡◌, ◌<◌, Some, arith}
use Rattle.std.proofs.lemmas.Grind.{common_steps}
use Rattle.rehearsal.specs.declared.line.Line.TheVariants.{Empty, TextBegins, Does}
use Rattle.rehearsal.proofs.ReadTo.{empty_read, line_fails, no_form, step_read, text_begins}
use Rattle.rehearsal.proofs.script.Reader.read_on.Goals as goal

pub returns-in_default-clause-error : goal.returns-in_default-clause-error
returns-in_default-clause-error c =
    let reader = c.args.self.now in
    let bad = rw c.in_default.is at c.from_utf8.ensures.cases in
    line_fails reader.script.now reader.at reader.line reader.steps.items reader.texts.items c.requires.so_far c.line_length-length.result c.requires.more c.line_length-length.ensures.length
    (λ utf8. absurd (bad.0 utf8))

pub returns-in-None-clause-error : goal.returns-in-None-clause-error
returns-in-None-clause-error c =
    let reader = c.args.self.now in
    no_form reader.script.now reader.at reader.line reader.steps.items reader.texts.items c.requires.so_far c.line_length-length.result c.requires.more c.line_length-length.ensures.length
    c.deref.result.now c.in-Ok.line.now c.deref.ensures.value c.in-Ok.ensures.cases.0 (rw c.in-None.is at c.in_ok-read_line.ensures)

pub returns-in-Some-Empty-clause-so_far : goal.returns-in-Some-Empty-clause-so_far
returns-in-Some-Empty-clause-so_far c =
    let reader = c.args.self.now in
    let past = c.after_line-past in
    let on : reader.at < past.result = grind (arith, past.ensures.feed, past.ensures.last, c.requires.more) in
    let is : c.in_ok-read_line.field-0 ≡ Some Empty = cc in
    empty_read reader.script.now reader.at reader.line reader.steps.items reader.texts.items c.requires.so_far c.line_length-length.result c.requires.more c.line_length-length.ensures.length
    past.result past.ensures.same on past.ensures.within c.deref.result.now c.in-Ok.line.now c.deref.ensures.value c.in-Ok.ensures.cases.0 c.in-Ok.ensures.cases.1
    (rw is at c.in_ok-read_line.ensures)

pub returns-in_ok-push-in-Some-Does-clause-so_far : goal.returns-in_ok-push-in-Some-Does-clause-so_far
returns-in_ok-push-in-Some-Does-clause-so_far c =
    let reader = c.args.self.now in
    let past = c.after_line-past in
    let on : reader.at < past.result = grind (arith, past.ensures.feed, past.ensures.last, c.requires.more) in
    let is : c.in_ok-read_line.field-0 ≡ Some (Does c.in-Some-Does.step) = cc in
    step_read reader.script.now reader.at reader.line reader.steps.items reader.texts.items c.requires.so_far c.line_length-length.result c.requires.more c.line_length-length.ensures.length
    past.result past.ensures.same on past.ensures.within c.deref.result.now c.in-Ok.line.now c.deref.ensures.value c.in-Ok.ensures.cases.0 c.in-Ok.ensures.cases.1
    c.in-Some-Does.step c.push.new.self.items (rw is at c.in_ok-read_line.ensures) c.in_ok-push-in-Some-Does.ensures.items

pub take_text-requires-clause-begins : goal.take_text-requires-clause-begins
take_text-requires-clause-begins c =
    let reader = c.args.self.now in
    let past = c.after_line-past in
    let on : reader.at < past.result = grind (arith, past.ensures.feed, past.ensures.last, c.requires.more) in
    let is : c.in_ok-read_line.field-0 ≡ Some (TextBegins c.in-Some-TextBegins.name) = cc in
    text_begins reader.script.now reader.at reader.line reader.steps.items reader.texts.items c.requires.so_far c.line_length-length.result c.requires.more c.line_length-length.ensures.length
    past.result past.ensures.same on past.ensures.within c.deref.result.now c.in-Ok.line.now c.deref.ensures.value c.in-Ok.ensures.cases.0 c.in-Ok.ensures.cases.1
    c.in-Some-TextBegins.name (rw is at c.in_ok-read_line.ensures)
