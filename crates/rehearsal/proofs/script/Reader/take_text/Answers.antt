use Rattle.rehearsal.proofs.ReadTo.{text_fails, text_read}
use Rattle.rehearsal.proofs.script.Reader.take_text.Goals as goal

pub returns-in_ok-push-in-Ok-clause-so_far : goal.returns-in_ok-push-in-Ok-clause-so_far
returns-in_ok-push-in-Ok-clause-so_far c =
    let reader = c.args.self.now in
    let end = c.in-Ok.end in
    text_read reader.script.now reader.at reader.line c.args.from c.args.name reader.steps.items reader.texts.items c.requires.so_far c.requires.begins
    end.used end.past end.lines c.of-text.result c.push.new.self.items c.in-Ok.ensures.ends c.of-text.ensures c.in_ok-push-in-Ok.ensures.items

pub returns-in-Err-clause-error : goal.returns-in-Err-clause-error
returns-in-Err-clause-error c =
    let reader = c.args.self.now in
    text_fails reader.script.now reader.at reader.line c.args.from c.args.name reader.steps.items reader.texts.items c.requires.so_far c.requires.begins
    c.in-Err.field-0.lines c.in-Err.ensures.open.0
