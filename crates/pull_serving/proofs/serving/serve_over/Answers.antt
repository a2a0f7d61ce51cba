use Rattle.std.proofs.Common.{◌∙◌, refl, sym, ap, subst, map, string_bytes, Result, Err}
use Rattle.serve_words.specs.declared.words.ServeWords.{ServeWords}
use Rattle.serve_words.specs.declared.words.WordsError.{WordsError}
use Rattle.pull_serving.specs.declared.status.ServeStatus.{ServeStatus}
use Rattle.pull_serving.specs.Serving.{ServiceOf, WritesRefusal, no_memory, outside_of, ran, refused, unopened}
use Rattle.pull_serving.proofs.Opened.{opened_run}
use Rattle.pull_serving.proofs.serving.serve_over.Goals as goal

abbrev no_values : WordsError → Result ServeWords WordsError
no_values e = Err e

pub returns-in-Err-Usage : goal.returns-in-Err-Usage
returns-in-Err-Usage g c =
    let arguments = map string_bytes c.args.arguments.now in
    let old = outside_of g.G.Door g.S.Shelf g.K.Ends c.args.door.now c.args.shelf.now c.args.disk.now c.args.output.now in
    let new = outside_of g.G.Door g.S.Shelf g.K.Ends c.args.door.now c.args.shelf.now c.args.disk.now c.refuse.new.output in
    subst (λ (s : ServeStatus). ServiceOf g.A.Answerer.replies g.D.Disk arguments old new s) (sym c.refuse.ensures.status)
    (refused (c.in-Err-Usage.ensures.usage (ap no_values c.in-Err-Usage.field-0-is)) refl refl c.refuse.ensures.writes)

pub returns-in-Err-Memory : goal.returns-in-Err-Memory
returns-in-Err-Memory g c = no_memory refl

pub returns-in-Ok-open : goal.returns-in-Ok-open
returns-in-Ok-open g c =
    let old = outside_of g.G.Door g.S.Shelf g.K.Ends c.args.door.now c.args.shelf.now c.args.disk.now c.args.output.now in
    let new = outside_of g.G.Door g.S.Shelf g.K.Ends c.serve_turns.new.door c.serve_turns.new.shelf c.serve_turns.new.disk c.serve_turns.new.output in
    ran c.in-Ok.values c.serve_turns.result c.in-Ok.ensures.taken
    (opened_run g.A.Answerer.replies g.D.Disk c.in-Ok.values.connections c.args.disk.now c.open.new.disk c.serve_turns.new.disk old.around new.around old.output new.output
    c.serve_turns.result (g.A.Answerer.store c.in-Ok-open.service) (g.A.Answerer.store c.serve_turns.new.service) c.in-Ok-open.ensures.opened c.open.ensures.count c.open.ensures.any_moment c.serve_turns.ensures.run c.serve_turns.ensures.shelf)

pub returns : goal.returns
returns g c =
    let arguments = map string_bytes c.args.arguments.now in
    let old = outside_of g.G.Door g.S.Shelf g.K.Ends c.args.door.now c.args.shelf.now c.args.disk.now c.args.output.now in
    let new = outside_of g.G.Door g.S.Shelf g.K.Ends c.args.door.now c.args.shelf.now c.open.new.disk c.refuse-in-Err.new.output in
    subst (λ (s : ServeStatus). ServiceOf g.A.Answerer.replies g.D.Disk arguments old new s) (sym (c.refuse-in-Err.ensures.status ∙ c.status_of.ensures))
    (unopened c.in-Ok.values c.in-Err.error c.in-Ok.ensures.taken c.in-Err.ensures.cause c.open.ensures.any_moment refl
    (subst (λ (s : ServeStatus). WritesRefusal s old.output new.output) c.status_of.ensures c.refuse-in-Err.ensures.writes))
