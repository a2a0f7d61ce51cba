use Rattle.std.proofs.Common.{◌++◌, Option, None, Bool, Ok, Err, ◌∙◌, sym, subst}
use Rattle.std.specs.Prelude.{IfSome, string_bytes}
use Rattle.node_state.specs.declared.event.Event.{Event}
use Rattle.node_state.specs.declared.node.Node.{Node}
use Rattle.node_state.specs.Sound.{Sound}
use Rattle.dsc_outside.specs.LinkView.{view_of}
use Rattle.dsc_node.specs.Bringing.{Brought, events_of}
use Rattle.dsc_node.specs.declared.status.Status.TheVariants as statuses
use Rattle.dsc_node.specs.Documents.{IsOfHeldAfter}
use Rattle.dsc_node.specs.Endings.{Answers}
use Rattle.dsc_node.specs.Plans.{CanBring}
use Rattle.dsc_node.specs.Shown.{printed_text}
use Rattle.dsc_node.specs.Work.{Finish, ReadsBefore, finished, first_refused, known, not_brought, settled}
use Rattle.dsc_node.proofs.Commits.{ends_after, ends_as, ends_here, ends_on}
use Rattle.dsc_node.proofs.KnownDocuments.{known_held}
use Rattle.dsc_node.proofs.Nodes.{kept_sound}
use Rattle.dsc_node.proofs.Plans.{can_bring, facts_of, said_stops}
use Rattle.dsc_node.proofs.starting.carried_out.Goals as goal

pub bring-requires-clause-sound : goal.bring-requires-clause-sound
bring-requires-clause-sound g c = subst (λ (n : Node). Sound n) (sym c.state-2.ensures) (kept_sound g.D.Disk c.args.disk.now c.args.store.now c.requires.kept)

pub bring-requires-clause-fits : goal.bring-requires-clause-fits
bring-requires-clause-fits g c =
    subst (λ (n : Node). CanBring n c.args.plan.brings) (sym c.state-2.ensures) (can_bring c.args.store.now.node c.args.plan c.requires.plan c.requires.allowed)

pub returns-in-Err-clause-goes : goal.returns-in-Err-clause-goes
returns-in-Err-clause-goes g c =
    let brought = subst (λ (n : Node). Brought g.M.Resources g.M.Machine n c.args.plan.brings c.args.start (view_of g.L.Link c.args.link.now) (view_of g.L.Link c.bring.new.link) c.args.machine.now c.bring.new.machine (Err c.in-Err.error)) c.state-2.ensures c.in-Err.ensures.brought in
    record {
      ready = c.bring.new.machine;
      run = None;
      leaves = record { trace = c.in-Err.ensures.trace; packages = c.in-Err.ensures.packages; later = c.in-Err.ensures.later };
      ends = ends_here g.D.Disk c.requires.kept (λ from counts work unread allowed reads.
          not_brought c.args.start c.in-Err.error allowed reads brought
          (c.silent.ensures.status ∙ c.status_of_unbrought.ensures, c.silent.ensures.lines));
    }

pub returns-in-Err-commit_first-clause-goes : goal.returns-in-Err-commit_first-clause-goes
returns-in-Err-commit_first-clause-goes g c =
    let brought = subst (λ (n : Node). Brought g.M.Resources g.M.Machine n c.args.plan.brings c.args.start (view_of g.L.Link c.args.link.now) (view_of g.L.Link c.bring.new.link) c.args.machine.now c.bring.new.machine (Ok c.in-Ok.first.event)) c.state-2.ensures c.in-Ok.ensures.brought in
    record {
      ready = c.bring.new.machine;
      run = None;
      leaves = record { trace = c.in-Ok.ensures.trace; packages = c.in-Ok.ensures.packages; later = c.in-Ok.ensures.later };
      ends = ends_as g.D.Disk c.in-Err-commit_first.ensures.goes (λ from counts work committed broken t unread allowed reads.
          first_refused c.args.start t.0 c.in-Err-commit_first.error committed broken allowed
          reads
          (subst (λ (f : Option Event). Brought g.M.Resources g.M.Machine c.args.store.now.node c.args.plan.brings c.args.start (view_of g.L.Link c.args.link.now) (view_of g.L.Link c.bring.new.link) c.args.machine.now c.bring.new.machine (Ok f)) t.1 brought)
          t.2 (c.silent-in-Err-commit_first.ensures.status ∙ c.status_of.ensures, c.silent-in-Err-commit_first.ensures.lines));
    }

pub finish-requires-clause-document : goal.finish-requires-clause-document
finish-requires-clause-document g c =
    let document = subst (λ (n : Node). IfSome c.in-Ok.first.document (IsOfHeldAfter n c.in-Ok.first.event)) c.state-2.ensures c.in-Ok.ensures.document in
    known_held c.args.store.now.node c.commit_first.new.store.node c.in-Ok.first.event c.in-Ok.first.document document c.in_default.ensures.goes.steps

pub returns-in-Run-clause-goes : goal.returns-in-Run-clause-goes
returns-in-Run-clause-goes g c =
    let brought = subst (λ (n : Node). Brought g.M.Resources g.M.Machine n c.args.plan.brings c.args.start (view_of g.L.Link c.args.link.now) (view_of g.L.Link c.bring.new.link) c.args.machine.now c.bring.new.machine (Ok c.in-Ok.first.event)) c.state-2.ensures c.in-Ok.ensures.brought in
    let first = c.in_default.ensures.goes in
    let mid = c.commit_first.new.store.node in
    let ran = c.finish.ensures.goes in
    let stopped = said_stops c.args.store.now.node c.state.result.now c.args.plan c.stops-stopped.result c.state.ensures c.stops-stopped.ensures in
    record {
      ready = c.bring.new.machine;
      run = ran.0;
      leaves = record { trace = c.in-Ok.ensures.trace; packages = c.in-Ok.ensures.packages; later = c.in-Ok.ensures.later };
      ends = ends_on g.D.Disk first ran.1 (λ from counts work committed broken t unread allowed reads.
          let read = subst (λ (b : Bool). ReadsBefore g.C.Clock b c.args.start unread c.args.clock.now) ((facts_of c.args.plan c.requires.plan).reads c.in-Run.is) reads in
          finished c.args.start (g.C.Clock.coming c.args.clock.now) (view_of g.L.Link c.bring.new.link) c.bring.new.machine c.in-Ok.first.event mid ran.0 committed broken allowed c.in-Run.is read.0 read.1 brought first.steps
          (subst (λ (b : Bool). Finish (known g.D.Disk g.M.Resources g.M.Machine g.C.Clock) from counts (work ++ events_of c.in-Ok.first.event) mid b (g.C.Clock.coming c.args.clock.now) (g.C.Clock.coming c.finish.new.clock) c.args.start (view_of g.L.Link c.bring.new.link) (view_of g.L.Link c.finish.new.link) c.bring.new.machine c.finish.new.machine c.finish.result.status (string_bytes c.finish.result.lines) ran.0 committed broken) stopped t));
    }

pub returns-clause-goes : goal.returns-clause-goes
returns-clause-goes g c =
    let brought = subst (λ (n : Node). Brought g.M.Resources g.M.Machine n c.args.plan.brings c.args.start (view_of g.L.Link c.args.link.now) (view_of g.L.Link c.bring.new.link) c.args.machine.now c.bring.new.machine (Ok c.in-Ok.first.event)) c.state-2.ensures c.in-Ok.ensures.brought in
    let first = c.in_default.ensures.goes in
    let mid = c.commit_first.new.store.node in
    let answers = subst (λ (n : Node). Answers statuses.Done (printed_text c.in-Text.text n) c.without_run.result.status (string_bytes c.without_run.result.lines)) c.state-in-Text.ensures c.without_run.ensures in
    record {
      ready = c.bring.new.machine;
      run = None;
      leaves = record { trace = c.in-Ok.ensures.trace; packages = c.in-Ok.ensures.packages; later = c.in-Ok.ensures.later };
      ends = ends_after g.D.Disk first c.in_default.ensures.kept (λ from counts work unread allowed reads.
          settled c.args.start c.in-Ok.first.event mid c.in-Text.text allowed c.in-Text.is reads brought first.steps answers);
    }
