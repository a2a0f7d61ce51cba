use Rattle.std.proofs.Common.{◌<◌, List, inl, refl, true, sym, ap, subst, ◌∙◌}
use Rattle.std.specs.Prelude.{All, IfSome, length, string_bytes}
use Rattle.resource_kinds.specs.declared.entry.Entry.{Entry}
use Rattle.resource_kinds.specs.Trace.{place_of}
use Rattle.lcm_core.specs.RunLaws.{EndsAtYes}
use Rattle.lcm_core.proofs.Successes.{legal_ends}
use Rattle.lcm_core.proofs.Traces.{legal_places}
use Rattle.node_state.specs.declared.node.Node.{Node}
use Rattle.node_state.specs.Sound.{Sound}
use Rattle.node_store.specs.Store.{StoreTerm}
use Rattle.dsc_outside.specs.LinkView.{view_of}
use Rattle.dsc_node.specs.Documents.{IsOfHeld}
use Rattle.dsc_node.specs.Path.{KeepGoes, NothingGoes}
use Rattle.dsc_node.specs.Readings.{Took}
use Rattle.dsc_node.specs.Running.{IsOver, IsRunStep}
use Rattle.dsc_node.specs.Runs.{chosen_of}
use Rattle.dsc_node.specs.Work.{known}
use Rattle.dsc_node.proofs.Commits.{ends_reserved}
use Rattle.dsc_node.proofs.Nodes.{kept_sound}
use Rattle.dsc_node.proofs.Rows.{finish_kept, finish_nothing, finish_unended}
use Rattle.dsc_node.proofs.finishing.finish.Goals as goal

pub returns-in-Err-clause-goes : goal.returns-in-Err-clause-goes
returns-in-Err-clause-goes g c =
    let readings = g.C.Clock.coming c.args.clock.now in
    let view = view_of g.L.Link c.args.link.now in
    finish_unended (known g.D.Disk g.M.Resources g.M.Machine g.C.Clock) c.args.disk.now c.args.disk.now c.args.store.now c.args.stopped readings readings c.args.start view view c.args.machine.now c.args.machine.now
    c.silent.result.status (string_bytes c.silent.result.lines) refl c.requires.kept (c.silent.ensures.status, c.silent.ensures.lines) refl (inl refl, refl)

pub run_step-requires-clause-sound : goal.run_step-requires-clause-sound
run_step-requires-clause-sound g c =
    let node = c.state.ensures ∙ ap (λ (s : StoreTerm). s.node) c.in_default.ensures.reserved in
    subst (λ (n : Node). Sound n) (sym node) (kept_sound g.D.Disk c.args.disk.now c.args.store.now c.requires.kept)

pub run_step-requires-clause-document : goal.run_step-requires-clause-document
run_step-requires-clause-document g c =
    let node = c.state.ensures ∙ ap (λ (s : StoreTerm). s.node) c.in_default.ensures.reserved in
    subst (λ (n : Node). IfSome c.args.document (IsOfHeld n)) (sym node) c.requires.document

pub keep-requires-clause-known : goal.keep-requires-clause-known
keep-requires-clause-known g c =
    let over = c.in-Over.over in
    let is = c.in-Over.ensures.step.0 in
    subst (λ (t : List Entry). All (λ e. place_of e < length over.document.resources) t) (sym c.calls.ensures)
    (legal_places over.document is.mode is.order (g.M.Resources.trace c.run_step.new.machine) is.reported.ran.legal)

pub keep-requires-clause-ends : goal.keep-requires-clause-ends
keep-requires-clause-ends g c =
    let over = c.in-Over.over in
    let is = c.in-Over.ensures.step.0 in
    subst (λ (t : List Entry). EndsAtYes t) (sym c.calls.ensures)
    (legal_ends over.document is.mode is.order (g.M.Resources.trace c.run_step.new.machine) is.reported.ran.legal)

pub returns-in-Nothing-clause-goes : goal.returns-in-Nothing-clause-goes
returns-in-Nothing-clause-goes g c =
    let store = c.args.store.now in
    let reserved : StoreTerm = record store { reserved = true } in
    let is = c.in_default.ensures.reserved in
    let node = c.state.ensures ∙ ap (λ (s : StoreTerm). s.node) is in
    let step = c.in-Nothing.ensures.step in
    let none = ap (λ (n : Node). chosen_of c.args.stopped n) (sym node) ∙ step.0 in
    let status = c.end_nothing.result.status in
    let lines = string_bytes c.end_nothing.result.lines in
    let asked = view_of g.L.Link c.args.link.now in
    let heard = view_of g.L.Link c.end_nothing.new.link in
    let goes = subst (λ (s : StoreTerm). NothingGoes g.D.Disk c.args.disk.now c.end_nothing.new.disk s asked heard status lines) is c.end_nothing.ensures.goes in
    let shown = finish_nothing (known g.D.Disk g.M.Resources g.M.Machine g.C.Clock) c.args.disk.now c.end_nothing.new.disk reserved c.args.stopped (g.C.Clock.coming c.args.clock.now) (g.C.Clock.coming c.run_step.new.clock)
    c.args.start asked heard c.args.machine.now c.run_step.new.machine status lines none step.1 step.2 goes in
    (shown.0, ends_reserved g.D.Disk {before = store} {reserved = reserved} refl shown.1)

pub returns-in-Memory-clause-goes : goal.returns-in-Memory-clause-goes
returns-in-Memory-clause-goes g c =
    let node = c.state.ensures ∙ ap (λ (s : StoreTerm). s.node) c.in_default.ensures.reserved in
    let readings = g.C.Clock.coming c.args.clock.now in
    let left = g.C.Clock.coming c.run_step.new.clock in
    let view = view_of g.L.Link c.args.link.now in
    let step = subst (λ (n : Node). IsRunStep g.M.Resources n c.args.stopped readings left c.args.start c.run_step.result c.args.machine.now c.run_step.new.machine) node c.run_step.ensures.step in
    finish_unended (known g.D.Disk g.M.Resources g.M.Machine g.C.Clock) c.args.disk.now c.args.disk.now c.args.store.now c.args.stopped readings left c.args.start view view c.args.machine.now c.run_step.new.machine
    c.silent-in-Memory.result.status (string_bytes c.silent-in-Memory.result.lines) refl c.requires.kept (c.silent-in-Memory.ensures.status, c.silent-in-Memory.ensures.lines) refl (rw c.in-Memory.is at step)

pub returns-in-Over-clause-goes : goal.returns-in-Over-clause-goes
returns-in-Over-clause-goes g c =
    let d = g.D.Disk in
    let machine = g.M.Resources in
    let old = c.args.disk.now in
    let now = c.keep.new.disk in
    let store = c.args.store.now in
    let reserved : StoreTerm = record store { reserved = true } in
    let is = c.in_default.ensures.reserved in
    let node = c.state.ensures ∙ ap (λ (s : StoreTerm). s.node) is in
    let over = c.in-Over.over in
    let readings = g.C.Clock.coming c.args.clock.now in
    let left = g.C.Clock.coming c.run_step.new.clock in
    let before = c.args.machine.now in
    let after = c.run_step.new.machine in
    let asked = view_of g.L.Link c.args.link.now in
    let heard = view_of g.L.Link c.keep.new.link in
    let status = c.keep.result.status in
    let lines = string_bytes c.keep.result.lines in
    let step = subst (λ (n : Node). IsOver machine n c.args.stopped readings c.args.start over before after × Took 1 readings left) node c.in-Over.ensures.step in
    let kept = subst (λ (t : List Entry). KeepGoes d old now c.reserve.new.self over t asked heard status lines) c.calls.ensures c.keep.ensures.goes in
    let goes = subst (λ (s : StoreTerm). KeepGoes d old now s over (machine.trace after) asked heard status lines) is kept in
    let shown = finish_kept (known d machine g.M.Machine g.C.Clock) old now reserved c.args.stopped readings left c.args.start asked heard before after status lines over step goes in
    (shown.0, ends_reserved d {before = store} {reserved = reserved} refl shown.1)
