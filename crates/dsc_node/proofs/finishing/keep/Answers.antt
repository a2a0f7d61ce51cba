use Rattle.std.proofs.Common.{◌++◌, [], List, ℕ, Bool, ap, subst, append-nil, ◌∙◌}
use Rattle.std.specs.Prelude.{string_bytes}
use Rattle.node_state.specs.declared.event.Event.{Event}
use Rattle.node_state.specs.declared.node.Node.{Node}
use Rattle.node_store.specs.Store.{TakesMemory}
use Rattle.dsc_outside.specs.LinkView.{view_of}
use Rattle.dsc_node.specs.declared.status.Status.{Status}
use Rattle.dsc_node.specs.Endings.{Answers, status_of}
use Rattle.dsc_node.specs.Path.{text_of}
use Rattle.dsc_node.specs.Runs.{end_line, status_after}
use Rattle.dsc_node.proofs.Keeping.{reserved_is_enough}
use Rattle.dsc_node.proofs.Rows.{kept_so, refused_so}
use Rattle.dsc_node.proofs.Sent.{ended_err, ended_ok}
use Rattle.dsc_node.proofs.finishing.keep.Goals as goal

pub returns-in-Err-clause-goes : goal.returns-in-Err-clause-goes
returns-in-Err-clause-goes g c =
    let over = c.args.over in
    let store = c.args.store.now in
    let error = c.in-Err.error in
    let text = text_of over c.args.calls.now in
    let status = c.after_run.result.status in
    let lines = string_bytes c.after_run.result.lines in
    let answers = subst (λ (t : List ℕ). Answers (status_of error) t status lines) (append-nil (text ++ []) ∙ append-nil text)
    (subst (λ (s : Status). Answers s (text ++ [] ++ []) status lines) c.status_of.ensures c.after_run.ensures) in
    refused_so g.D.Disk store over c.args.calls.now (view_of g.L.Link c.args.link.now) status lines c.args.disk.now c.commit.new.disk c.commit.new.store c.event_of.result error c.event_of.ensures c.in-Err.ensures.goes
    (λ is. reserved_is_enough over.report store.reserved c.requires.reserved over.end over.pending (subst (λ (e : Event). TakesMemory store.reserved e) c.event_of.ensures (c.in-Err.ensures.memory is)))
    answers

pub returns-in-Ok-clause-goes : goal.returns-in-Ok-clause-goes
returns-in-Ok-clause-goes g c =
    let over = c.args.over in
    let store = c.args.store.now in
    let text = text_of over c.args.calls.now in
    let status = c.after_run-in-Ok.result.status in
    let lines = string_bytes c.after_run-in-Ok.result.lines in
    let sent = c.in-Ok.ensures.sends in
    let last = c.end_line-last.result.now in
    let end = end_line over.end over.pending over.report.missed in
    let tried = string_bytes c.send_reports.new.lines in
    let now = ap (λ (n : Node). n.meta.reboot_if_needed) c.state.ensures in
    let wanted = c.status_after-status.ensures ∙ ap (λ (b : Bool). status_after b over.end over.report.missed) now in
    let answers =
    subst (λ (s : Status). Answers s (text ++ end ++ tried) status lines) wanted
    (subst (λ (l : List ℕ). Answers c.status_after-status.result (text ++ l ++ tried) status lines) c.end_line-last.ensures
    (subst (λ (t : List ℕ). Answers c.status_after-status.result (text ++ last ++ t) status lines) c.as_str.ensures.value c.after_run-in-Ok.ensures)) in
    let ends = ended_ok text end status lines (status_after store.node.meta.reboot_if_needed over.end over.report.missed) sent.0 _ (string_bytes c.new-sent.result) tried c.new-sent.ensures.bytes sent.1 answers in
    kept_so g.D.Disk store over c.args.calls.now (view_of g.L.Link c.args.link.now) status lines c.args.disk.now c.commit.new.disk c.send_reports.new.disk c.commit.new.store (view_of g.L.Link c.send_reports.new.link)
    c.event_of.result c.event_of.ensures c.in_default.ensures.goes sent.0 sent.2 ends

pub returns-clause-goes : goal.returns-clause-goes
returns-clause-goes g c =
    let over = c.args.over in
    let store = c.args.store.now in
    let text = text_of over c.args.calls.now in
    let status = c.refused_after_run.result.status in
    let lines = string_bytes c.refused_after_run.result.lines in
    let sent = c.in-Err-send_reports.ensures.sends in
    let wanted = status_after store.node.meta.reboot_if_needed over.end over.report.missed in
    let end = end_line over.end over.pending over.report.missed in
    let ends = ended_err text end status lines _ wanted sent.0 c.in-Err-send_reports.error (string_bytes c.new-sent.result) (string_bytes c.send_reports.new.lines) sent.1 (c.refused_after_run.ensures wanted end) in
    kept_so g.D.Disk store over c.args.calls.now (view_of g.L.Link c.args.link.now) status lines c.args.disk.now c.commit.new.disk c.send_reports.new.disk c.commit.new.store (view_of g.L.Link c.send_reports.new.link)
    c.event_of.result c.event_of.ensures c.in_default.ensures.goes sent.0 sent.2 ends
