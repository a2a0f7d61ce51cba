use Rattle.std.proofs.Common.{◌<◌, Ok, Err, [], refl, sym, append-nil, rules, ◌∙◌}
use Rattle.std.specs.Prelude.{string_bytes}
use Rattle.node_store.specs.declared.error.StoreError.TheVariants as errors
use Rattle.dsc_outside.specs.LinkView.{view_of}
use Rattle.dsc_node.specs.Sending.{all_sent, unsent_count}
use Rattle.dsc_node.proofs.Commits.{ends_here}
use Rattle.dsc_node.proofs.Nodes.{kept_sound}
use Rattle.dsc_node.proofs.Sends.{fewer_left, next_in_size}
use Rattle.dsc_node.proofs.Sent.{is_marked, no_memory_goes, none_left, not_accepted_goes, one_left, sent_goes, unmarked_goes, unprinted_goes}
use Rattle.dsc_node.proofs.sending.+send_reports.Goals as goal

pub returns-in_default-clause-sends : goal.returns-in_default-clause-sends
returns-in_default-clause-sends g t c =
    let none = none_left (λ next. record { server = next.server.now; agent = next.agent; report = next.report.now }) c.args.store.now.node c.state.result.now c.to_send.result c.state.ensures c.to_send.ensures c.in_default.is in
    (Ok [], sym (append-nil (string_bytes c.args.lines.now)), ends_here g.D.Disk c.requires.kept (λ from counts work. all_sent work c.args.store.now.node (view_of g.L.Link c.args.link.now) none))

pub try_report-requires : goal.try_report-requires
try_report-requires g t c =
    let to = one_left (λ next. record { server = next.server.now; agent = next.agent; report = next.report.now }) c.args.store.now.node c.state.result.now c.to_send.result c.in-Some.next c.state.ensures c.to_send.ensures c.in-Some.is in
    record { size = next_in_size c.args.store.now.node _ (kept_sound g.D.Disk c.args.disk.now c.args.store.now c.requires.kept) to }

pub returns-in-NotAccepted-clause-sends : goal.returns-in-NotAccepted-clause-sends
returns-in-NotAccepted-clause-sends g t c =
    let to = one_left (λ next. record { server = next.server.now; agent = next.agent; report = next.report.now }) c.args.store.now.node c.state.result.now c.to_send.result c.in-Some.next c.state.ensures c.to_send.ensures c.in-Some.is in
    not_accepted_goes g.D.Disk c.args.store.now (view_of g.L.Link c.args.link.now) _ to c.args.disk.now (view_of g.L.Link c.try_report.new.link) c.requires.kept c.try_report.ensures.tried.0 c.try_report.ensures.tried.1 (sym c.in-NotAccepted.is ∙ c.try_report.ensures.tried.2)
    c.print_tried.result (string_bytes c.args.lines.now) (string_bytes c.print_tried.new.lines) c.print_tried.ensures.printed c.print_tried.ensures.memory

pub returns-in-NoMemory-clause-sends : goal.returns-in-NoMemory-clause-sends
returns-in-NoMemory-clause-sends g t c =
    let to = one_left (λ next. record { server = next.server.now; agent = next.agent; report = next.report.now }) c.args.store.now.node c.state.result.now c.to_send.result c.in-Some.next c.state.ensures c.to_send.ensures c.in-Some.is in (
      Err errors.Memory,
      refl,
      no_memory_goes g.D.Disk c.args.store.now (view_of g.L.Link c.args.link.now) _ to c.args.disk.now (view_of g.L.Link c.try_report.new.link) c.requires.kept c.try_report.ensures.tried.0 c.try_report.ensures.tried.1 (sym c.in-NoMemory.is ∙ c.try_report.ensures.tried.2),
    )

pub returns-in-Err-clause-sends : goal.returns-in-Err-clause-sends
returns-in-Err-clause-sends g t c =
    let to = one_left (λ next. record { server = next.server.now; agent = next.agent; report = next.report.now }) c.args.store.now.node c.state.result.now c.to_send.result c.in-Some.next c.state.ensures c.to_send.ensures c.in-Some.is in (
      Err c.in-Err.error,
      refl,
      unmarked_goes g.D.Disk c.args.store.now (view_of g.L.Link c.args.link.now) _ to c.args.disk.now c.commit.new.disk (view_of g.L.Link c.try_report.new.link) c.try_report.ensures.tried.0 c.try_report.ensures.tried.1 (sym c.in-Accepted.is ∙ c.try_report.ensures.tried.2)
          c.in-Err.error c.commit.new.store c.in-Err.ensures.goes,
    )

pub returns-in-Err-print_tried-clause-sends : goal.returns-in-Err-print_tried-clause-sends
returns-in-Err-print_tried-clause-sends g t c =
    let to = one_left (λ next. record { server = next.server.now; agent = next.agent; report = next.report.now }) c.args.store.now.node c.state.result.now c.to_send.result c.in-Some.next c.state.ensures c.to_send.ensures c.in-Some.is in (
      Err errors.Memory,
      c.in-Err-print_tried.ensures.memory,
      unprinted_goes g.D.Disk c.args.store.now (view_of g.L.Link c.args.link.now) _ to c.args.disk.now c.commit.new.disk (view_of g.L.Link c.try_report.new.link) c.try_report.ensures.tried.0 c.try_report.ensures.tried.1 (sym c.in-Accepted.is ∙ c.try_report.ensures.tried.2)
          c.commit.new.store c.in_default-commit.ensures.goes c.in_default-commit.ensures.kept,
    )

pub send_reports-requires : goal.send_reports-requires
send_reports-requires g t c κs within =
    let to = one_left (λ next. record { server = next.server.now; agent = next.agent; report = next.report.now }) c.args.store.now.node c.state.result.now c.to_send.result c.in-Some.next c.state.ensures c.to_send.ensures c.in-Some.is in
    let marked = is_marked g.D.Disk c.args.store.now (view_of g.L.Link c.args.link.now) _ to c.args.disk.now c.commit.new.disk (view_of g.L.Link c.try_report.new.link) c.try_report.ensures.tried.0 c.try_report.ensures.tried.1 (sym c.in-Accepted.is ∙ c.try_report.ensures.tried.2)
    c.commit.new.store c.in_default-commit.ensures.goes in
    let less : unsent_count c.commit.new.store.node < unsent_count c.args.store.now.node = fewer_left c.args.store.now.node c.commit.new.store.node _ to marked in
    let kept = c.in_default-commit.ensures.kept in
    search (rules, less, kept, c.decreases)

pub returns-clause-sends : goal.returns-clause-sends
returns-clause-sends g t c =
    let to = one_left (λ next. record { server = next.server.now; agent = next.agent; report = next.report.now }) c.args.store.now.node c.state.result.now c.to_send.result c.in-Some.next c.state.ensures c.to_send.ensures c.in-Some.is in
    sent_goes g.D.Disk c.args.store.now (view_of g.L.Link c.args.link.now) _ to c.args.disk.now c.commit.new.disk (view_of g.L.Link c.try_report.new.link) c.try_report.ensures.tried.0 c.try_report.ensures.tried.1 (sym c.in-Accepted.is ∙ c.try_report.ensures.tried.2)
    c.commit.new.store c.in_default-commit.ensures.goes c.send_reports.new.disk (view_of g.L.Link c.send_reports.new.link) c.send_reports.result
    (string_bytes c.args.lines.now) (string_bytes c.print_tried-2.new.lines) (string_bytes c.send_reports.new.lines) c.in_default-print_tried.ensures.printed c.send_reports.ensures.sends
