use Rattle.std.proofs.Common.{string_bytes}
use Rattle.dsc_node.specs.Shown.{node_text, reports_text}
use Rattle.dsc_node.proofs.Shown.{shown_answers}
use Rattle.dsc_node.proofs.answer.without_run.Goals as goal

pub returns-in-Node : goal.returns-in-Node
returns-in-Node c =
    rw c.in-Node.is (shown_answers (λ t. string_bytes t) c.node_text.result (node_text c.args.node.now) c.showing.result.status (string_bytes c.showing.result.lines) c.node_text.ensures c.showing.ensures.shown c.showing.ensures.memory)

pub returns-in-Reports : goal.returns-in-Reports
returns-in-Reports c =
    rw c.in-Reports.is (shown_answers (λ t. string_bytes t) c.reports_text.result (reports_text c.args.node.now) c.showing-in-Reports.result.status (string_bytes c.showing-in-Reports.result.lines) c.reports_text.ensures
    c.showing-in-Reports.ensures.shown c.showing-in-Reports.ensures.memory)
