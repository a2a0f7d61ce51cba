use Rattle.std.proofs.Common.{◌≡◌}
use Rattle.serde_json.specs.View.{view}
use Rattle.pull_messages.specs.Writing.{report_data, report_text}
use Rattle.pull_messages.proofs.Outlines.{report_no_float, report_flat}
use Rattle.pull_messages.proofs.ReadBack.{report_back}
use Rattle.pull_messages.proofs.report.write_report.Goals as goal

pub returns-clause-text : goal.returns-clause-text
unfolding report_text
returns-clause-text c =
    let is : view c.in_ok-report_value.field-0 ≡ report_data c.args.x.now = c.in_ok-report_value.ensures.value in
    rw is at (c.in_ok-to_vec.ensures.text (rw is (report_no_float c.args.x.now)))

pub returns-clause-reads_back : goal.returns-clause-reads_back
returns-clause-reads_back c =
    let is : view c.in_ok-report_value.field-0 ≡ report_data c.args.x.now = c.in_ok-report_value.ensures.value in
    let json = rw is at (c.in_ok-to_vec.ensures.reads_back (rw is (report_flat c.args.x.now))) in
    (report_data c.args.x.now, (c.in_ok-to_vec.ensures.utf8, json), report_back c.args.x.now c.in_ok-report_value.ensures.recoded)
