use Rattle.serde_json.specs.View.{view}
use Rattle.pull_messages.specs.Tables.{report_of}
use Rattle.pull_messages.proofs.Reading.{reads_by}
use Rattle.pull_messages.proofs.report.read_report.Goals as goal

pub returns : goal.returns
returns c = reads_by report_of c.args.body.now (view c.in_ok-value_of.field-0) c.report_in.result c.in_ok-value_of.ensures.ok c.report_in.ensures
