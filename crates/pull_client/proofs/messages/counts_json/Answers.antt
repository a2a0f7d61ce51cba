use Rattle.std.proofs.Common.{◌≡◌}
use Rattle.serde_json.specs.View.{view}
use Rattle.pull_client.specs.Reports.{counts_data}
use Rattle.pull_client.proofs.Counts.{counts_no_float}
use Rattle.pull_client.proofs.messages.counts_json.Goals as goal

pub returns : goal.returns
returns c =
    let is : view c.in_ok-value.value ≡ counts_data c.args.report.now = c.in_ok-value.ensures in
    rw is at (c.in_ok-text.ensures.text (rw is (counts_no_float c.args.report.now)))
