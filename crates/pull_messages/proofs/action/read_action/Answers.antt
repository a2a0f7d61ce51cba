use Rattle.serde_json.specs.View.{view}
use Rattle.pull_messages.specs.Tables.{action_of}
use Rattle.pull_messages.proofs.Reading.{reads_by}
use Rattle.pull_messages.proofs.action.read_action.Goals as goal

pub returns : goal.returns
returns c = reads_by action_of c.args.body.now (view c.in_ok-value_of.field-0) c.action_in.result c.in_ok-value_of.ensures.ok c.action_in.ensures
