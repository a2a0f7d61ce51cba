use Rattle.std.proofs.Common.{◌≡◌}
use Rattle.serde_json.specs.View.{view}
use Rattle.pull_messages.specs.Writing.{action_data, action_text}
use Rattle.pull_messages.proofs.Outlines.{action_no_float, action_flat}
use Rattle.pull_messages.proofs.ReadBack.{action_back}
use Rattle.pull_messages.proofs.action.write_action.Goals as goal

pub returns-clause-text : goal.returns-clause-text
unfolding action_text
returns-clause-text c =
    let is : view c.in_ok-action_value.field-0 ≡ action_data c.args.x.now = c.in_ok-action_value.ensures.value in
    rw is at (c.in_ok-to_vec.ensures.text (rw is (action_no_float c.args.x.now)))

pub returns-clause-reads_back : goal.returns-clause-reads_back
returns-clause-reads_back c =
    let is : view c.in_ok-action_value.field-0 ≡ action_data c.args.x.now = c.in_ok-action_value.ensures.value in
    let json = rw is at (c.in_ok-to_vec.ensures.reads_back (rw is (action_flat c.args.x.now))) in
    (action_data c.args.x.now, (c.in_ok-to_vec.ensures.utf8, json), action_back c.args.x.now c.in_ok-action_value.ensures.node c.in_ok-action_value.ensures.details)
