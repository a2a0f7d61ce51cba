use Rattle.std.proofs.Common.{◌≡◌}
use Rattle.serde_json.specs.View.{view}
use Rattle.pull_messages.specs.Writing.{registration_data, registration_text}
use Rattle.pull_messages.proofs.Outlines.{registration_no_float, registration_flat}
use Rattle.pull_messages.proofs.ReadBack.{registration_back}
use Rattle.pull_messages.proofs.registration.write_registration.Goals as goal

pub returns-clause-text : goal.returns-clause-text
unfolding registration_text
returns-clause-text c =
    let is : view c.in_ok-registration_value.field-0 ≡ registration_data c.args.x.now = c.in_ok-registration_value.ensures.value in
    rw is at (c.in_ok-to_vec.ensures.text (rw is (registration_no_float c.args.x.now)))

pub returns-clause-reads_back : goal.returns-clause-reads_back
returns-clause-reads_back c =
    let is : view c.in_ok-registration_value.field-0 ≡ registration_data c.args.x.now = c.in_ok-registration_value.ensures.value in
    let json = rw is at (c.in_ok-to_vec.ensures.reads_back (rw is (registration_flat c.args.x.now))) in
    λ sized. (registration_data c.args.x.now, (c.in_ok-to_vec.ensures.utf8, json), registration_back c.args.x.now sized c.in_ok-registration_value.ensures.version c.in_ok-registration_value.ensures.node c.in_ok-registration_value.ensures.address c.in_ok-registration_value.ensures.names)
