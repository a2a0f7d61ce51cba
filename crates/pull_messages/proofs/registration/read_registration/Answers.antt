use Rattle.std.proofs.Common.{◌≤◌, length, arith}
use Rattle.serde_json.specs.View.{view}
use Rattle.pull_messages.specs.Tables.{registration_of}
use Rattle.pull_messages.specs.Sizes.{IsSized, registration_size}
use Rattle.pull_messages.proofs.Reading.{reads_by}
use Rattle.pull_messages.proofs.SizedMessages.{if_gives, registration_sized}
use Rattle.pull_messages.proofs.WeighedMessages.{registration_weighed}
use Rattle.pull_messages.proofs.registration.read_registration.Goals as goal

pub returns-clause-answers : goal.returns-clause-answers
returns-clause-answers c = reads_by registration_of c.args.body.now (view c.in_ok-value_of.field-0) c.registration_in.result c.in_ok-value_of.ensures.ok c.registration_in.ensures

pub returns-clause-sized : goal.returns-clause-sized
returns-clause-sized c =
    if_gives IsSized c.registration_in.result (registration_of (view c.in_ok-value_of.field-0)) c.registration_in.ensures (registration_sized (view c.in_ok-value_of.field-0))

pub returns-clause-weighed : goal.returns-clause-weighed
returns-clause-weighed c =
    let value = view c.in_ok-value_of.field-0 in
    if_gives (λ x. registration_size x ≤ length c.args.body.now) c.registration_in.result (registration_of value) c.registration_in.ensures
    (λ x is. omega (arith, c.in_ok-value_of.ensures.weighed, registration_weighed value x c.in_ok-value_of.ensures.texts is))
