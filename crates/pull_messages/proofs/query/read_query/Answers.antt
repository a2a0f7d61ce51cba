use Rattle.serde_json.specs.View.{view}
use Rattle.pull_messages.specs.Tables.{query_of}
use Rattle.std.proofs.Common.{◌≤◌, length}
use Rattle.pull_messages.specs.declared.query.ActionQuery.{ActionQuery}
use Rattle.pull_messages.specs.declared.limits.TheConstants.{MAX_LIST_ITEMS}
use Rattle.pull_messages.proofs.Reading.{reads_by}
use Rattle.pull_messages.proofs.SizedMessages.{if_gives, query_few}
use Rattle.pull_messages.proofs.query.read_query.Goals as goal

pub returns-clause-answers : goal.returns-clause-answers
returns-clause-answers c = reads_by query_of c.args.body.now (view c.in_ok-value_of.field-0) c.query_in.result c.in_ok-value_of.ensures.ok c.query_in.ensures

pub returns-clause-few : goal.returns-clause-few
returns-clause-few c =
    if_gives (λ (x : ActionQuery). length x.clients ≤ MAX_LIST_ITEMS) c.query_in.result (query_of (view c.in_ok-value_of.field-0)) c.query_in.ensures
    (query_few (view c.in_ok-value_of.field-0))
