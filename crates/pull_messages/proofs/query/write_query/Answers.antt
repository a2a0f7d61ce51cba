use Rattle.std.proofs.Common.{◌≡◌}
use Rattle.serde_json.specs.View.{view}
use Rattle.pull_messages.specs.Writing.{query_data, query_text}
use Rattle.pull_messages.proofs.Outlines.{query_no_float, query_flat}
use Rattle.pull_messages.proofs.ReadBack.{query_back}
use Rattle.pull_messages.proofs.query.write_query.Goals as goal

pub returns-clause-text : goal.returns-clause-text
unfolding query_text
returns-clause-text c =
    let is : view c.in_ok-query_value.field-0 ≡ query_data c.args.x.now = c.in_ok-query_value.ensures.value in
    rw is at (c.in_ok-to_vec.ensures.text (rw is (query_no_float c.args.x.now)))

pub returns-clause-reads_back : goal.returns-clause-reads_back
returns-clause-reads_back c =
    let is : view c.in_ok-query_value.field-0 ≡ query_data c.args.x.now = c.in_ok-query_value.ensures.value in
    let json = rw is at (c.in_ok-to_vec.ensures.reads_back (rw is (query_flat c.args.x.now))) in
    λ few. (query_data c.args.x.now, (c.in_ok-to_vec.ensures.utf8, json), query_back c.args.x.now few c.in_ok-query_value.ensures.recoded)
