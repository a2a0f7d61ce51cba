use Rattle.std.proofs.Common.{◌≡◌, map, take}
use Rattle.serde_json.specs.View.{view}
use Rattle.pull_messages.specs.Recoding.{recoded_detail}
use Rattle.pull_messages.specs.Writing.{detail_data}
use Rattle.pull_messages.proofs.action.detail_values.Given as goal

abbrev pub invariant-loop-detail : goal.invariant-loop-detail
invariant-loop-detail l = record {
  values : map view l.values.items ≡ map detail_data (take l.detail-index l.details);
  recoded : map recoded_detail (take l.detail-index l.details) ≡ take l.detail-index l.details;
}
