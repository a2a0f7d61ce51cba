use Rattle.std.proofs.Common.{◌≡◌, map, take}
use Rattle.serde_json.specs.View.{view}
use Rattle.pull_messages.specs.Recoding.{recoded_client}
use Rattle.pull_messages.specs.Writing.{client_data}
use Rattle.pull_messages.proofs.query.client_values.Given as goal

abbrev pub invariant-loop-client : goal.invariant-loop-client
invariant-loop-client l = record {
  values : map view l.values.items ≡ map client_data (take l.client-index l.clients);
  recoded : map recoded_client (take l.client-index l.clients) ≡ take l.client-index l.clients;
}
