use Rattle.std.proofs.Common.{arith}
use Rattle.gate_log.proofs.Leading.{one_by}
use Rattle.pull_store.specs.Stands.{Leads, pull_shape}
use Rattle.pull_store.proofs.BodiesRead.{one_body}
use Rattle.pull_store.proofs.Failing.{failing_for_none}
use Rattle.pull_store.proofs.Replaying.{lead_to_one}
use Rattle.pull_store.proofs.laws.images_have_one_meaning.Goals as goal

pub returns : goal.returns
returns c = record { bodies = one_body; rows = one_by pull_shape Leads (omega arith) lead_to_one; none = failing_for_none }
