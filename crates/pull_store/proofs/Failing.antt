-- An image that fails stands for no rows.
use Rattle.std.proofs.Common.{arith}
use Rattle.gate_log.proofs.Leading.{none_by}
use Rattle.pull_store.specs.Laws.{FailingStandForNone}
use Rattle.pull_store.specs.Stands.{Leads, pull_shape}
use Rattle.pull_store.proofs.Replaying.{fronts_lead}

pub failing_for_none : FailingStandForNone
failing_for_none = none_by pull_shape Leads (omega arith) fronts_lead
