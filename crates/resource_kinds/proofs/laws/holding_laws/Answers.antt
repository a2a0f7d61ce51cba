use Rattle.resource_kinds.proofs.Holding.{bounded, falls, none_unheld, tested}
use Rattle.resource_kinds.proofs.laws.holding_laws.Goals as goal

pub returns : goal.returns
returns c = record { tested = tested; bounded = bounded; none = none_unheld; falls = falls }
