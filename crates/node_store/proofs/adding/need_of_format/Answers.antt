use Rattle.std.proofs.Common.{[], Bool, length, ap, arith}
use Rattle.gate_log.specs.Text.{cells}
use Rattle.node_store.specs.Growing.{bodies_of_format}
use Rattle.node_store.proofs.AfterFormat.{format_long}
use Rattle.node_store.proofs.adding.need_of_format.Goals as goal

pub returns-then-empty : goal.returns-then-empty
returns-then-empty c = omega (arith, format_long [], ap (λ (e : Bool). length (cells (bodies_of_format e))) c.if-empty.true)
