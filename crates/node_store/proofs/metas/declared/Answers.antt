use Rattle.node_store.proofs.Reported.{never}
use Rattle.node_store.proofs.metas.declared.Goals as goal

pub returns-clause-wrong : goal.returns-clause-wrong
returns-clause-wrong c = λ same meta means. c.in-Err.ensures.only (λ is. never c.is_memory.result (c.is_memory.ensures.1 is) c.if-is_memory.false) meta means
