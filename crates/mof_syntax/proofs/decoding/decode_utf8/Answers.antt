use Rattle.std.proofs.Common.{refl}
use Rattle.mof_syntax.proofs.Bodies.{IsBody-from_str, IsBodyFault-from_utf8}
use Rattle.mof_syntax.proofs.decoding.decode_utf8.Goals as goal

pub returns-in-Ok-clause-ok : goal.returns-in-Ok-clause-ok
returns-in-Ok-clause-ok c = IsBody-from_str _ _ c.in-Ok.ensures.cases.0 c.in-Ok.ensures.cases.1

pub returns-in-Err-clause-refused : goal.returns-in-Err-clause-refused
returns-in-Err-clause-refused c = (c.valid_up_to.result, refl, IsBodyFault-from_utf8 _ _ (rw c.valid_up_to.ensures c.in-Err.ensures.cases.1))

pub returns-in-Ok-clause-same : goal.returns-in-Ok-clause-same
returns-in-Ok-clause-same c = c.in-Ok.ensures.cases.0
