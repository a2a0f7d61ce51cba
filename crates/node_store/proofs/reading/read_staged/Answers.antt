use Rattle.std.proofs.Common.{◌∙◌, sym, subst}
use Rattle.node_state.specs.Lists.{IsStaged}
use Rattle.node_store.proofs.OneBody.{at_none, parts_unique}
use Rattle.node_store.proofs.reading.read_staged.Goals as goal

pub returns-in-Ok-None-clause-wrong : goal.returns-in-Ok-None-clause-wrong
returns-in-Ok-None-clause-wrong c = λ same parts staged whole.
    let none = at_none c.in-Ok-None.field-0 _ c.in-Ok-None.field-0-is c.in-Ok-None.ensures.none in
    let is = parts_unique c.args.bytes.now parts c.in-Ok.parts whole c.in-Ok.ensures.found in
    none (subst IsStaged (is ∙ sym c.into_vec.ensures) staged)
