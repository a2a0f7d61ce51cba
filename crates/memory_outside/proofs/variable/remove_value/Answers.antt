use Rattle.std.proofs.Common.{ap, ◌∙◌, rules}
use Rattle.std.proofs.lemmas.Fn.{filter_same}
use Rattle.memory_outside.proofs.Named.{value_removed}
use Rattle.memory_outside.specs.MemoryHost.{value_of}
use Rattle.memory_outside.proofs.variable.remove_value.Goals as goal

pub returns-clause-removed : goal.returns-clause-removed
returns-clause-removed c = ap value_of (filter_same _ _ _ (λ x b f' k. search rules) _ _ c.retain.ensures.filtered) ∙ value_removed c.args.name.now _
