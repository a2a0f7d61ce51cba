use Rattle.std.proofs.Common.{ap, ◌∙◌, rules}
use Rattle.std.proofs.lemmas.Fn.{filter_same}
use Rattle.memory_outside.proofs.PathEntries.{kind_removed}
use Rattle.memory_outside.specs.MemoryHost.{kind_at}
use Rattle.memory_outside.proofs.paths.remove.Goals as goal

pub returns-clause-removed : goal.returns-clause-removed
returns-clause-removed c = ap kind_at (filter_same _ _ _ (λ x b f' k. search rules) _ _ c.retain.ensures.filtered) ∙ kind_removed c.args.path.now _
