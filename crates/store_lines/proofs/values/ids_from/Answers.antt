use Rattle.std.proofs.Common.{◌∙◌, sym}
use Rattle.store_lines.proofs.Unnamed.{unspelled}
use Rattle.store_lines.proofs.values.ids_from.Goals as goal

pub returns-in-None-clause-usage : goal.returns-in-None-clause-usage
returns-in-None-clause-usage c refused = unspelled c.args.texts.now c.loop-text.text-index _ c.loop-text-test.true (sym c.id_from.ensures ∙ c.in-None.is)
