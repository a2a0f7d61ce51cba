-- Each name is tested.
use Rattle.std.proofs.Common.{rules, ◌==◌}
use Rattle.std.proofs.lemmas.Iterator.Search.{any_from_yields_List}
use Rattle.std.proofs.lemmas.Iterator.Splits.{YieldsList-from_slice_split}
use Rattle.real_outside.specs.Folders.{is_entry_name}
use Rattle.real_outside.proofs.emptiness.has_entry_name.Goals as goal

pub returns : goal.returns
returns c = any_from_yields_List is_entry_name _ _ _ c.any.ensures.ran (YieldsList-from_slice_split _ (λ b. b == 0) c.args.names.now c.split.ensures.rest c.split.ensures.done c.split.ensures.closure (λ x b q k. search rules)) (λ x b q k. search rules)
