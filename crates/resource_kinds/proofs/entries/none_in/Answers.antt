use Rattle.std.proofs.Common.{rules, tests, ◌==◌, ◌||◌, not, length}
use Rattle.std.proofs.lemmas.Iterator.Search.{all_from_yields_List}
use Rattle.std.proofs.lemmas.Iterator.Splits.{YieldsList-from_slice_split}
use Rattle.resource_kinds.specs.EntrySets.{is_in}
use Rattle.resource_kinds.proofs.entries.none_in.Goals as goal

pub returns : goal.returns
returns c =
    all_from_yields_List (λ e. (length e == 0) || not (is_in c.args.own.now e)) _ _ _ c.all.ensures.ran
    (YieldsList-from_slice_split _ (λ b. b == 59) c.args.value.now c.split.ensures.rest c.split.ensures.done c.split.ensures.closure (λ x b q k. search (rules, tests)))
    (λ x b q k. search (rules, tests))
