use Rattle.std.proofs.Common.{rules, tests, ◌==◌, ◌≡◌, ◌∙◌, ℕ, List, subst, ◌||◌, not, length, map, IfOk}
use Rattle.std.proofs.lemmas.Iterator.Consumers.{map_from_collect, YieldsList-from_filter, YieldsList-at}
use Rattle.std.proofs.lemmas.Iterator.Splits.{YieldsList-from_slice_split}
use Rattle.std.proofs.lemmas.List.Elements.{filter_agree}
use Rattle.std.specs.List.{filter}
use Rattle.resource_kinds.specs.Entries.{entries}
use Rattle.resource_kinds.specs.EntrySets.{is_in}
use Rattle.resource_kinds.proofs.EntryLists.{kept_agrees}
use Rattle.resource_kinds.proofs.entries.kept_entries.Goals as goal

pub returns : goal.returns
returns c =
    let items = map_from_collect _ c.collect.ensures.ran
    (YieldsList-from_filter _ (λ e. (length e == 0) || not (is_in c.in_ok-unwanted.unwanted e))
    (YieldsList-at c.filter.ensures.source (YieldsList-from_slice_split _ (λ b. b == 59) c.args.old.now c.split.ensures.rest c.split.ensures.done c.split.ensures.closure (λ x b q k. search (rules, tests)))) c.filter.ensures.closure (λ x b q k. search (rules, tests))) in
    let same = (λ i. filter (λ e. (length e == 0) || not (c.in_ok-unwanted.ensures e i)) (entries c.args.old.now)) ∙ filter_agree _ _ (kept_agrees (entries c.args.value.now)) (entries c.args.old.now) in
    subst (λ (l : List (List ℕ)). IfOk c.collect.result (λ v. map (λ e. e.now) v.items ≡ l)) same items
