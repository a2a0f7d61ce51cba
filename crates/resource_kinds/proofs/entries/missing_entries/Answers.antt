use Rattle.std.proofs.Common.{rules, tests, ◌==◌, ◌≡◌, ◌∙◌, ◌&&◌, ℕ, List, [], Option, Some, None, Ok, Bor, IfOk, subst, not, length, map, ap, refl, unwrap_or}
use Rattle.std.proofs.lemmas.Iterator.Consumers.{map_from_collect, YieldsList-from_filter, YieldsList-at}
use Rattle.std.proofs.lemmas.Iterator.Splits.{YieldsList-from_slice_split}
use Rattle.std.specs.declared.alloc.AllocError.{AllocError}
use Rattle.std.specs.List.{filter}
use Rattle.std.specs.Option.{option_copied}
use Rattle.resource_kinds.specs.Entries.{entries, is_among, each_once}
use Rattle.resource_kinds.specs.EntrySets.{is_in}
use Rattle.resource_kinds.proofs.EntryLists.{missing_agrees}
use Rattle.resource_kinds.proofs.entries.missing_entries.Goals as goal

unwrapped : (old : Option (Bor (List ℕ))) (d : Bor (List ℕ)) → d.now ≡ [] → (unwrap_or old d).now ≡ unwrap_or (option_copied old) []
unwrapped None d none = none
unwrapped (Some value) d none = refl

pub returns : goal.returns
returns c =
    let old : c.unwrap_or.result.now ≡ unwrap_or (option_copied c.args.old) [] = ap (λ e. e.now) c.unwrap_or.ensures ∙ unwrapped c.args.old _ refl in
    let items = map_from_collect {E = AllocError} (Ok c.in_ok-missing.missing) c.in_ok-missing.ensures.ran
    (YieldsList-from_filter _ (λ e. not (length e == 0) && not (is_in c.in_ok-own.own e))
    (YieldsList-at c.filter.ensures.source (YieldsList-from_slice_split _ (λ b. b == 59) c.args.value.now c.split.ensures.rest c.split.ensures.done c.split.ensures.closure (λ x b q k. search (rules, tests)))) c.filter.ensures.closure (λ x b q k. search (rules, tests))) in
    let filtered = items ∙ (λ i. filter (λ e. not (length e == 0) && not (c.in_ok-own.ensures e i)) (entries c.args.value.now))
    ∙ ap (λ (o : List ℕ). filter (λ e. not (length e == 0) && not (is_among (entries o) e)) (entries c.args.value.now)) old
    ∙ missing_agrees (option_copied c.args.old) (entries c.args.value.now) in
    subst (λ (l : List (List ℕ)). IfOk c.each_once.result (λ v. map (λ e. e.now) v.items ≡ l))
    (ap (λ (l : List (Bor (List ℕ))). each_once (map (λ e. e.now) l)) c.as_slice.ensures.value ∙ ap each_once filtered) c.each_once.ensures
