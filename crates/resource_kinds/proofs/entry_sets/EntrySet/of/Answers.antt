use Rattle.std.proofs.Common.{rules, tests, ◌==◌, ℕ, List, map, sym, subst}
use Rattle.std.proofs.lemmas.Iterator.Consumers.{YieldsList-end}
use Rattle.std.proofs.lemmas.Iterator.Splits.{YieldsList-from_slice_split}
use Rattle.std.proofs.lemmas.List.{map_push}
use Rattle.resource_kinds.specs.EntrySets.{IsSetOf}
use Rattle.resource_kinds.proofs.SetsOfEntries.{takes_more}
use Rattle.resource_kinds.proofs.entry_sets.EntrySet.of.Goals as goal

pub loop-entry-preserved : goal.loop-entry-preserved
loop-entry-preserved c =
    subst (IsSetOf c.insert.new.self) (sym (map_push (λ e. e.now) c.loop-entry.yielded c.in-Some.entry))
    (takes_more c.loop-entry.set c.insert.new.self (map (λ e. e.now) c.loop-entry.yielded) c.in-Some.entry.now c.loop-entry.invariant c.in_ok-insert.ensures.put)

pub returns : goal.returns
returns c =
    let all = YieldsList-end (YieldsList-from_slice_split _ (λ b. b == 59) c.args.value.now (cc) (cc) (cc) (λ x b q k. search (rules, tests)))
    c.loop-entry.yielded _ c.loop-entry.yielded_by _ _ c.in-None.is c.next.ensures.steps in
    subst (λ (l : List (List ℕ)). IsSetOf c.loop-entry.set l) all.0 c.loop-entry.invariant
