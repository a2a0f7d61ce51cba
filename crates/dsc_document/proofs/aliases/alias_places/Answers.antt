use Rattle.std.proofs.Common.{sym, refl, ◌∙◌}
use Rattle.mof_values.specs.declared.instance.Instance.{Instance}
use Rattle.dsc_document.specs.Rules.{Applies, StandsBefore, alias_at, indexes_of}
use Rattle.dsc_document.proofs.RefusalsOfRules.{only_two_aliases}
use Rattle.dsc_document.proofs.Placed.{at_item, at_past, pair_at, ShareName-never, HoldsNames-all, Indexes-put_any}
use Rattle.dsc_document.proofs.aliases.alias_places.Goals as goal

pub returns-in-Some-clause-tested : goal.returns-in-Some-clause-tested
returns-in-Some-clause-tested c = λ not_memory.
    let here = at_item c.args.instances.now (λ (i : Instance). i.alias) c.loop-second.second c.index-instances-second.result c.loop-second-test.true c.index-instances-second.is in
    let pair = pair_at (alias_at c.args.instances.now) c.loop-second.second c.loop-second.places c.loop-second.invariant _ c.in-Some.first
    (here ∙ sym c.alias_of.ensures) (sym c.in_ok-first.ensures.had ∙ c.in-Some.is) in
    record {
      is = refl;
      applies = pair.0;
      first = only_two_aliases (λ r. StandsBefore (indexes_of r) (c.loop-second.second, c.in-Some.first) → Applies c.args.instances.now r → ⊥) pair.1;
    }

pub loop-second-preserved : goal.loop-second-preserved
loop-second-preserved c =
    let here = at_item c.args.instances.now (λ (i : Instance). i.alias) c.loop-second.second c.index-instances-second.result c.loop-second-test.true c.index-instances-second.is in
    Indexes-put_any (alias_at c.args.instances.now) c.loop-second.second c.loop-second.places c.loop-second.invariant _ _
    (here ∙ sym c.alias_of.ensures) (sym c.in_ok-first.ensures.had ∙ c.in_default.is) c.in_ok-first.ensures.put

pub returns-clause-tested : goal.returns-clause-tested
returns-clause-tested c =
    only_two_aliases (λ r. Applies c.args.instances.now r → ⊥)
    (ShareName-never (alias_at c.args.instances.now) c.loop-second.second c.loop-second.places c.loop-second.invariant
    (at_past c.args.instances.now (λ (i : Instance). i.alias) c.loop-second.second c.loop-second-test.false))

pub returns-clause-places : goal.returns-clause-places
returns-clause-places c =
    HoldsNames-all (alias_at c.args.instances.now) c.loop-second.second c.loop-second.places c.loop-second.invariant
    (at_past c.args.instances.now (λ (i : Instance). i.alias) c.loop-second.second c.loop-second-test.false)
