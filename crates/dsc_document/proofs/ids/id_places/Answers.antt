use Rattle.std.proofs.Common.{sym, refl, ◌∙◌}
use Rattle.dsc_document.specs.Declarations.{id_of}
use Rattle.dsc_document.specs.Rules.{Applies, StandsBefore, id_at, indexes_of}
use Rattle.dsc_document.proofs.RefusalsOfRules.{only_duplicate_id}
use Rattle.dsc_document.proofs.Placed.{at_item, at_past, pair_at, ShareName-never, HoldsNames-all, Indexes-put_any}
use Rattle.dsc_document.proofs.ids.id_places.Goals as goal

pub returns-in-Some-clause-tested : goal.returns-in-Some-clause-tested
returns-in-Some-clause-tested c = λ not_memory.
    let here = at_item c.args.instances.now id_of c.loop-second.second c.index-instances-second.result c.loop-second-test.true c.index-instances-second.is in
    let pair = pair_at (id_at c.args.instances.now) c.loop-second.second c.loop-second.places c.loop-second.invariant _ c.in-Some.first
    (here ∙ sym c.id_chars.ensures) (sym c.in_ok-first.ensures.had ∙ c.in-Some.is) in
    record {
      is = refl;
      applies = pair.0;
      first = only_duplicate_id (λ r. StandsBefore (indexes_of r) (c.loop-second.second, c.in-Some.first) → Applies c.args.instances.now r → ⊥) pair.1;
    }

pub loop-second-preserved : goal.loop-second-preserved
loop-second-preserved c =
    let here = at_item c.args.instances.now id_of c.loop-second.second c.index-instances-second.result c.loop-second-test.true c.index-instances-second.is in
    Indexes-put_any (id_at c.args.instances.now) c.loop-second.second c.loop-second.places c.loop-second.invariant _ _
    (here ∙ sym c.id_chars.ensures) (sym c.in_ok-first.ensures.had ∙ c.in_default.is) c.in_ok-first.ensures.put

pub returns-clause-tested : goal.returns-clause-tested
returns-clause-tested c =
    only_duplicate_id (λ r. Applies c.args.instances.now r → ⊥)
    (ShareName-never (id_at c.args.instances.now) c.loop-second.second c.loop-second.places c.loop-second.invariant
    (at_past c.args.instances.now id_of c.loop-second.second c.loop-second-test.false))

pub returns-clause-places : goal.returns-clause-places
returns-clause-places c =
    HoldsNames-all (id_at c.args.instances.now) c.loop-second.second c.loop-second.places c.loop-second.invariant
    (at_past c.args.instances.now id_of c.loop-second.second c.loop-second-test.false)
