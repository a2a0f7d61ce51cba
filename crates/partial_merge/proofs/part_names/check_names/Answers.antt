use Rattle.std.proofs.Common.{ℕ, List, subst}
use Rattle.dsc_document.specs.Places.{Puts}
use Rattle.partial_merge.proofs.FirstNames.{all_apart, first_repeat, one_more}
use Rattle.partial_merge.proofs.part_names.check_names.Goals as goal

pub returns-in-Some-clause-refused : goal.returns-in-Some-clause-refused
returns-in-Some-clause-refused c =
    first_repeat c.args.parts.now (λ part. part.name) c.loop-second.second c.loop-second.places c.loop-second.invariant
    c.index-parts-second.result c.loop-second-test.true c.index-parts-second.is c.in-Some.first
    (cc (c.in_ok-first.ensures.had, c.in-Some.is, c.as_slice.ensures.value))

pub loop-second-preserved : goal.loop-second-preserved
loop-second-preserved c =
    one_more c.args.parts.now (λ part. part.name) c.loop-second.second c.loop-second.places c.loop-second.invariant
    c.index-parts-second.result c.loop-second-test.true c.index-parts-second.is c.put.new.self
    (cc (c.in_ok-first.ensures.had, c.in_default.is, c.as_slice.ensures.value))
    (subst (λ (name : List ℕ). Puts c.loop-second.places c.put.new.self name c.loop-second.second) c.as_slice.ensures.value c.in_ok-first.ensures.put)

pub returns-clause-differ : goal.returns-clause-differ
returns-clause-differ c =
    all_apart c.args.parts.now (λ part. part.name) c.loop-second.second c.loop-second.places c.loop-second.invariant c.loop-second-test.false
