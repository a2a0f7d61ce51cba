use Rattle.std.proofs.Common.{ap, refl}
use Rattle.std.proofs.lemmas.Bool.{false≢true}
use Rattle.std.specs.Option.{option_map}
use Rattle.resource_kinds.specs.Subjects.{subject_matter}
use Rattle.resource_kinds.proofs.EarlierResources.{meets_here, meets_none, none_more}
use Rattle.resource_kinds.proofs.overlap.meets_earlier.Goals as goal

pub returns-then-meets : goal.returns-then-meets
returns-then-meets c =
    let here = meets_here c.args.document.now c.as_slice-resources.result.now c.as_slice-resources.ensures c.args.second c.index-resources-second.result c.requires c.index-resources-second.is
    (option_map subject_matter c.subject_of.result) (subject_matter c.in-Some.subject) (ap (option_map subject_matter) c.in-Some.is) c.subject_of.ensures
    c.loop-first.first c.index-resources-first.result c.loop-first-test.true c.index-resources-first.is (c.meets.ensures.0 c.if-meets.true) in
    (λ _. here, λ _. refl)

pub loop-first-preserved : goal.loop-first-preserved
loop-first-preserved c =
    none_more c.args.document.now c.as_slice-resources.result.now c.as_slice-resources.ensures c.loop-first.first c.args.second c.index-resources-first.result (subject_matter c.in-Some.subject) c.meets.result
    c.loop-first-test.true c.requires c.index-resources-first.is c.meets.ensures c.if-meets.false c.loop-first.invariant

pub returns : goal.returns
returns c =
    let none = meets_none c.args.document.now c.as_slice-resources.result.now c.as_slice-resources.ensures c.args.second c.index-resources-second.result c.requires c.index-resources-second.is
    (option_map subject_matter c.subject_of.result) (subject_matter c.in-Some.subject) (ap (option_map subject_matter) c.in-Some.is) c.subject_of.ensures
    c.loop-first.first c.loop-first-test.false c.loop-first.invariant in
    (λ wrong. absurd (false≢true wrong), λ earlier. absurd (none earlier))
