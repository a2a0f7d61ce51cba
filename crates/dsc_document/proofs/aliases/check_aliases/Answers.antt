use Rattle.std.proofs.Common.{◌≡◌, ℕ, List, Any, Option, Some, None, IsTrue, is_some, refl}
use Rattle.std.proofs.lemmas.Bool.{both_ways}
use Rattle.mof_values.specs.declared.instance.Instance.{Instance}
use Rattle.dsc_document.specs.Tests.{HoldsUnplaced}
use Rattle.mof_values.specs.Values.{scalars_of}
use Rattle.dsc_document.specs.Places.{HoldsNames, place_of}
use Rattle.dsc_document.specs.Rules.{Applies, NamesNoAlias, StandsBefore, alias_at, indexes_of}
use Rattle.dsc_document.specs.declared.places.Places.{Places}
use Rattle.dsc_document.proofs.RefusalsOfRules.{HasAt-here, HasAt-before, HasAt-never, each_more, earlier, only_alias_unknown}
use Rattle.dsc_document.proofs.aliases.check_aliases.Goals as goal

none_unless : (o : Option ℕ) → (IsTrue (is_some o) → ⊥) → o ≡ None
none_unless None not = refl
none_unless (Some x) not = absurd (not refl)

module _ (instances : List Instance) (aliases : Places) (holds : HoldsNames (alias_at instances) aliases) (instance : Instance) where
  unknown : Any (λ p. HoldsUnplaced aliases (scalars_of p.value)) instance.properties → NamesNoAlias instances instance
  unknown any = record {
    property = any.1;
    alias = any.4.0;
    declared = (any.0, any.2, any.3);
    named = any.4.1;
    unknown = λ named. let has = (holds any.4.0).1 named in absurd (cc (has, any.4.2));
  }

  unplaced : NamesNoAlias instances instance → Any (λ p. HoldsUnplaced aliases (scalars_of p.value)) instance.properties
  unplaced h = (
    h.declared.0,
    h.property,
    h.declared.1,
    h.declared.2,
    (h.alias, h.named, none_unless (place_of aliases h.alias) (λ has. h.unknown ((holds h.alias).0 has))),
  )

pub returns-then-branch : goal.returns-then-branch
returns-then-branch c = λ not_memory. record {
  is = refl;
  applies = HasAt-here c.args.instances.now (NamesNoAlias c.args.instances.now) c.loop-index.index c.index-instances-index.result c.loop-index-test.true c.index-instances-index.is
      (unknown c.args.instances.now c.args.aliases.now c.requires.places c.index-instances-index.result (c.in_ok-names_no_alias.ensures.0 c.if-branch.true));
  first = only_alias_unknown (λ r. StandsBefore (indexes_of r) (c.loop-index.index, 0) → Applies c.args.instances.now r → ⊥)
      (λ k before has. HasAt-before c.args.instances.now (NamesNoAlias c.args.instances.now) c.loop-index.index c.loop-index.invariant k (earlier k c.loop-index.index before) has);
}

pub loop-index-preserved : goal.loop-index-preserved
loop-index-preserved c =
    each_more (λ i. NamesNoAlias c.args.instances.now i → ⊥) c.args.instances.now c.loop-index.index c.index-instances-index.result c.loop-index-test.true c.index-instances-index.is
    (λ h. both_ways _ c.if-branch.false (c.in_ok-names_no_alias.ensures.1 (unplaced c.args.instances.now c.args.aliases.now c.requires.places c.index-instances-index.result h)))
    c.loop-index.invariant

pub returns : goal.returns
returns c =
    only_alias_unknown (λ r. Applies c.args.instances.now r → ⊥)
    (HasAt-never c.args.instances.now (NamesNoAlias c.args.instances.now) c.loop-index.index c.loop-index-test.false c.loop-index.invariant)
