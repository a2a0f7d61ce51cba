use Rattle.std.proofs.Common.{◌≡◌, ℕ, List, [], ◌∷◌, ◌++◌, All, length, get_or, IsTrue, is_some, filter_map, refl, sym, ap, subst, ◌∙◌, arith, length-append}
use Rattle.std.proofs.lemmas.Option.{MatchOption-at_some, MatchOption-at_none}
use Rattle.mof_values.specs.declared.instance.Instance.{Instance}
use Rattle.dsc_document.specs.Tests.{IsFirstUnplaced}
use Rattle.mof_values.specs.Values.{text_of_scalar}
use Rattle.dsc_document.specs.Declarations.{depends_of}
use Rattle.dsc_document.specs.Places.{HoldsNames, place_of}
use Rattle.dsc_document.specs.Rules.{Applies, IsFirstUnknown, StandsBefore, id_at, indexes_of}
use Rattle.dsc_document.specs.declared.places.Places.{Places}
use Rattle.dsc_document.proofs.RefusalsOfRules.{HasAt-here, HasAt-before, HasAt-never, each_more, earlier, only_depends_unknown}
use Rattle.dsc_document.proofs.depends.check_known.Goals as goal

at_seam : (known rest : List (List ℕ)) (name : List ℕ) → get_or (known ++ name ∷ rest) (length known) name ≡ name
at_seam [] rest name = refl
at_seam (k ∷ ks) rest name = at_seam ks rest name

module _ (instances : List Instance) (ids : Places) (holds : HoldsNames (id_at instances) ids) (names : List (List ℕ)) (name : List ℕ) where
  first_unknown : IsFirstUnplaced ids names name → IsFirstUnknown instances names name
  first_unknown first = (
    first.0,
    first.1,
    first.2,
    (λ k d within. (holds (get_or first.0 k d)).0 (first.3 k d within)),
    λ named. let has = (holds name).1 named in absurd (cc (has, first.4)),
  )

  none_unknown : All (λ n. IsTrue (is_some (place_of ids n))) names → IsFirstUnknown instances names name → ⊥
  none_unknown all first =
      let here : get_or names (length first.0) name ≡ name = ap (λ l. get_or l (length first.0) name) first.2 ∙ at_seam first.0 first.1 name in
      let lengths = ap length first.2 ∙ length-append first.0 (name ∷ first.1) in
      first.4 ((holds name).0 (subst (λ n. IsTrue (is_some (place_of ids n))) here (all (length first.0) name (omega arith))))

pub returns-in-Some : goal.returns-in-Some
returns-in-Some c = λ not_memory.
    let placed = MatchOption-at_some _ (λ n. IsFirstUnplaced c.args.ids.now (filter_map text_of_scalar c.depends_scalars.result.now) n.now) c.in-Some.name c.in-Some.is c.in_ok-name.ensures in
    let first : IsFirstUnplaced c.args.ids.now (depends_of c.index-instances-index.result) c.in-Some.name.now =
    subst (λ names. IsFirstUnplaced c.args.ids.now names c.in-Some.name.now) c.depends_scalars.ensures placed in
    record {
      is = refl;
      applies = HasAt-here c.args.instances.now (λ i. IsFirstUnknown c.args.instances.now (depends_of i) c.in_ok-copy.field-0) c.loop-index.index c.index-instances-index.result c.loop-index-test.true c.index-instances-index.is
          (subst (λ n. IsFirstUnknown c.args.instances.now (depends_of c.index-instances-index.result) n) (sym c.in_ok-copy.ensures)
          (first_unknown c.args.instances.now c.args.ids.now c.requires.places (depends_of c.index-instances-index.result) c.in-Some.name.now first));
      first = only_depends_unknown (λ r. StandsBefore (indexes_of r) (c.loop-index.index, 0) → Applies c.args.instances.now r → ⊥)
          (λ k name before has. HasAt-before c.args.instances.now (λ i. IsFirstUnknown c.args.instances.now (depends_of i) name) c.loop-index.index (c.loop-index.invariant name) k (earlier k c.loop-index.index before) has);
    }

pub loop-index-preserved : goal.loop-index-preserved
loop-index-preserved c = λ name.
    let placed = MatchOption-at_none (All (λ n. IsTrue (is_some (place_of c.args.ids.now n))) (filter_map text_of_scalar c.depends_scalars.result.now)) _ c.in_default.is c.in_ok-name.ensures in
    each_more (λ i. IsFirstUnknown c.args.instances.now (depends_of i) name → ⊥) c.args.instances.now c.loop-index.index c.index-instances-index.result c.loop-index-test.true c.index-instances-index.is
    (none_unknown c.args.instances.now c.args.ids.now c.requires.places (depends_of c.index-instances-index.result) name
    (subst (λ names. All (λ n. IsTrue (is_some (place_of c.args.ids.now n))) names) c.depends_scalars.ensures placed))
    (c.loop-index.invariant name)

pub returns : goal.returns
returns c =
    only_depends_unknown (λ r. Applies c.args.instances.now r → ⊥)
    (λ index name. HasAt-never c.args.instances.now (λ i. IsFirstUnknown c.args.instances.now (depends_of i) name) c.loop-index.index c.loop-index-test.false (c.loop-index.invariant name) index)
