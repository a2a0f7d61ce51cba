use Rattle.std.proofs.Common.{◌≡◌, ℕ, zero, suc, ◌+◌, ◌<◌, ◌≤◌, List, [], ◌∷◌, length, take, get_or, slice_get, option_map, Some, refl, sym, ap, subst, ◌∙◌, ⊎_elim, arith, length-take}
use Rattle.std.proofs.lemmas.Bool.{cases_eq, cases_lt, both_ways}
use Rattle.std.proofs.lemmas.Option.{slice_get-get_or, slice_get_past}
use Rattle.mof_values.specs.Fold.{fold_case}
use Rattle.mof_values.specs.declared.instance.Property.{Property}
use Rattle.dsc_document.specs.Names.{ShareName, IsName}
use Rattle.dsc_document.specs.Rules.{RepeatsName, property_name_at}
use Rattle.dsc_document.proofs.properties.repeated_name.Goals as goal

slice_get-take : (n k : ℕ) (xs : List Property) → k < n → slice_get (take n xs) k ≡ slice_get xs k
slice_get-take zero k xs below = absurd (omega arith)
slice_get-take (suc n) k [] below = refl
slice_get-take (suc n) zero (x ∷ xs) below = refl
slice_get-take (suc n) (suc k) (x ∷ xs) below = slice_get-take n k xs (omega arith)

module _ (properties : List Property) (n : ℕ) where
  name_in_take : (k : ℕ) → k < n → property_name_at (take n properties) k ≡ property_name_at properties k
  name_in_take k below = ap (option_map (λ p. p.name)) (slice_get-take n k properties below)

  in_take : (k : ℕ) (name : List ℕ) → property_name_at (take n properties) k ≡ Some name → k < n
  in_take k name named =
      ⊎_elim
      (λ below. below)
      (λ after. absurd (cc (named, ap (option_map (λ p. p.name)) (slice_get_past (take n properties) k (simp length-take (omega arith))))))
      (cases_lt k n)

  module _ (property : Property) (within : n < length properties) (is : property ≡ get_or properties n property) where
    here : property_name_at properties n ≡ Some property.name
    here = ap (option_map (λ p. p.name)) (slice_get-get_or properties n property within) ∙ ap (λ p. Some p.name) (sym is)

    repeats : IsName (property_name_at (take n properties)) property.name → ((i j : ℕ) → ShareName (property_name_at properties) i j → n ≤ j)
        → RepeatsName properties property.name
    repeats named least =
        let below = in_take named.0 named.1 named.2 in
        record {
          first = named.0;
          second = n;
          shared = (below, named.1, property.name, sym (name_in_take named.0 below) ∙ named.2, here, named.3);
          least = least;
          spelled = here;
        }

    more : (IsName (property_name_at (take n properties)) property.name → ⊥) → ((i j : ℕ) → ShareName (property_name_at properties) i j → n ≤ j)
        → (i j : ℕ) → ShareName (property_name_at properties) i j → n + 1 ≤ j
    more new least i j shared =
        ⊎_elim
        (λ e.
        let below : i < n = subst (λ m. i < m) e shared.0 in
        let same : shared.2 ≡ property.name = cc (ap (property_name_at properties) e, shared.4, here) in
        absurd (new (i, shared.1, name_in_take i below ∙ shared.3, shared.5 ∙ ap fold_case same)))
        (λ ne. let from = least i j shared in omega arith)
        (cases_eq j n)

never : (properties : List Property) (n : ℕ) → length properties ≤ n → ((i j : ℕ) → ShareName (property_name_at properties) i j → n ≤ j)
    → (i j : ℕ) → ShareName (property_name_at properties) i j → ⊥
never properties n all least i j shared =
    let from = least i j shared in
    absurd (cc (shared.4, ap (option_map (λ p. p.name)) (slice_get_past properties j (omega arith))))

pub returns-then-is_name : goal.returns-then-is_name
returns-then-is_name c =
    repeats c.args.properties.now c.loop-place.place c.index-properties-place.result c.loop-place-test.true c.index-properties-place.is
    (subst (λ ps. IsName (property_name_at ps) c.index-properties-place.result.name) c.split_at.ensures.front (c.is_name.ensures.0 c.if-is_name.true))
    c.loop-place.invariant

pub loop-place-preserved : goal.loop-place-preserved
loop-place-preserved c =
    more c.args.properties.now c.loop-place.place c.index-properties-place.result c.loop-place-test.true c.index-properties-place.is
    (λ named. both_ways _ c.if-is_name.false (c.is_name.ensures.1 (subst (λ ps. IsName (property_name_at ps) c.index-properties-place.result.name) (sym c.split_at.ensures.front) named)))
    c.loop-place.invariant

pub returns : goal.returns
returns c = never c.args.properties.now c.loop-place.place c.loop-place-test.false c.loop-place.invariant
