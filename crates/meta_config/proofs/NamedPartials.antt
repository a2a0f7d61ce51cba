-- A partial configuration is found by its own name, and what is found by a name has it.
use Rattle.std.proofs.Common.{◌≡◌, ◌⊎◌, inl, inr, ℕ, zero, suc, Bool, true, false, cond, List, [], ◌∷◌, ◌++◌, Some, refl, sym, ap, subst, ◌∙◌, arith}
use Rattle.std.proofs.lemmas.Option.{none-some, same_Some}
use Rattle.std.proofs.lemmas.Slice.Eq.{bytes_eq-Decides}
use Rattle.std.specs.Prelude.{slice_get}
use Rattle.mof_values.specs.Fold.{fold_case, same_name}
use Rattle.meta_config.specs.declared.meta.Meta.{Meta}
use Rattle.meta_config.specs.declared.meta.Partial.{Partial}
use Rattle.meta_config.specs.Parts.{IsMeta, IsPartName, partial_named}
use Rattle.meta_config.proofs.Apart.{ApartFrom, AreApart}
use Rattle.meta_config.proofs.ReadBack.{is_well_formed}

pub same_itself : (name : List ℕ) → same_name name name ≡ true
same_itself name = (bytes_eq-Decides (fold_case name) (fold_case name)).1 refl

turned : (a b : List ℕ) → same_name a b ≡ false → same_name b a ≡ false
turned a b differ = go (same_name b a) refl
  where
    go : (same : Bool) → same_name b a ≡ same → same_name b a ≡ false
    go false is = is
    go true is = absurd (cc (sym differ ∙ (bytes_eq-Decides (fold_case a) (fold_case b)).1 (sym ((bytes_eq-Decides (fold_case b) (fold_case a)).0 is))))

-- one of the earlier ones is q
abbrev IsAmong : Partial → List Partial → Type 0
IsAmong q [] = ⊥
IsAmong q (p ∷ ps) = (p ≡ q) ⊎ IsAmong q ps

among_last : (q : Partial) (earlier : List Partial) → IsAmong q (earlier ++ q ∷ [])
among_last q [] = inl refl
among_last q (p ∷ ps) = inr (among_last q ps)

among_more : (q p : Partial) (earlier : List Partial) → IsAmong q earlier → IsAmong q (earlier ++ p ∷ [])
among_more q p [] is = absurd is
among_more q p (first ∷ earlier) (inl is) = inl is
among_more q p (first ∷ earlier) (inr is) = inr (among_more q p earlier is)

apart_among : (q : Partial) (earlier : List Partial) (name : List ℕ) → IsAmong q earlier → ApartFrom earlier name → same_name q.name name ≡ false
apart_among q [] name is apart = absurd is
apart_among q (p ∷ earlier) name (inl is) apart = subst (λ (e : Partial). same_name e.name name ≡ false) is apart.0
apart_among q (p ∷ earlier) name (inr is) apart = apart_among q earlier name is apart.1

differs : (q : Partial) (earlier partials : List Partial) (k : ℕ) (partial : Partial) → IsAmong q earlier → AreApart earlier partials → slice_get partials k ≡ Some partial
    → same_name q.name partial.name ≡ false
differs q earlier [] k partial among apart got = absurd (none-some partial got)
differs q earlier (p ∷ partials) zero partial among apart got =
    subst (λ (e : Partial). same_name q.name e.name ≡ false) (same_Some p partial got) (apart_among q earlier p.name among apart.0)
differs q earlier (p ∷ partials) (suc k) partial among apart got = differs q (earlier ++ p ∷ []) partials k partial (among_more q p earlier among) apart.1 got

named_from : (earlier partials : List Partial) (k : ℕ) (partial : Partial) → AreApart earlier partials → slice_get partials k ≡ Some partial
    → partial_named partials partial.name ≡ Some partial
named_from earlier [] k partial apart got = absurd (none-some partial got)
named_from earlier (p ∷ partials) zero partial apart got =
    let is = same_Some p partial got in
    ap (λ b. cond b (Some p) (partial_named partials partial.name)) (ap (λ (e : Partial). same_name partial.name e.name) is ∙ same_itself partial.name) ∙ ap Some is
named_from earlier (p ∷ partials) (suc k) partial apart got =
    let other = turned p.name partial.name (differs p (earlier ++ p ∷ []) partials k partial (among_last p earlier) apart.1 got) in
    ap (λ b. cond b (Some p) (partial_named partials partial.name)) other ∙ named_from (earlier ++ p ∷ []) partials k partial apart.1 got

-- names of partial configurations differ, so each is the one of its name
pub named_itself : (meta : Meta) (k : ℕ) (partial : Partial) → IsMeta meta → slice_get meta.partials k ≡ Some partial → partial_named meta.partials partial.name ≡ Some partial
named_itself meta k partial is got = named_from [] meta.partials k partial (is_well_formed meta is).apart got

-- a name that finds a partial configuration is that of one
pub found_is_named : (partials : List Partial) (name : List ℕ) (partial : Partial) → partial_named partials name ≡ Some partial → IsPartName partials partial.name
found_is_named [] name partial is = absurd (none-some partial is)
found_is_named (p ∷ ps) name partial is = go (same_name name p.name) (found_is_named ps name partial) is
  where
    go : (same : Bool) → (partial_named ps name ≡ Some partial → IsPartName ps partial.name) → cond same (Some p) (partial_named ps name) ≡ Some partial
        → IsPartName (p ∷ ps) partial.name
    go true later found = (zero, p, omega arith, refl, ap (λ (q : Partial). fold_case q.name) (sym (same_Some p partial found)))
    go false later found = let at = later found in (suc at.0, at.1, omega (arith, at.2), at.3, at.4)
