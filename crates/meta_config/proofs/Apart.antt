-- Partial configurations whose names differ by fold.
use Rattle.std.proofs.Common.{◌≡◌, ℕ, ◌+◌, Bool, true, false, cond, ◌&&◌, ◌||◌, List, [], ◌∷◌, ◌++◌, length, take, None, option_map, map, filter, refl, sym, ap, subst, ◌∙◌, append_assoc, append-nil, length-append}
use Rattle.std.proofs.Math.Seq.{take-append_seam}
use Rattle.std.specs.List.{AllByRecursion, list_any, position_from}
use Rattle.std.specs.Option.{option_or}
use Rattle.mof_values.specs.declared.instance.Instance.{Instance}
use Rattle.mof_values.specs.Fold.{same_name}
use Rattle.meta_config.specs.declared.meta.Partial.{Partial}
use Rattle.meta_config.specs.declared.tables.Class.TheVariants as classes
use Rattle.meta_config.specs.Making.{partial_name, partial_of}
use Rattle.meta_config.specs.Refusals.{before, duplicate_from, earlier_of, is_partial_named}
use Rattle.meta_config.specs.Tables.{is_of}
use Rattle.meta_config.proofs.Searches.{map_none, no_position, or_none, position_none}

-- the partial configurations of instances
abbrev pub parts_of : List Instance → List Partial
parts_of is = map partial_of (filter (is_of classes.Partial) is)

-- no name is that of a partial configuration before
abbrev pub ApartFrom : List Partial → List ℕ → Type 0
ApartFrom earlier name = AllByRecursion (λ (q : Partial). same_name q.name name ≡ false) earlier

-- each of the partial configurations has a name that none before it has
abbrev pub AreApart : List Partial → List Partial → Type 0
AreApart earlier [] = Unit {0}
AreApart earlier (p ∷ ps) = ApartFrom earlier p.name × AreApart (earlier ++ p ∷ []) ps

with_part : (b : Bool) (i : Instance) (is : List Instance) → is_of classes.Partial i ≡ b → parts_of (i ∷ is) ≡ map partial_of (cond b (i ∷ filter (is_of classes.Partial) is) (filter (is_of classes.Partial) is))
with_part b i is e = ap (λ t. map partial_of (cond t (i ∷ filter (is_of classes.Partial) is) (filter (is_of classes.Partial) is))) e

-- names of instances and of their partial configurations

named_at : (name : List ℕ) (i : Instance) (is : List Instance) (b : Bool) → is_of classes.Partial i ≡ b → is_partial_named name i ≡ false
    → ApartFrom (parts_of is) name → ApartFrom (map partial_of (cond b (i ∷ filter (is_of classes.Partial) is) (filter (is_of classes.Partial) is))) name
named_at name i is true e differs more = (ap (λ t. t && same_name (partial_name i.properties) name) (sym e) ∙ differs, more)
named_at name i is false e differs more = more

parts_apart : (name : List ℕ) (is : List Instance) → AllByRecursion (λ i. is_partial_named name i ≡ false) is → ApartFrom (parts_of is) name
parts_apart name [] all = tt
parts_apart name (i ∷ is) all =
    subst (λ ps. ApartFrom ps name) (sym (with_part (is_of classes.Partial i) i is refl)) (named_at name i is (is_of classes.Partial i) refl all.0 (parts_apart name is all.1))

unnamed_at : (name : List ℕ) (i : Instance) (is : List Instance) (b : Bool) → is_of classes.Partial i ≡ b
    → ApartFrom (map partial_of (cond b (i ∷ filter (is_of classes.Partial) is) (filter (is_of classes.Partial) is))) name
    → (is_partial_named name i ≡ false) × ApartFrom (parts_of is) name
unnamed_at name i is true e all = (ap (λ t. t && same_name (partial_name i.properties) name) e ∙ all.0, all.1)
unnamed_at name i is false e all = (ap (λ t. t && same_name (partial_name i.properties) name) e, all)

apart_parts : (name : List ℕ) (is : List Instance) → ApartFrom (parts_of is) name → AllByRecursion (λ i. is_partial_named name i ≡ false) is
apart_parts name [] all = tt
apart_parts name (i ∷ is) all =
    let here = unnamed_at name i is (is_of classes.Partial i) refl all in
    (here.0, apart_parts name is here.1)

-- one instance more
parts_join : (is js : List Instance) → parts_of (is ++ js) ≡ parts_of is ++ parts_of js
parts_join [] js = refl
parts_join (i ∷ is) js = at (is_of classes.Partial i) (parts_join is js)
  where
    at : (b : Bool) → parts_of (is ++ js) ≡ parts_of is ++ parts_of js
        → map partial_of (cond b (i ∷ filter (is_of classes.Partial) (is ++ js)) (filter (is_of classes.Partial) (is ++ js)))
        ≡ map partial_of (cond b (i ∷ filter (is_of classes.Partial) is) (filter (is_of classes.Partial) is)) ++ parts_of js
    at true more = ap (λ l. partial_of i ∷ l) more
    at false more = more

-- a partial configuration that is no duplicate
once_at : (earlier : List Instance) (i : Instance) (b : Bool) → is_of classes.Partial i ≡ b
    → cond b (position_from (is_partial_named (partial_name i.properties)) 0 earlier) None ≡ None
    → (is_of classes.Partial i ≡ true → ApartFrom (parts_of earlier) (partial_name i.properties))
once_at earlier i true e none is = parts_apart (partial_name i.properties) earlier (position_none (is_partial_named (partial_name i.properties)) 0 earlier none)
once_at earlier i false e none is = cc

-- the first instances of a list, and the place after them
split_after : (earlier rest : List Instance) (i : Instance) → earlier ++ i ∷ rest ≡ (earlier ++ i ∷ []) ++ rest
split_after earlier rest i = sym (append_assoc earlier (i ∷ []) rest)

place : (earlier : List Instance) (i : Instance) → length earlier + 1 ≡ length (earlier ++ i ∷ [])
place earlier i = sym (length-append earlier (i ∷ []))

next_at : (earlier rest : List Instance) (i : Instance) (b : Bool) → is_of classes.Partial i ≡ b
    → (is_of classes.Partial i ≡ true → ApartFrom (parts_of earlier) (partial_name i.properties))
    → AreApart (parts_of (earlier ++ i ∷ [])) (parts_of rest)
    → AreApart (parts_of earlier) (map partial_of (cond b (i ∷ filter (is_of classes.Partial) rest) (filter (is_of classes.Partial) rest)))
next_at earlier rest i true e one more =
    (one e, subst (λ ps. AreApart ps (parts_of rest)) (parts_join earlier (i ∷ []) ∙ ap (λ ps. parts_of earlier ++ ps) (with_part true i [] e)) more)
next_at earlier rest i false e one more =
    subst (λ ps. AreApart ps (parts_of rest)) (parts_join earlier (i ∷ []) ∙ ap (λ ps. parts_of earlier ++ ps) (with_part false i [] e) ∙ append-nil (parts_of earlier)) more

-- instances without duplicates
pub apart_from : (earlier rest all : List Instance) (n : ℕ) → all ≡ earlier ++ rest → n ≡ length earlier → duplicate_from all n rest ≡ None → AreApart (parts_of earlier) (parts_of rest)
apart_from earlier [] all n is at none = tt
apart_from earlier (i ∷ rest) all n is at none =
    let o = or_none (option_map (before n) (earlier_of (take n all) i)) (duplicate_from all (n + 1) rest) none in
    let front : take n all ≡ earlier = (λ k. take (at k) (is k)) ∙ take-append_seam earlier (i ∷ rest) in
    let here = map_none (before n) (earlier_of (take n all) i) o.0 in
    next_at earlier rest i (is_of classes.Partial i) refl
    (once_at earlier i (is_of classes.Partial i) refl (ap (λ l. earlier_of l i) (sym front) ∙ here))
    (apart_from (earlier ++ i ∷ []) rest all (n + 1) (is ∙ split_after earlier rest i) (ap (λ k. k + 1) at ∙ place earlier i) o.1)

-- conversely
before_at : (earlier rest : List Instance) (i : Instance) (b : Bool) → is_of classes.Partial i ≡ b
    → AreApart (parts_of earlier) (map partial_of (cond b (i ∷ filter (is_of classes.Partial) rest) (filter (is_of classes.Partial) rest)))
    → (cond b (position_from (is_partial_named (partial_name i.properties)) 0 earlier) None ≡ None) × AreApart (parts_of (earlier ++ i ∷ [])) (parts_of rest)
before_at earlier rest i true e all = (
  no_position (is_partial_named (partial_name i.properties)) 0 earlier (apart_parts (partial_name i.properties) earlier all.0),
  subst (λ ps. AreApart ps (parts_of rest)) (sym (parts_join earlier (i ∷ []) ∙ ap (λ ps. parts_of earlier ++ ps) (with_part true i [] e))) all.1,
)
before_at earlier rest i false e all = (
  refl,
  subst (λ ps. AreApart ps (parts_of rest)) (sym (parts_join earlier (i ∷ []) ∙ ap (λ ps. parts_of earlier ++ ps) (with_part false i [] e) ∙ append-nil (parts_of earlier))) all,
)

pub no_duplicate : (earlier rest all : List Instance) (n : ℕ) → all ≡ earlier ++ rest → n ≡ length earlier → AreApart (parts_of earlier) (parts_of rest) → duplicate_from all n rest ≡ None
no_duplicate earlier [] all n is at apart = refl
no_duplicate earlier (i ∷ rest) all n is at apart =
    let front : take n all ≡ earlier = (λ k. take (at k) (is k)) ∙ take-append_seam earlier (i ∷ rest) in
    let h = before_at earlier rest i (is_of classes.Partial i) refl apart in
    ap (λ o. option_or (option_map (before n) o) (duplicate_from all (n + 1) rest)) (ap (λ l. earlier_of l i) front ∙ h.0)
    ∙ no_duplicate (earlier ++ i ∷ []) rest all (n + 1) (is ∙ split_after earlier rest i) (ap (λ k. k + 1) at ∙ place earlier i) h.1

-- ---- names that are known

known_at : (name : List ℕ) (i : Instance) (is : List Instance) (b : Bool) → is_of classes.Partial i ≡ b → list_any (is_partial_named name) is ≡ list_any (λ (q : Partial). same_name q.name name) (parts_of is)
    → list_any (is_partial_named name) (i ∷ is) ≡ list_any (λ (q : Partial). same_name q.name name) (map partial_of (cond b (i ∷ filter (is_of classes.Partial) is) (filter (is_of classes.Partial) is)))
known_at name i is true e more =
    ap (λ t. (t && same_name (partial_name i.properties) name) || list_any (is_partial_named name) is) e
    ∙ ap (λ t. same_name (partial_name i.properties) name || t) more
known_at name i is false e more =
    ap (λ t. (t && same_name (partial_name i.properties) name) || list_any (is_partial_named name) is) e ∙ more

-- the names of the partial configurations of instances
pub known_in : (name : List ℕ) (is : List Instance) → list_any (is_partial_named name) is ≡ list_any (λ (q : Partial). same_name q.name name) (parts_of is)
known_in name [] = refl
known_in name (i ∷ is) = known_at name i is (is_of classes.Partial i) refl (known_in name is)
