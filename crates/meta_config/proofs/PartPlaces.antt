-- The places of partial configurations that names mean, and the orders of the ones and of the others.
use Rattle.std.proofs.Common.{◌≡◌, inl, inr, ℕ, zero, suc, ◌+◌, ◌<◌, ◌≤◌, true, false, List, [], ◌∷◌, ◌++◌, Option, Some, None, length, take, get_or, All, sym, ◌∙◌, ap, subst, arith, append_assoc, append-nil, length-append}
use Rattle.std.proofs.lemmas.Bool.{cases_eq, cases_lt, false≢true}
use Rattle.std.proofs.lemmas.List.{take_more}
use Rattle.std.proofs.lemmas.List.Folds.{Any-from_list_any}
use Rattle.std.proofs.lemmas.Option.{none-some, same_Some, MatchOption-at_some, slice_get_within, slice_get-get_or}
use Rattle.std.proofs.lemmas.Slice.Eq.{bytes_eq-Decides}
use Rattle.std.proofs.lemmas.Slice.Zip.{AllZip-long, AllZip-left, AllZip-right, all_zipped_more}
use Rattle.std.specs.Global.{Vec}
use Rattle.std.specs.List.{AllByRecursion, AllZip}
use Rattle.std.specs.Option.{option_map_or}
use Rattle.std.specs.Prelude.{IsSomeAnd, MatchOption, slice_get}
use Rattle.mof_values.specs.Fold.{fold_case, SameName, same_name}
use Rattle.depend_order.specs.Cycle.{DependsOn, IsCycle}
use Rattle.depend_order.specs.Numbers.{Lists, AreBelow, IsOrderOfNumbers, IsCycleOfNumbers}
use Rattle.depend_order.specs.Order.{IsOrder}
use Rattle.depend_order.proofs.NumberLemmas.{listed_at}
use Rattle.depend_order.proofs.Options.{some_of, some_is}
use Rattle.depend_order.proofs.SameNames.{Within, order_over, cycle_over}
use Rattle.meta_config.specs.declared.meta.Meta.{Meta}
use Rattle.meta_config.specs.declared.meta.Partial.{Partial}
use Rattle.meta_config.specs.Parts.{AreResolvedParts, IsCycleOfParts, IsOrderOfParts, IsPartName, MeansPart, NamesPart}
use Rattle.meta_config.proofs.Apart.{ApartFrom, AreApart}
use Rattle.meta_config.proofs.WellFormed.{is_known}

-- ---- the next element of a list

pub item_has : {A : Type 0} (P : A → Type 0) (xs : List A) (i : ℕ) (x : A) → All P xs → i < length xs → x ≡ get_or xs i x → P x
item_has P xs i x all lt read = subst P (sym read) (all i x lt)

pub zip_more : {A B : Type 0} (R : A → B → Type 0) (xs : List A) (ys : List B) (i : ℕ) (x : A) (y : B) → i < length xs → x ≡ get_or xs i x → R x y
    → AllZip R (take i xs) ys → AllZip R (take (i + 1) xs) (ys ++ y ∷ [])
zip_more R xs ys i x y lt read r so_far = rw (take_more xs i x lt, ← read) (all_zipped_more R (take i xs) ys x y so_far r)

-- ---- names of one place

-- none of the first partial configurations has the name
none_before : (earlier : List Partial) (name : List ℕ) (q : ℕ) (a : Partial) → ApartFrom earlier name → slice_get earlier q ≡ Some a → same_name a.name name ≡ false
none_before [] name q a all e = absurd (none-some a e)
none_before (p ∷ ps) name zero a all e = subst (λ (x : Partial). same_name x.name name ≡ false) (same_Some p a e) all.0
none_before (p ∷ ps) name (suc q) a all e = none_before ps name q a all.1 e

front_at : (xs ys : List Partial) (q : ℕ) (a : Partial) → q < length xs → slice_get (xs ++ ys) q ≡ Some a → slice_get xs q ≡ Some a
front_at [] ys q a lt e = absurd (omega arith)
front_at (x ∷ xs) ys zero a lt e = e
front_at (x ∷ xs) ys (suc q) a lt e = front_at xs ys q a (omega arith) e

at_front : (xs ys : List Partial) (p b : Partial) → slice_get (xs ++ p ∷ ys) (length xs) ≡ Some b → p ≡ b
at_front [] ys p b e = same_Some p b e
at_front (x ∷ xs) ys p b e = at_front xs ys p b e

apart_at : (earlier ps : List Partial) (q s : ℕ) (a b : Partial) → AreApart earlier ps → q < s → length earlier ≤ s
    → slice_get (earlier ++ ps) q ≡ Some a → slice_get (earlier ++ ps) s ≡ Some b → same_name a.name b.name ≡ false
apart_at earlier [] q s a b all lt le e f = absurd (omega (arith, slice_get_within (earlier ++ []) s b f, ap length (append-nil earlier)))
apart_at earlier (p ∷ ps) q s a b all lt le e f = elim (cases_eq s (length earlier)) [
  | inl here ↦
      let same : p ≡ b = at_front earlier ps p b (subst (λ n. slice_get (earlier ++ p ∷ ps) n ≡ Some b) here f) in
      subst (λ (x : Partial). same_name a.name x.name ≡ false) same (none_before earlier p.name q a all.0 (front_at earlier (p ∷ ps) q a (omega (arith, here)) e))
  | inr other ↦
      apart_at (earlier ++ p ∷ []) ps q s a b all.1 lt (omega (arith, length-append earlier (p ∷ [])))
      (subst (λ l. slice_get l q ≡ Some a) (sym (append_assoc earlier (p ∷ []) ps)) e)
      (subst (λ l. slice_get l s ≡ Some b) (sym (append_assoc earlier (p ∷ []) ps)) f)
]

module _ (partials : List Partial) (apart : AreApart [] partials) where
  differ : (name : List ℕ) (q s : ℕ) → q < s → MeansPart partials name q → MeansPart partials name s → ⊥
  differ name q s lt first second =
      let one = some_of (slice_get partials q) (λ p. SameName name p.name) first in
      let other = some_of (slice_get partials s) (λ p. SameName name p.name) second in
      false≢true (sym (apart_at [] partials q s one.0 other.0 apart lt (omega arith) one.1 other.1) ∙ (bytes_eq-Decides _ _).1 (sym one.2 ∙ other.2))

  pub means_one : (name : List ℕ) (q s : ℕ) → MeansPart partials name q → MeansPart partials name s → q ≡ s
  means_one name q s first second = elim (cases_eq q s) [
    | inl same ↦ same
    | inr other ↦ elim (cases_lt q s) [
      | inl before ↦ absurd (differ name q s before first second)
      | inr after ↦ absurd (differ name s q (omega arith) second first)
    ]
  ]

-- ---- names that are known

known_part : (partials : List Partial) (name : List ℕ) → is_known partials name ≡ true → IsPartName partials name
known_part partials name e =
    let any = Any-from_list_any (λ (q : Partial). same_name q.name name) partials e in
    (any.0, any.1, any.2, any.3, sym ((bytes_eq-Decides (fold_case any.1.name) (fold_case name)).0 any.4))

all_of : {A : Type 0} (P Q : A → Type 0) → ((x : A) → P x → Q x) → (xs : List A) → AllByRecursion P xs → All Q xs
all_of P Q f [] all k d lt = absurd (omega arith)
all_of P Q f (x ∷ xs) all zero d lt = f x all.0
all_of P Q f (x ∷ xs) all (suc k) d lt = all_of P Q f xs all.1 k d (omega arith)

pub all_known : (partials : List Partial) → AllByRecursion (λ (p : Partial). AllByRecursion (λ name. is_known partials name ≡ true) p.depends) partials
    → All (λ (p : Partial). All (IsPartName partials) p.depends) partials
all_known partials all =
    all_of (λ (p : Partial). AllByRecursion (λ name. is_known partials name ≡ true) p.depends) (λ (p : Partial). All (IsPartName partials) p.depends)
    (λ p each. all_of (λ name. is_known partials name ≡ true) (IsPartName partials) (known_part partials) p.depends each) partials all

-- ---- orders and cycles

module _ (meta : Meta) (depends : List (Vec ℕ)) (resolved : AreResolvedParts meta.partials meta.partials depends) where
  pub resolved_count : length depends ≡ length meta.partials
  resolved_count = AllZip-long (λ (p : Partial) (places : Vec ℕ). AllZip (MeansPart meta.partials) p.depends places.items) meta.partials depends resolved

  lists_are_names : Within (Lists depends) (NamesPart meta)
  lists_are_names r k q listed = go (slice_get depends r) (AllZip-right (λ (p : Partial) (places : Vec ℕ). AllZip (MeansPart meta.partials) p.depends places.items) meta.partials depends resolved r) listed
    where
      go : (o : Option (Vec ℕ)) → MatchOption o (Unit {0}) (λ places. IsSomeAnd (slice_get meta.partials r) (λ p. AllZip (MeansPart meta.partials) p.depends places.items))
          → slice_get (option_map_or (λ places. places.items) o []) k ≡ Some q → NamesPart meta r k q
      go None all at = absurd (none-some q at)
      go (Some places) all at =
          let here = some_of (slice_get meta.partials r) (λ p. AllZip (MeansPart meta.partials) p.depends places.items) all in
          some_is (slice_get meta.partials r) (λ p. IsSomeAnd (slice_get p.depends k) (λ name. MeansPart meta.partials name q)) here.0 here.1
          (MatchOption-at_some (Unit {0}) (λ place. IsSomeAnd (slice_get here.0.depends k) (λ name. MeansPart meta.partials name place)) q at (AllZip-right (MeansPart meta.partials) here.0.depends places.items here.2 k))

  names_are_lists : AreApart [] meta.partials → Within (NamesPart meta) (Lists depends)
  names_are_lists apart r k q named =
      let part = some_of (slice_get meta.partials r) (λ p. IsSomeAnd (slice_get p.depends k) (λ name. MeansPart meta.partials name q)) named in
      let name = some_of (slice_get part.0.depends k) (λ name. MeansPart meta.partials name q) part.2 in
      let places = some_of (slice_get depends r) (λ places. AllZip (MeansPart meta.partials) part.0.depends places.items)
      (MatchOption-at_some (Unit {0}) (λ (w : Partial). IsSomeAnd (slice_get depends r) (λ places. AllZip (MeansPart meta.partials) w.depends places.items)) part.0 part.1 (AllZip-left (λ (w : Partial) (ps : Vec ℕ). AllZip (MeansPart meta.partials) w.depends ps.items) meta.partials depends resolved r)) in
      let place = some_of (slice_get places.0.items k) (MeansPart meta.partials name.0)
      (MatchOption-at_some (Unit {0}) (λ w. IsSomeAnd (slice_get places.0.items k) (MeansPart meta.partials w)) name.0 name.1 (AllZip-left (MeansPart meta.partials) part.0.depends places.0.items places.2 k)) in
      let same : place.0 ≡ q = means_one meta.partials apart name.0 place.0 q place.2 name.2 in
      listed_at depends r places.0 k q places.1 (rw same at place.1)

  pub resolved_below : AreBelow (length depends) depends
  resolved_below r places lt k q within =
      let numbers = get_or depends r places in
      let listed : Lists depends r k (get_or numbers.items k q) =
      listed_at depends r numbers k (get_or numbers.items k q) (slice_get-get_or depends r places lt) (slice_get-get_or numbers.items k q within) in
      let part = some_of (slice_get meta.partials r) (λ p. IsSomeAnd (slice_get p.depends k) (λ name. MeansPart meta.partials name (get_or numbers.items k q))) (lists_are_names r k (get_or numbers.items k q) listed) in
      let name = some_of (slice_get part.0.depends k) (λ name. MeansPart meta.partials name (get_or numbers.items k q)) part.2 in
      let there = some_of (slice_get meta.partials (get_or numbers.items k q)) (λ other. SameName name.0 other.name) name.2 in
      omega (arith, resolved_count, slice_get_within meta.partials (get_or numbers.items k q) there.0 there.1)

  -- the orders and cycles of the numbers are those of the partial configurations
  module _ (apart : AreApart [] meta.partials) where
    pub order_resolved : (order : List ℕ) → IsOrderOfNumbers depends order → IsOrderOfParts meta order
    order_resolved order is = order_over (length meta.partials) (Lists depends) (NamesPart meta) lists_are_names (names_are_lists apart) order
        (subst (λ (count : ℕ). IsOrder count (DependsOn (Lists depends)) order) resolved_count is)

    pub order_of_names : (order : List ℕ) → IsOrderOfParts meta order → IsOrderOfNumbers depends order
    order_of_names order is = subst (λ (count : ℕ). IsOrder count (DependsOn (Lists depends)) order) (sym resolved_count)
        (order_over (length meta.partials) (NamesPart meta) (Lists depends) (names_are_lists apart) lists_are_names order is)

    pub cycle_resolved : (cycle : List ℕ) → IsCycleOfNumbers depends cycle → IsCycleOfParts meta cycle
    cycle_resolved cycle is = cycle_over (length meta.partials) (Lists depends) (NamesPart meta) lists_are_names (names_are_lists apart) cycle
        (subst (λ (count : ℕ). IsCycle count (Lists depends) cycle) resolved_count is)
