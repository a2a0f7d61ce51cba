-- The entries of joined pieces, what a filter keeps, and the tests that the code makes.
use Rattle.std.proofs.Common.{◌≡◌, ◌⊎◌, inl, inr, ◌↔◌, ℕ, zero, suc, ◌<◌, Bool, true, false, not, cond, ◌==◌, ◌||◌, ◌&&◌, IsTrue, List, [], ◌∷◌, ◌++◌, length, flat_map, Option, Some, None, unwrap_or, refl, sym, ◌∙◌, ap, subst, arith, append_assoc, All, Contains}
use Rattle.std.proofs.lemmas.Bool.{cases_Bool, eqb-true, false≢true, not_from_true, not_from_false, false_from_ne_true}
use Rattle.std.proofs.lemmas.Cmp.{nat_list_eq_equiv}
use Rattle.std.proofs.lemmas.List.{append-nil}
use Rattle.std.proofs.lemmas.List.Elements.{All-nil, All-cons, All-head, All-tail, All-filter, Contains-append_right}
use Rattle.std.proofs.lemmas.List.Folds.{list_any-append}
use Rattle.std.proofs.lemmas.List.Splits.{length-slice_split, slice_split-cons_no}
use Rattle.std.proofs.lemmas.List.Sums.{AllPass-from_list_all, list_all-from_AllPass}
use Rattle.std.proofs.lemmas.Map.Views.{list_any-from_Contains, Contains-from_any}
use Rattle.std.proofs.lemmas.Slice.Eq.{bytes_eq-Decides}
use Rattle.std.specs.List.{filter, join_with_byte, list_all, onto_first}
use Rattle.std.specs.Str.{bytes_eq}
use Rattle.resource_kinds.specs.Entries.{entries, entries_of, joined, is_filled, wanted_entries, HasEntries, LacksEntries, is_among, each_once, appended}

-- ---- entries of joined pieces

-- a piece without a `;`
abbrev pub IsPiece : List ℕ → Type 0
IsPiece piece = entries piece ≡ piece ∷ []

entries-some : (value : List ℕ) → 0 < length (entries value)
entries-some value = omega (arith, length-slice_split (λ b. b == 59) value)

onto-append : (x : ℕ) (parts others : List (List ℕ)) → 0 < length parts → onto_first x (parts ++ others) ≡ onto_first x parts ++ others
onto-append x [] others some = absurd (omega arith)
onto-append x (part ∷ parts) others some = refl

cut-append : (x : ℕ) (parts others : List (List ℕ)) (b : Bool) → 0 < length parts
    → cond b ([] ∷ (parts ++ others)) (onto_first x (parts ++ others)) ≡ cond b ([] ∷ parts) (onto_first x parts) ++ others
cut-append x parts others true some = refl
cut-append x parts others false some = onto-append x parts others some

pub entries-append : (front rest : List ℕ) → entries (front ++ 59 ∷ rest) ≡ entries front ++ entries rest
entries-append [] rest = refl
entries-append (b ∷ bs) rest =
    ap (λ (parts : List (List ℕ)). cond (b == 59) ([] ∷ parts) (onto_first b parts)) (entries-append bs rest)
    ∙ cut-append b (entries bs) (entries rest) (b == 59) (entries-some bs)

pieces-onto : (b : ℕ) (parts : List (List ℕ)) (test : Bool) → (b == 59) ≡ test → All IsPiece parts → All IsPiece (cond test ([] ∷ parts) (onto_first b parts))
pieces-onto b parts true e pieces = All-cons IsPiece [] parts refl pieces
pieces-onto b [] false e pieces = All-cons IsPiece (b ∷ []) [] (slice_split-cons_no (λ c. c == 59) b [] e) (All-nil IsPiece)
pieces-onto b (part ∷ parts) false e pieces =
    All-cons IsPiece (b ∷ part) parts
    (slice_split-cons_no (λ c. c == 59) b part e ∙ ap (onto_first b) (All-head IsPiece part parts pieces)) (All-tail IsPiece part parts pieces)

pub entries-pieces : (value : List ℕ) → All IsPiece (entries value)
entries-pieces [] = All-cons IsPiece [] [] refl (All-nil IsPiece)
entries-pieces (b ∷ bs) = pieces-onto b (entries bs) (b == 59) refl (entries-pieces bs)

pub entries-joined : (piece : List ℕ) (pieces : List (List ℕ)) → All IsPiece (piece ∷ pieces) → entries (joined (piece ∷ pieces)) ≡ piece ∷ pieces
entries-joined piece [] all = All-head IsPiece piece [] all
entries-joined piece (next ∷ others) all =
    let first = All-head IsPiece piece (next ∷ others) all in
    let rest = entries-joined next others (All-tail IsPiece piece (next ∷ others) all) in
    entries-append piece (joined (next ∷ others)) ∙ (λ i. first i ++ rest i)

-- what stands after the first of joined pieces has the byte before each
pub join-after : (c : ℕ) (piece : List ℕ) (pieces : List (List ℕ)) → join_with_byte c (piece ∷ pieces) ≡ piece ++ flat_map (λ e. c ∷ e) pieces
join-after c piece [] = sym (append-nil piece)
join-after c piece (next ∷ others) = ap (λ (l : List ℕ). piece ++ c ∷ l) (join-after c next others)

pub appended-after : (value : List ℕ) (more : List (List ℕ)) → (length value == 0) ≡ false → appended value more ≡ value ++ flat_map (λ e. 59 ∷ e) more
appended-after [] more filled = absurd (false≢true (sym filled))
appended-after (b ∷ bs) [] filled = sym (append-nil (b ∷ bs))
appended-after (b ∷ bs) (entry ∷ more) filled = ap (λ (l : List ℕ). (b ∷ bs) ++ 59 ∷ l) (join-after 59 entry more)

-- ---- elements

pub Contains-cons : {A : Type 0} (x : A) (xs : List A) (y : A) → Contains xs y → Contains (x ∷ xs) y
Contains-cons x xs y has = Contains-append_right (x ∷ []) xs y has

pub cons_cases : {A : Type 0} (x : A) (xs : List A) (y : A) → Contains (x ∷ xs) y → (x ≡ y) ⊎ Contains xs y
cons_cases x xs y (zero, lt, same) = inl same
cons_cases x xs y (suc k, lt, same) = inr (k, omega arith, same)

stays : {A : Type 0} (b : Bool) (x : A) (xs : List A) (y : A) → Contains xs y → Contains (cond b (x ∷ xs) xs) y
stays true x xs y has = Contains-cons x xs y has
stays false x xs y has = has

first : {A : Type 0} (b : Bool) (x : A) (xs : List A) (y : A) → b ≡ true → x ≡ y → Contains (cond b (x ∷ xs) xs) y
first true x xs y passes same = (0, omega arith, same)
first false x xs y passes same = absurd (false≢true passes)

pub Contains-filter : {A : Type 0} (p : A → Bool) (xs : List A) (y : A) → Contains xs y → p y ≡ true → Contains (filter p xs) y
Contains-filter p [] y has passes = absurd (omega (arith, has.1))
Contains-filter p (x ∷ xs) y has passes = elim (cons_cases x xs y has) [
  | inl same ↦ first (p x) x (filter p xs) y (ap p same ∙ passes) same
  | inr there ↦ stays (p x) x (filter p xs) y (Contains-filter p xs y there passes)
]

filter-cond : {A : Type 0} (p : A → Bool) (x : A) (b : Bool) (xs : List A) → filter p (cond b (x ∷ xs) xs) ≡ cond (b && p x) (x ∷ filter p xs) (filter p xs)
filter-cond p x true xs = refl
filter-cond p x false xs = refl

-- one filter after another
pub filter-both : {A : Type 0} (p q r : A → Bool) → ((x : A) → (q x && p x) ≡ r x) → (xs : List A) → filter p (filter q xs) ≡ filter r xs
filter-both p q r same [] = refl
filter-both p q r same (x ∷ xs) =
    let rest = filter-both p q r same xs in
    filter-cond p x (q x) (filter q xs) ∙ (λ i. cond (same x i) (x ∷ rest i) (rest i))

pub filter-none : {A : Type 0} (p : A → Bool) (xs : List A) → All (λ x. p x ≡ false) xs → filter p xs ≡ []
filter-none p [] none = refl
filter-none p (x ∷ xs) none =
    let fails = All-head (λ y. p y ≡ false) x xs none in
    let rest = filter-none p xs (All-tail (λ y. p y ≡ false) x xs none) in
    λ i. cond (fails i) (x ∷ rest i) (rest i)

pub among-Contains : (pieces : List (List ℕ)) (entry : List ℕ) → is_among pieces entry ≡ true → Contains pieces entry
among-Contains pieces entry = Contains-from_any (λ x y e. (bytes_eq-Decides x y).0 e) entry pieces

pub Contains-among : (pieces : List (List ℕ)) (entry : List ℕ) → Contains pieces entry → is_among pieces entry ≡ true
Contains-among pieces entry = list_any-from_Contains nat_list_eq_equiv entry pieces

-- ---- each once

pub Contains-each_once : (xs : List (List ℕ)) (y : List ℕ) → Contains xs y → Contains (each_once xs) y
Contains-each_once [] y has = has
Contains-each_once (x ∷ xs) y has = elim (cons_cases x xs y has) [
  | inl same ↦ (0, omega arith, same)
  | inr there ↦ elim (cases_Bool (bytes_eq x y)) [
    | inl same ↦ (0, omega arith, (bytes_eq-Decides x y).0 same)
    | inr other ↦ Contains-cons x _ y (Contains-filter (λ z. not (bytes_eq x z)) (each_once xs) y (Contains-each_once xs y there) (not_from_false _ other))
  ]
]

pub All-each_once : (P : List ℕ → Type 0) (xs : List (List ℕ)) → All P xs → All P (each_once xs)
All-each_once P [] all = all
All-each_once P (x ∷ xs) all =
    All-cons P x _ (All-head P x xs all) (All-filter (λ z. not (bytes_eq x z)) P (each_once xs) (All-each_once P xs (All-tail P x xs all)))

-- those of the rest that did not come yet
abbrev pub to_come : List (List ℕ) → List (List ℕ) → List (List ℕ)
to_come once rest = filter (λ z. not (is_among once z)) (each_once rest)

both_not : (a b c : Bool) → a ≡ c → (not a && not b) ≡ not (b || (c || false))
both_not true true c e = refl
both_not true false c e = ap (λ d. not (d || false)) e
both_not false true c e = refl
both_not false false c e = ap (λ d. not (d || false)) e

not_twice : (a b : Bool) → (a ≡ true → b ≡ true) → (not a && not b) ≡ not b
not_twice true b within = ap not (sym (within refl))
not_twice false b within = refl

same_back : (x y : List ℕ) → bytes_eq x y ≡ bytes_eq y x
same_back x y = nat_list_eq_equiv.symm x y

pub to_come-there : (once : List (List ℕ)) (y : List ℕ) (rest : List (List ℕ)) → is_among once y ≡ true → to_come once (y ∷ rest) ≡ to_come once rest
to_come-there once y rest there =
    let q = λ (z : List ℕ). not (bytes_eq y z) in
    let p = λ (z : List ℕ). not (is_among once z) in
    (λ i. cond (not (there i)) (y ∷ filter p (filter q (each_once rest))) (filter p (filter q (each_once rest))))
    ∙ filter-both p q p (λ z. not_twice (bytes_eq y z) (is_among once z) (λ same. subst (λ (t : List ℕ). is_among once t ≡ true) ((bytes_eq-Decides y z).0 same) there)) (each_once rest)

pub to_come-new : (once : List (List ℕ)) (y : List ℕ) (rest : List (List ℕ)) → is_among once y ≡ false → once ++ to_come once (y ∷ rest) ≡ (once ++ y ∷ []) ++ to_come (once ++ y ∷ []) rest
to_come-new once y rest other =
    let q = λ (z : List ℕ). not (bytes_eq y z) in
    let p = λ (z : List ℕ). not (is_among once z) in
    let r = λ (z : List ℕ). not (is_among (once ++ y ∷ []) z) in
    (λ i. once ++ cond (not (other i)) (y ∷ filter p (filter q (each_once rest))) (filter p (filter q (each_once rest))))
    ∙ ap (λ (l : List (List ℕ)). once ++ y ∷ l)
    (filter-both p q r (λ z. both_not (bytes_eq y z) (is_among once z) (bytes_eq z y) (same_back y z) ∙ ap not (sym (list_any-append (bytes_eq z) once (y ∷ [])))) (each_once rest))
    ∙ sym (append_assoc once (y ∷ []) (to_come (once ++ y ∷ []) rest))

pub to_come-all : (xs : List (List ℕ)) → to_come [] xs ≡ each_once xs
to_come-all xs = filter-all (each_once xs)
  where
    filter-all : (ys : List (List ℕ)) → filter (λ z. not (is_among [] z)) ys ≡ ys
    filter-all [] = refl
    filter-all (y ∷ ys) = ap (λ (l : List (List ℕ)). y ∷ l) (filter-all ys)

-- ---- what the code tests

not_empty : (n : ℕ) → (suc n == 0) ≡ false
not_empty n = false_from_ne_true (suc n == 0) (λ e. absurd (omega (arith, eqb-true (suc n) 0 e)))

-- the code asks for what is empty or passes, where the definition asks it of what is filled
pub filled_all : (f : List ℕ → Bool) (xs : List (List ℕ)) → list_all (λ e. (length e == 0) || f e) xs ≡ list_all f (filter is_filled xs)
filled_all f [] = refl
filled_all f ([] ∷ xs) = filled_all f xs
filled_all f ((b ∷ bs) ∷ xs) =
    let rest = filled_all f xs in
    λ i. (not_empty (length bs) i || f (b ∷ bs)) && rest i

pub tells_has : (r : Bool) (old value : List ℕ) → r ≡ list_all (λ e. (length e == 0) || is_among (entries old) e) (entries value)
    → IsTrue r ↔ HasEntries (Some old) value
tells_has r old value is =
    let test = is_among (entries old) in
    let same : r ≡ list_all test (wanted_entries value) = is ∙ filled_all test (entries value) in (
      λ yes. λ k d lt. among-Contains (entries old) _ (AllPass-from_list_all test (wanted_entries value) (sym same ∙ yes) k d lt),
      λ has. same ∙ list_all-from_AllPass test (wanted_entries value) (λ k d lt. Contains-among (entries old) _ (has k d lt)),
    )

pub tells_lacks : (r : Bool) (old value : List ℕ) → r ≡ list_all (λ e. (length e == 0) || not (is_among (entries old) e)) (entries value)
    → IsTrue r ↔ LacksEntries (Some old) value
tells_lacks r old value is =
    let test = λ (e : List ℕ). not (is_among (entries old) e) in
    let same : r ≡ list_all test (wanted_entries value) = is ∙ filled_all test (entries value) in (
      λ yes. λ k d lt has. apart _ (AllPass-from_list_all test (wanted_entries value) (sym same ∙ yes) k d lt) (Contains-among (entries old) _ has),
      λ lacks. same ∙ list_all-from_AllPass test (wanted_entries value) (λ k d lt. not_from_false _ (false_from_ne_true _ (λ there. lacks k d lt (among-Contains (entries old) _ there)))),
    )
  where
    apart : (b : Bool) → not b ≡ true → b ≡ true → ⊥
    apart b passes is = false≢true (sym (not_from_true b is) ∙ passes)

-- the entries that are missing, as the code filters them
pub missing_agrees : (old : Option (List ℕ)) (xs : List (List ℕ))
    → filter (λ e. not (length e == 0) && not (is_among (entries (unwrap_or old [])) e)) xs ≡ filter (λ e. not (is_among (entries_of old) e)) (filter is_filled xs)
missing_agrees old [] = refl
missing_agrees old ([] ∷ xs) = missing_agrees old xs
missing_agrees old ((b ∷ bs) ∷ xs) =
    let rest = missing_agrees old xs in
    let same = same_among old b bs in
    λ i. cond (not (not_empty (length bs) i) && not (same i)) ((b ∷ bs) ∷ rest i) (rest i)
  where
    same_among : (old : Option (List ℕ)) (b : ℕ) (bs : List ℕ) → is_among (entries (unwrap_or old [])) (b ∷ bs) ≡ is_among (entries_of old) (b ∷ bs)
    same_among None b bs = refl
    same_among (Some value) b bs = refl

-- an entry is kept where it is empty or not among those of the value
pub kept_agrees : (xs : List (List ℕ)) (e : List ℕ) → ((length e == 0) || not (is_among xs e)) ≡ not (is_among (filter is_filled xs) e)
kept_agrees xs [] = ap not (sym (none xs))
  where
    none : (ys : List (List ℕ)) → is_among (filter is_filled ys) [] ≡ false
    none [] = refl
    none ([] ∷ ys) = none ys
    none ((b ∷ bs) ∷ ys) = none ys
kept_agrees xs (b ∷ bs) = λ i. not_empty (length bs) i || not (same xs i)
  where
    same : (ys : List (List ℕ)) → is_among ys (b ∷ bs) ≡ is_among (filter is_filled ys) (b ∷ bs)
    same [] = refl
    same ([] ∷ ys) = same ys
    same ((c ∷ cs) ∷ ys) = ap (λ t. bytes_eq (b ∷ bs) (c ∷ cs) || t) (same ys)
