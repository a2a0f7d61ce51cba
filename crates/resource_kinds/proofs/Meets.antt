-- Resources meet where their keys say so.
use Rattle.std.proofs.Common.{◌≡◌, ◌⊎◌, ◌+◌, ◌<◌, ◌≤◌, ℕ, zero, suc, List, [], ◌∷◌, ◌++◌, true, false, IsTrue, Option, Some, None, inl, inr, map, length, take, get_or, slice_get, option_and_then, is_some, refl, sym, ap, subst, ◌∙◌, ⊎_elim, arith, length-append, drop, append_assoc, drop-cons}
use Rattle.std.specs.Result.{result_ok}
use Rattle.std.specs.Str.{bytes_eq}
use Rattle.std.proofs.lemmas.Bool.{cases_Bool, cases_eq, cases_lt, both_ways}
use Rattle.std.proofs.lemmas.List.{drop_all, get_or_default, get_or_past}
use Rattle.std.proofs.lemmas.Slice.Eq.{bytes_eq-Decides}
use Rattle.std.proofs.Math.Seq.{take-append_seam, get_or-append_seam}
use Rattle.dsc_outside.specs.Paths.{IsBelow}
use Rattle.dsc_document.specs.declared.document.Document.{Document}
use Rattle.dsc_document.specs.declared.document.Resource.{Resource}
use Rattle.resource_kinds.specs.declared.keys.Keys.{Keys}
use Rattle.resource_kinds.specs.declared.wanted.Wanted.{Wanted}
use Rattle.resource_kinds.specs.declared.wanted.Wanted.TheVariants as wants
use Rattle.resource_kinds.specs.Apart.{Apart, IsAround, Meet, Overlap, Target, Path, Variable, LogEntry, closed_path, matter_of, target_of, wanted_at}
use Rattle.resource_kinds.specs.OverlapSteps.{HasBelow, HasBelowIfAny, HasInside, entry_key, key_if_any, target_key}
use Rattle.resource_kinds.specs.Keys.{Puts, PutsIfAny, kept_place}
use Rattle.resource_kinds.specs.Wanted.{wanted_of}

-- the path of the second is below that of the first
abbrev Encloses : Wanted → Wanted → Type 0
Encloses outer inner = IsAround (matter_of outer) (matter_of inner)

-- ---- keys

entry_key_same : (id other message text : List ℕ) → entry_key id message ≡ entry_key other text → (id ≡ other) × (message ≡ text)
entry_key_same [] [] message text e = let rest : message ≡ text = cc in (refl, rest)
entry_key_same [] (b ∷ bs) message text e = absurd (omega (arith, ap (λ k. get_or k 0 9) e))
entry_key_same (a ∷ front) [] message text e = absurd (omega (arith, ap (λ k. get_or k 0 9) e))
entry_key_same (a ∷ front) (b ∷ bs) message text e =
    let h : a ≡ b = cc in
    let rest : entry_key front message ≡ entry_key bs text = cc in
    let same = entry_key_same front bs message text rest in
    (λ i. h i ∷ same.0 i, same.1)

key_same : (a b : Target) → target_key a ≡ target_key b → a ≡ b
key_same (Path a) (Path b) e = let same : a ≡ b = cc in ap Path same
key_same (Path a) (Variable b) e = absurd (omega (arith, ap (λ k. get_or k 0 9) e))
key_same (Path a) (LogEntry i m) e = absurd (omega (arith, ap (λ k. get_or k 0 9) e))
key_same (Variable a) (Variable b) e = let same : a ≡ b = cc in ap Variable same
key_same (Variable a) (Path b) e = absurd (omega (arith, ap (λ k. get_or k 0 9) e))
key_same (Variable a) (LogEntry i m) e = absurd (omega (arith, ap (λ k. get_or k 0 9) e))
key_same (LogEntry id message) (LogEntry other text) e =
    let rest : entry_key id message ≡ entry_key other text = cc in
    let same = entry_key_same id other message text rest in
    ap (λ x. LogEntry x message) same.0 ∙ ap (LogEntry other) same.1
key_same (LogEntry i m) (Path b) e = absurd (omega (arith, ap (λ k. get_or k 0 9) e))
key_same (LogEntry i m) (Variable b) e = absurd (omega (arith, ap (λ k. get_or k 0 9) e))

cases_same : (a b : List ℕ) → (a ≡ b) ⊎ (a ≡ b → ⊥)
cases_same a b =
    elim (cases_Bool (bytes_eq a b)) [
      | inl e ↦ inl ((bytes_eq-Decides a b).0 e)
      | inr e ↦ inr (λ same. both_ways _ e ((bytes_eq-Decides a b).1 same))
    ]

-- ---- paths below

closed_target : (wanted : Wanted) → is_some (closed_path wanted) ≡ true → (path : List ℕ) × (closed_path wanted ≡ Some path) × (target_of wanted ≡ Path path)
closed_target (wants.File path contents) e = (path, refl, refl)
closed_target (wants.Folder path) e = absurd (cc (e))
closed_target (wants.NoFile path) e = (path, refl, refl)
closed_target (wants.NoFolder path forced) e = (path, refl, refl)
closed_target (wants.Variable name value) e = absurd (cc (e))
closed_target (wants.Entries name value) e = absurd (cc (e))
closed_target (wants.NoVariable name) e = absurd (cc (e))
closed_target (wants.NoEntries name value) e = absurd (cc (e))
closed_target (wants.Logged id message) e = absurd (cc (e))

-- where a path below has a place, there is a path at which no folder is asked for
inside_of : (keys : Keys) (outer : Wanted) (closed : Option (List ℕ)) → closed_path outer ≡ closed → HasBelowIfAny keys closed
    → (path : List ℕ) × (closed_path outer ≡ Some path) × HasBelow keys path
inside_of keys outer None e is = absurd is
inside_of keys outer (Some path) e is = (path, e, is)

-- the key of a path below another
key_below : (path rest : List ℕ) → ((0 ∷ path) ++ 47 ∷ []) ++ rest ≡ target_key (Path (path ++ 47 ∷ rest))
key_below path rest = append_assoc (0 ∷ path) (47 ∷ []) rest

not_in_itself : (wanted : Wanted) → Encloses wanted wanted → ⊥
not_in_itself wanted is = absurd (inside (closed_target wanted (ap is_some is.2))) where
  inside : (path : List ℕ) × (closed_path wanted ≡ Some path) × (target_of wanted ≡ Path path) → ⊥
  inside target =
      let same : is.0 ≡ target.0 = cc (is.2, target.1) in
      let one : is.1 ≡ target.0 = cc (is.3, target.2) in
      omega (arith, ap length (sym one ∙ is.4.1), ap length same, length-append is.0 (47 ∷ is.4.0))

-- ---- the keys of a list

-- the keys are those of what is asked for before n, no two of which are the same
pub record Indexed (all : List (Option Wanted)) (n : ℕ) (keys : Keys) : Type 0 where
  pub known : (k : ℕ) (wanted : Wanted) → k < n → get_or all k None ≡ Some wanted → kept_place keys (target_key (target_of wanted)) ≡ Some k
  pub only : (key : List ℕ) (k : ℕ) → kept_place keys key ≡ Some k → (k < n) × ((wanted : Wanted) × (get_or all k None ≡ Some wanted) × (target_key (target_of wanted) ≡ key))

pub indexed_none : (all : List (Option Wanted)) (keys : Keys) → ((key : List ℕ) → kept_place keys key ≡ None) → Indexed all 0 keys
indexed_none all keys empty = record {
  known = λ k wanted below is. absurd (omega (arith, below));
  only = λ key k found. absurd (cc (empty key, found));
}

module _ (all : List (Option Wanted)) (n : ℕ) (old : Keys) (so_far : Indexed all n old) where
  skip : get_or all n None ≡ None → Indexed all (n + 1) old
  skip nothing = record {
    known = λ k wanted below is.
        ⊎_elim (λ e. absurd (cc (ap (λ x. get_or all x None) e, nothing, is))) (λ ne. so_far.known k wanted (omega (arith, below, ne)) is) (cases_eq k n);
    only = λ key k found. let earlier : k < n = (so_far.only key k found).0 in (omega (arith, earlier), (so_far.only key k found).1);
  }

  put : (new : Keys) (wanted : Wanted) → get_or all n None ≡ Some wanted → kept_place old (target_key (target_of wanted)) ≡ None → Puts old new (target_key (target_of wanted)) n → Indexed all (n + 1) new
  put new wanted is free puts = record {
    known = λ k other below at_k.
        ⊎_elim
        (λ e. let same : wanted ≡ other = cc (ap (λ x. get_or all x None) e, is, at_k) in
        ap (λ w. kept_place new (target_key (target_of w))) (sym same) ∙ puts.here ∙ ap (λ m. Some m) (sym e))
        (λ ne. let before = so_far.known k other (omega (arith, below, ne)) at_k in
        puts.kept (target_key (target_of other)) (λ same. absurd (cc (ap (kept_place old) same, free, before))) ∙ before)
        (cases_eq k n);
    only = λ key k found.
        ⊎_elim
        (λ same. let e : k ≡ n = cc (ap (kept_place new) same, puts.here, found) in (omega (arith, e), (wanted, ap (λ x. get_or all x None) e ∙ is, same)))
        (λ differs. let before = so_far.only key k (sym (puts.kept key differs) ∙ found) in
        let earlier : k < n = before.0 in (omega (arith, earlier), before.1))
        (cases_same (target_key (target_of wanted)) key);
  }

  pub indexed_put : (new : Keys) (given : Option Wanted) → get_or all n None ≡ given → option_and_then (kept_place old) (key_if_any given) ≡ None → PutsIfAny old new (key_if_any given) n → Indexed all (n + 1) new
  indexed_put new None is free puts = subst (Indexed all (n + 1)) (sym puts) (skip is)
  indexed_put new (Some wanted) is free puts = put new wanted is free puts

-- ---- documents

module _ (f : Resource → Option Wanted) where
  at_place : (xs : List Resource) (k : ℕ) → option_and_then f (slice_get xs k) ≡ get_or (map f xs) k None
  at_place [] k = refl
  at_place (x ∷ xs) zero = refl
  at_place (x ∷ xs) (suc k) = at_place xs k

module _ (document : Document) (all : List (Option Wanted)) (is_all : all ≡ map (λ r. result_ok (wanted_of r)) document.resources) where
  asked_at : (k : ℕ) → wanted_at document k ≡ get_or all k None
  asked_at k = at_place (λ r. result_ok (wanted_of r)) document.resources k ∙ ap (λ xs. get_or xs k None) (sym is_all)

  two_meet : (first second : ℕ) (a b : Wanted) → first < second → get_or all first None ≡ Some a → get_or all second None ≡ Some b → Meet a b → Overlap document
  two_meet first second a b before at_first at_second meet = (
    second,
    record {
      first = first;
      before = before;
      a = a;
      b = b;
      asks_first = asked_at first ∙ at_first;
      asks_second = asked_at second ∙ at_second;
      meet = meet;
    },
  )

  -- what has a place already is met
  pub met : (n : ℕ) (keys : Keys) → Indexed all n keys → (given : Option Wanted) → get_or all n None ≡ given → (had : Option ℕ) → option_and_then (kept_place keys) (key_if_any given) ≡ had → is_some had ≡ true → Overlap document
  met n keys so_far None is had e some = absurd (cc (e, some))
  met n keys so_far (Some b) is None e some = absurd (cc (some))
  met n keys so_far (Some b) is (Some p) e some =
      let before = so_far.only (target_key (target_of b)) p e in
      two_meet p n before.1.0 b before.0 before.1.1 is (inl (key_same (target_of before.1.0) (target_of b) before.1.2))

  -- what has another inside it meets that one
  pub inside_meets : (n : ℕ) (keys : Keys) → Indexed all n keys → (k : ℕ) (given : Option Wanted) → get_or all k None ≡ given → HasInside keys given → Overlap document
  inside_meets n keys whole k None at_k is = absurd is
  inside_meets n keys whole k (Some outer) at_k is =
      let (path, shut, below) = inside_of keys outer (closed_path outer) refl is in
      let found = whole.only (((0 ∷ path) ++ 47 ∷ []) ++ below.0) below.1 below.2 in
      let (inner, at_inner, keyed) = found.1 in
      let encloses : Encloses outer inner = (path, path ++ 47 ∷ below.0, shut, key_same (target_of inner) (Path (path ++ 47 ∷ below.0)) (keyed ∙ key_below path below.0), (below.0, refl)) in
      ⊎_elim
      (λ earlier. two_meet below.1 k inner outer earlier at_inner at_k (inr (inr encloses)))
      (λ not_earlier. ⊎_elim
      (λ later. two_meet k below.1 outer inner later at_k at_inner (inr (inl encloses)))
      (λ not_later.
      let here : below.1 ≡ k = omega (arith, not_earlier, not_later) in
      let same : inner ≡ outer = cc (ap (λ x. get_or all x None) here, at_inner, at_k) in
      absurd (not_in_itself outer (subst (λ w. Encloses outer w) same encloses)))
      (cases_lt k below.1))
      (cases_lt below.1 k)

  within : (k : ℕ) (wanted : Wanted) → get_or all k None ≡ Some wanted → k < length all
  within k wanted is = ⊎_elim (λ below. below) (λ past. absurd (cc (get_or_past all k None past, is))) (cases_lt k (length all))

  module _ (keys : Keys) (far : ℕ) (reached : length all ≤ far) (whole : Indexed all far keys)
      (none : (k : ℕ) → k < far → HasInside keys (get_or all k None) → ⊥) where
    differ : (first second : ℕ) (a b : Wanted) → first < second → get_or all first None ≡ Some a → get_or all second None ≡ Some b → target_of a ≡ target_of b → ⊥
    differ first second a b before at_first at_second same =
        let at_once : first ≡ second = cc (whole.known first a (omega (arith, within first a at_first, reached)) at_first, whole.known second b (omega (arith, within second b at_second, reached)) at_second, ap (λ t. kept_place keys (target_key t)) same) in
        omega (arith, at_once, before)

    outside : (outer inner : ℕ) (a b : Wanted) → get_or all outer None ≡ Some a → get_or all inner None ≡ Some b → Encloses a b → ⊥
    outside outer inner a b at_outer at_inner (path, below, shut, target, (rest, spelled)) =
        let key : ((0 ∷ path) ++ 47 ∷ []) ++ rest ≡ target_key (target_of b) = key_below path rest ∙ ap (λ p. target_key (Path p)) (sym spelled) ∙ ap target_key (sym target) in
        let found = ap (kept_place keys) key ∙ whole.known inner b (omega (arith, within inner b at_inner, reached)) at_inner in
        let has : HasInside keys (Some a) = subst (HasBelowIfAny keys) (sym shut) (rest, inner, found) in
        none outer (omega (arith, within outer a at_outer, reached)) (subst (HasInside keys) (sym at_outer) has)

    pub all_apart : Apart document
    all_apart first second a b before asks_first asks_second meet =
        let at_first : get_or all first None ≡ Some a = sym (asked_at first) ∙ asks_first in
        let at_second : get_or all second None ≡ Some b = sym (asked_at second) ∙ asks_second in
        ⊎_elim (differ first second a b before at_first at_second)
        (λ inside. ⊎_elim (outside first second a b at_first at_second) (outside second first b a at_second at_first) inside) meet

-- ---- the key of an entry

pub entry_more : (key next id message : List ℕ) (i b : ℕ) → i < length id → get_or id i 0 ≡ b → next ≡ (key ++ 0 ∷ []) ++ b ∷ [] → key ++ entry_key (drop i id) message ≡ next ++ entry_key (drop (i + 1) id) message
entry_more key next id message i b within here is =
    let one : suc i ≡ i + 1 = omega arith in
    let left : drop i id ≡ b ∷ drop (i + 1) id = drop-cons id i 0 within ∙ ap (λ n. get_or id i 0 ∷ drop n id) one ∙ ap (λ c. c ∷ drop (i + 1) id) here in
    let rest = entry_key (drop (i + 1) id) message in
    ap (λ d. key ++ entry_key d message) left ∙ sym (append_assoc key (0 ∷ []) (b ∷ rest)) ∙ sym (append_assoc (key ++ 0 ∷ []) (b ∷ []) rest) ∙ ap (λ k. k ++ rest) (sym is)

pub entry_done : (key whole id bytes message text : List ℕ) (i : ℕ) → length bytes ≤ i → bytes ≡ id → text ≡ message → whole ≡ (key ++ 1 ∷ []) ++ text → 2 ∷ entry_key bytes message ≡ key ++ entry_key (drop i bytes) message
    → whole ≡ 2 ∷ entry_key id message
entry_done key whole id bytes message text i all same_id same_message is so_far =
    is ∙ ap (λ m. (key ++ 1 ∷ []) ++ m) same_message ∙ append_assoc key (1 ∷ []) message ∙ ap (λ d. key ++ entry_key d message) (sym (drop_all i bytes all)) ∙ sym so_far
    ∙ ap (λ x. 2 ∷ entry_key x message) same_id

-- ---- the loops

-- an element is the same whatever stands past the end
pub at_index : (all : List (Option Wanted)) (k far : ℕ) (given : Option Wanted) → k < far → far ≡ length all → given ≡ get_or all k given → get_or all k None ≡ given
at_index all k far given below is here = get_or_default all k None given (omega (arith, below, is)) ∙ sym here

pub none_had : (had : Option ℕ) → is_some had ≡ false → had ≡ None
none_had None e = refl
none_had (Some k) e = absurd (cc (e))
