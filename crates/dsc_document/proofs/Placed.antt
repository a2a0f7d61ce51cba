-- Names that are put at their places one after another.
use Rattle.std.proofs.Common.{◌≡◌, ℕ, ◌+◌, ◌<◌, ◌≤◌, List, length, Option, Some, None, IsTrue, is_some, option_and_then, slice_get, get_or, sym, ap, subst, ◌∙◌, ⊎_elim, arith}
use Rattle.std.proofs.lemmas.Bool.{cases_lt}
use Rattle.std.proofs.lemmas.Option.{slice_get-get_or, slice_get_past}
use Rattle.mof_values.specs.declared.instance.Instance.{Instance}
use Rattle.dsc_document.specs.Names.{ShareName, IsName}
use Rattle.dsc_document.specs.Places.{place_of, PutsIfAny, HoldsNames}
use Rattle.dsc_document.specs.Rules.{StandsBefore}
use Rattle.dsc_document.specs.declared.places.Places.{Places}
use Rattle.dsc_document.proofs.Indexes.{Indexes, Indexes-apart, Indexes-put, Indexes-skip, Indexes-met, place_of-same}

-- the names of instances
module _ (instances : List Instance) (name_of : Instance → Option (List ℕ)) where
  pub at_item : (n : ℕ) (item : Instance) → n < length instances → item ≡ get_or instances n item → option_and_then name_of (slice_get instances n) ≡ name_of item
  at_item n item within is = ap (option_and_then name_of) (slice_get-get_or instances n item within) ∙ ap name_of (sym is)

  pub at_past : (n : ℕ) → length instances ≤ n → (k : ℕ) → n ≤ k → option_and_then name_of (slice_get instances k) ≡ None
  at_past n all k after = ap (option_and_then name_of) (slice_get_past instances k (omega arith))

module _ (names : ℕ → Option (List ℕ)) (n : ℕ) (places : Places) (so_far : Indexes names n places) where
  module _ (name : List ℕ) (p : ℕ) (is : names n ≡ Some name) (placed : place_of places name ≡ Some p) where
    pub ShareName-placed : ShareName names p n
    ShareName-placed =
        let before = so_far.only name p placed in
        (before.0, before.1.0, name, before.1.1, is, before.1.2)

    pub ShareName-first : (i j : ℕ) → StandsBefore (j, i) (n, p) → ShareName names i j → ⊥
    ShareName-first i j before shared =
        ⊎_elim
        (λ below. Indexes-apart names n places so_far i j shared.1 shared.2 shared.0 below shared.3 shared.4 shared.5)
        (λ same.
        let here : shared.2 ≡ name = cc (ap names same.0, shared.4, is) in
        let below : p < n = (so_far.only name p placed).0 in
        let at_i : place_of places name ≡ Some i =
        ap (place_of places) (sym here) ∙ sym (place_of-same places shared.1 shared.2 shared.5) ∙ so_far.known i shared.1 (omega (arith, same.1)) shared.3 in
        let at_once : i ≡ p = cc (at_i, placed) in
        absurd (omega (arith, same.1)))
        before

  -- the pair at a name that has a place
  pub pair_at : (given : Option (List ℕ)) (p : ℕ) → names n ≡ given → option_and_then (place_of places) given ≡ Some p
      → ShareName names p n × ((i j : ℕ) → StandsBefore (j, i) (n, p) → ShareName names i j → ⊥)
  pair_at None p is placed = absurd (cc (placed))
  pair_at (Some name) p is placed = (ShareName-placed name p is placed, ShareName-first name p is placed)

  module _ (no_more : (k : ℕ) → n ≤ k → names k ≡ None) where
    pub ShareName-never : (i j : ℕ) → ShareName names i j → ⊥
    ShareName-never i j shared =
        ⊎_elim
        (λ below. Indexes-apart names n places so_far i j shared.1 shared.2 shared.0 below shared.3 shared.4 shared.5)
        (λ after. absurd (cc (no_more j after, shared.4)))
        (cases_lt j n)

    has_place : (name : List ℕ) → IsTrue (is_some (place_of places name)) → IsName names name
    has_place name has = let met = Indexes-met names n places name so_far has in (met.0, met.2, met.3, met.4)

    placed : (name : List ℕ) → IsName names name → IsTrue (is_some (place_of places name))
    placed name named =
        ⊎_elim
        (λ below. ap is_some (sym (place_of-same places named.1 name named.3) ∙ so_far.known named.0 named.1 below named.2))
        (λ after. absurd (cc (no_more named.0 after, named.2)))
        (cases_lt named.0 n)

    pub HoldsNames-all : HoldsNames names places
    HoldsNames-all name = (has_place name, placed name)

  pub Indexes-put_any : (new : Places) (given : Option (List ℕ)) → names n ≡ given → option_and_then (place_of places) given ≡ None → PutsIfAny places new given n → Indexes names (n + 1) new
  Indexes-put_any new None is free puts = subst (Indexes names (n + 1)) (sym puts) (Indexes-skip names n places so_far is)
  Indexes-put_any new (Some name) is free puts = Indexes-put names n places new name so_far is free puts
