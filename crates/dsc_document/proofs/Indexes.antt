-- Places that hold a list of names.
use Rattle.std.proofs.Common.{◌≡◌, ◌<◌, ◌+◌, ℕ, List, Option, Some, None, is_some, true, refl, sym, ap, ◌∙◌, ⊎_elim, arith}
use Rattle.std.proofs.lemmas.Bool.{cases_eq}
use Rattle.mof_values.specs.Fold.{fold_case, SameName}
use Rattle.dsc_document.specs.declared.places.Places.{Places}
use Rattle.dsc_document.specs.Places.{place_of, Puts}
use Rattle.dsc_document.proofs.FoldKeys.{cases_same_name, kept_at}

-- the places hold the names before n, no two of which are the same, and no other name
pub record Indexes (names : ℕ → Option (List ℕ)) (n : ℕ) (places : Places) : Type 0 where
  pub known : (k : ℕ) (name : List ℕ) → k < n → names k ≡ Some name → place_of places name ≡ Some k
  pub only : (name : List ℕ) (k : ℕ) → place_of places name ≡ Some k → (k < n) × ((other : List ℕ) × (names k ≡ Some other) × SameName other name)

pub place_of-same : (places : Places) (a b : List ℕ) → SameName a b → place_of places a ≡ place_of places b
unfolding place_of
place_of-same places a b same = ap (kept_at places.by_fold) same

pub Indexes-none : (names : ℕ → Option (List ℕ)) (places : Places) → ((name : List ℕ) → place_of places name ≡ None) → Indexes names 0 places
Indexes-none names places empty = record {
  known = λ k name below is. absurd (omega arith);
  only = λ name k found. absurd (cc (empty name, found));
}

pub Indexes-skip : (names : ℕ → Option (List ℕ)) (n : ℕ) (places : Places) → Indexes names n places → names n ≡ None → Indexes names (n + 1) places
Indexes-skip names n places so_far nameless = record {
  known = λ k name below is.
      ⊎_elim (λ e. absurd (cc (ap names e, nameless, is))) (λ ne. so_far.known k name (omega arith) is) (cases_eq k n);
  only = λ name k found. let earlier : k < n = (so_far.only name k found).0 in (omega arith, (so_far.only name k found).1);
}

pub Indexes-put : (names : ℕ → Option (List ℕ)) (n : ℕ) (old new : Places) (name : List ℕ) → Indexes names n old → names n ≡ Some name → place_of old name ≡ None → Puts old new name n → Indexes names (n + 1) new
Indexes-put names n old new name so_far is free puts = record {
  known = λ k other below at_k.
      ⊎_elim
      (λ e. let same : name ≡ other = cc (ap names e, is, at_k) in puts.here other (ap fold_case same) ∙ ap (λ m. Some m) (sym e))
      (λ ne. let before = so_far.known k other (omega arith) at_k in
      puts.kept other (λ same. absurd (cc (place_of-same old name other same, free, before))) ∙ before)
      (cases_eq k n);
  only = λ other k found.
      ⊎_elim
      (λ same. let e : k ≡ n = cc (puts.here other same, found) in (omega arith, (name, ap names e ∙ is, same)))
      (λ differs. let before = so_far.only other k (sym (puts.kept other differs) ∙ found) in
      let earlier : k < n = before.0 in (omega arith, before.1))
      (cases_same_name name other);
}

pub Indexes-apart : (names : ℕ → Option (List ℕ)) (n : ℕ) (places : Places) → Indexes names n places → (i j : ℕ) (a b : List ℕ) → i < j → j < n → names i ≡ Some a → names j ≡ Some b → SameName a b → ⊥
Indexes-apart names n places so_far i j a b earlier below at_i at_j same =
    let at_once : i ≡ j = cc (so_far.known i a (omega arith) at_i, so_far.known j b below at_j, place_of-same places a b same) in
    absurd (omega arith)

-- a name that has a place stood before
pub Indexes-met : (names : ℕ → Option (List ℕ)) (n : ℕ) (places : Places) (name : List ℕ) → Indexes names n places → is_some (place_of places name) ≡ true → (k : ℕ) × (k < n) × (other : List ℕ) × (names k ≡ Some other) × SameName other name
Indexes-met names n places name so_far has = met (place_of places name) refl has where
  met : (found : Option ℕ) → place_of places name ≡ found → is_some found ≡ true → (k : ℕ) × (k < n) × (other : List ℕ) × (names k ≡ Some other) × SameName other name
  met None is has = absurd (cc has)
  met (Some k) is has = let at_k = so_far.only name k is in (k, at_k.0, at_k.1.0, at_k.1.1, at_k.1.2)
