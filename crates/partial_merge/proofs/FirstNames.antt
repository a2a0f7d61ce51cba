-- The names of a list, put at their places one after another.
use Rattle.std.proofs.Common.{◌≡◌, ◌<◌, ◌≤◌, ◌+◌, ℕ, List, length, AllPairs, Option, Some, None, option_map, slice_get, get_or, sym, ap, ◌∙◌, arith}
use Rattle.std.proofs.lemmas.Option.{slice_get-get_or, slice_get_past}
use Rattle.mof_values.specs.Fold.{SameName}
use Rattle.dsc_document.specs.Places.{place_of, Puts}
use Rattle.dsc_document.specs.declared.places.Places.{Places}
use Rattle.dsc_document.proofs.Indexes.{Indexes, Indexes-put}
use Rattle.dsc_document.proofs.Placed.{ShareName-first, ShareName-never, ShareName-placed}
use Rattle.depend_order.specs.Repeats.{IsFirstRepeat}
use Rattle.depend_order.proofs.Repeated.{names_apart}

module _ {A : Type 0} (items : List A) (name_of : A → List ℕ) where
  abbrev name_at : ℕ → Option (List ℕ)
  name_at place = option_map name_of (slice_get items place)

  name_here : (n : ℕ) (item : A) → n < length items → item ≡ get_or items n item → name_at n ≡ Some (name_of item)
  name_here n item within is = ap (option_map name_of) (slice_get-get_or items n item within) ∙ ap (λ x. Some (name_of x)) (sym is)

  no_more : (n : ℕ) → length items ≤ n → (k : ℕ) → n ≤ k → name_at k ≡ None
  no_more n all k after = ap (option_map name_of) (slice_get_past items k (omega (arith, all, after)))

  module _ (n : ℕ) (places : Places) (so_far : Indexes name_at n places) where
    module _ (item : A) (within : n < length items) (is : item ≡ get_or items n item) where
      pub first_repeat : (p : ℕ) → place_of places (name_of item) ≡ Some p → IsFirstRepeat name_at p n
      first_repeat p placed = record {
        repeats = ShareName-placed name_at n places so_far (name_of item) p (name_here n item within is) placed;
        earliest = ShareName-first name_at n places so_far (name_of item) p (name_here n item within is) placed;
      }

      pub one_more : (new : Places) → place_of places (name_of item) ≡ None → Puts places new (name_of item) n → Indexes name_at (n + 1) new
      one_more new free puts = Indexes-put name_at n places new (name_of item) so_far (name_here n item within is) free puts

    pub all_apart : length items ≤ n → AllPairs (λ a b. SameName (name_of a) (name_of b) → ⊥) items
    all_apart all = names_apart items name_of (ShareName-never name_at n places so_far (no_more n all))
