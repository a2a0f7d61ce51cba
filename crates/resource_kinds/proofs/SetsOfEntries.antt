-- Sets of entries that take one more.
use Rattle.std.proofs.Common.{◌≡◌, ℕ, Bool, true, false, not, ◌||◌, List, [], ◌∷◌, ◌++◌, refl, sym, ◌∙◌, ap, subst}
use Rattle.std.proofs.lemmas.Bool.{false≢true}
use Rattle.std.proofs.lemmas.List.Folds.{list_any-append}
use Rattle.std.proofs.lemmas.Slice.Eq.{bytes_eq-Decides}
use Rattle.std.specs.Str.{bytes_eq}
use Rattle.resource_kinds.specs.declared.entry_sets.EntrySet.{EntrySet}
use Rattle.resource_kinds.specs.Entries.{is_among}
use Rattle.resource_kinds.specs.EntrySets.{IsSetOf, is_in}

or_last : (a b : Bool) → (a || b) ≡ (b || (a || false))
or_last true true = refl
or_last true false = refl
or_last false true = refl
or_last false false = refl

absorbed : (a b : Bool) → (a ≡ true → b ≡ true) → (a || b) ≡ b
absorbed true b within = sym (within refl)
absorbed false b within = refl

pub not_true : (b : Bool) → not b ≡ true → b ≡ false
not_true true is = absurd (false≢true is)
not_true false is = refl

pub not_false : (b : Bool) → not b ≡ false → b ≡ true
not_false true is = refl
not_false false is = absurd (false≢true (sym is))

module _ (old new : EntrySet) (pieces : List (List ℕ)) (entry : List ℕ) (so_far : IsSetOf old pieces)
    (put : (other : List ℕ) → is_in new other ≡ (bytes_eq other entry || is_in old other)) where
  -- one more entry
  pub takes_more : IsSetOf new (pieces ++ entry ∷ [])
  takes_more other =
      put other ∙ ap (λ (b : Bool). bytes_eq other entry || b) (so_far other) ∙ or_last (bytes_eq other entry) (is_among pieces other)
      ∙ sym (list_any-append (bytes_eq other) pieces (entry ∷ []))

  -- an entry that was there
  pub takes_again : is_among pieces entry ≡ true → IsSetOf new pieces
  takes_again there other =
      put other ∙ ap (λ (b : Bool). bytes_eq other entry || b) (so_far other)
      ∙ absorbed (bytes_eq other entry) (is_among pieces other) (λ same. subst (λ (e : List ℕ). is_among pieces e ≡ true) (sym ((bytes_eq-Decides other entry).0 same)) there)
