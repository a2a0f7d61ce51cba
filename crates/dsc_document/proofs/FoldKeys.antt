-- Maps whose keys are the folds of names.
use Rattle.std.proofs.Common.{◌≡◌, ◌⊎◌, ℕ, List, Vec, Option, Some, true, sym, subst, ◌∙◌, inl, inr}
use Rattle.std.specs.BTreeMap.{BTreeMap, Updates, get_by, is_at}
use Rattle.std.specs.Cmp.Lexicographic.{slice_cmp}
use Rattle.std.specs.Map.{lookup, IsKeyTest, AreApart, KeepsOthers}
use Rattle.std.specs.Ordering.{nat_cmp, is_eq, eq_by_cmp}
use Rattle.std.specs.Str.{bytes_eq}
use Rattle.std.proofs.lemmas.Bool.{cases_Bool, both_ways, false_from_ne_true}
use Rattle.std.proofs.lemmas.Cmp.{eq_by_cmp_equiv, nat_list_cmp_total}
use Rattle.std.proofs.lemmas.Map.Text.{is_eq-slice_cmp}
use Rattle.std.proofs.lemmas.Slice.Eq.{bytes_eq-Decides}
use Rattle.mof_values.specs.Fold.{fold_case, SameName}

-- what is kept at a list of characters
abbrev pub kept_at : {Y : Type 0} → BTreeMap (Vec ℕ Y) ℕ → List ℕ → Option ℕ
kept_at map chars = get_by (λ key. slice_cmp nat_cmp chars key.items) map

same_from_order : (xs ys : List ℕ) → is_eq (slice_cmp nat_cmp xs ys) ≡ true → xs ≡ ys
same_from_order xs ys e = (bytes_eq-Decides xs ys).0 (sym (is_eq-slice_cmp xs ys) ∙ e)

pub cases_same_name : (a b : List ℕ) → SameName a b ⊎ (SameName a b → ⊥)
cases_same_name a b =
    elim (cases_Bool (bytes_eq (fold_case a) (fold_case b))) [
      | inl e ↦ inl ((bytes_eq-Decides (fold_case a) (fold_case b)).0 e)
      | inr e ↦ inr (λ same. both_ways _ e ((bytes_eq-Decides (fold_case a) (fold_case b)).1 same))
    ]

module _ {Y : Type 0} (old new : BTreeMap (Vec ℕ Y) ℕ) (key : Vec ℕ Y) (place : ℕ)
    (updates : Updates (λ (a b : Vec ℕ Y). slice_cmp nat_cmp a.items b.items) old new key (Some place)) where
  pub kept_at-put_same : (chars : List ℕ) → key.items ≡ chars → kept_at new chars ≡ Some place
  kept_at-put_same chars e = subst (λ cs. kept_at new cs ≡ Some place) e updates.1

  other_entries : KeepsOthers (eq_by_cmp (λ (a b : Vec ℕ Y). slice_cmp nat_cmp a.items b.items)) (is_at (λ (k : Vec ℕ Y). slice_cmp nat_cmp key.items k.items)) old.entries new.entries
      → (other : Vec ℕ Y → _) → IsKeyTest (eq_by_cmp (λ (a b : Vec ℕ Y). slice_cmp nat_cmp a.items b.items)) other → AreApart (is_at (λ (k : Vec ℕ Y). slice_cmp nat_cmp key.items k.items)) other → lookup other new.entries ≡ lookup other old.entries
  unfolding KeepsOthers
  other_entries h = h

  pub kept_at-put_other : (chars : List ℕ) → (key.items ≡ chars → ⊥) → kept_at new chars ≡ kept_at old chars
  kept_at-put_other chars differs =
      other_entries updates.3 (is_at (λ (k : Vec ℕ Y). slice_cmp nat_cmp chars k.items))
      (λ x y. (eq_by_cmp_equiv nat_list_cmp_total).congr chars x.items y.items)
      (λ k e. false_from_ne_true _ (λ same. differs (same_from_order key.items k.items e ∙ sym (same_from_order chars k.items same))))
