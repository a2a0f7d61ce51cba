-- Which resources are ready, by the marks of those that succeeded.
use Rattle.std.proofs.Common.{◌≡◌, ℕ, suc, ◌<◌, Bool, true, false, List, [], ◌∷◌, ◌&&◌, Option, Some, length, get_or, refl, sym, ◌∙◌, ap, subst, arith, All}
use Rattle.std.specs.Global.{Vec}
use Rattle.std.specs.List.{list_all}
use Rattle.std.specs.Option.{option_map_or}
use Rattle.std.specs.Prelude.{slice_get}
use Rattle.std.proofs.lemmas.Bool.{false≢true}
use Rattle.std.proofs.lemmas.List.{get_or_default}
use Rattle.std.proofs.lemmas.List.Sums.{AllPass-from_list_all}
use Rattle.std.proofs.lemmas.Option.{get_or_from_slice_get, slice_get-get_or, slice_get_within}
use Rattle.dsc_document.specs.declared.document.Document.{Document}
use Rattle.dsc_document.specs.Dependencies.{IsDependency}
use Rattle.depend_order.specs.Documents.{AreDependencies}
use Rattle.depend_order.specs.Numbers.{Lists}
use Rattle.resource_kinds.specs.declared.entry.Entry.{Entry}
use Rattle.resource_kinds.specs.Trace.{has_succeeded}
use Rattle.lcm_core.specs.declared.modes.RunMode.TheVariants.{Repair}
use Rattle.lcm_core.specs.Legal.{IsReady}
use Rattle.lcm_core.specs.Turn.{all_held}

not_all : (p : ℕ → Bool) (xs : List ℕ) → list_all p xs ≡ false → (k : ℕ) × (k < length xs) × (p (get_or xs k 0) ≡ false)
not_all p [] none = absurd (false≢true (sym none))
not_all p (x ∷ xs) none = at (p x) refl (not_all p xs)
  where
    at : (b : Bool) → p x ≡ b → (list_all p xs ≡ false → (k : ℕ) × (k < length xs) × (p (get_or xs k 0) ≡ false)) → (k : ℕ) × (k < length (x ∷ xs)) × (p (get_or (x ∷ xs) k 0) ≡ false)
    at true marked after =
        let rest = after (sym (ap (λ (b : Bool). b && list_all p xs) marked) ∙ none) in
        (suc rest.0, omega (arith, rest.1), rest.2)
    at false unmarked after = (0, omega arith, unmarked)

module _ (document : Document) (depends : List (Vec ℕ)) (are : AreDependencies document depends) (t : List Entry) (held : List Bool)
    (marks : (q : ℕ) → q < length document.resources → get_or held q false ≡ has_succeeded t q)
    (r : ℕ) (places : Vec ℕ) (there : r < length depends) (is : places ≡ get_or depends r places) where
  found : slice_get depends r ≡ Some places
  found = slice_get-get_or depends r places there ∙ ap (λ (v : Vec ℕ). Some v) (sym is)

  below : (k : ℕ) → k < length places.items → get_or places.items k 0 < length document.resources
  below k lt =
      subst (λ (v : Vec ℕ). (j : ℕ) → j < length v.items → get_or v.items j 0 < length document.resources) (sym is)
      (λ j within. omega (arith, are.below r places there j 0 within, are.count)) k lt

  pub places_below : All (λ q. q < length document.resources) places.items
  places_below k d lt = subst (λ (q : ℕ). q < length document.resources) (get_or_default places.items k 0 d lt) (below k lt)

  -- those that it depends on are marked, so it is ready
  pub ready_if : all_held held places.items ≡ true → IsReady document Repair t r
  ready_if all same q (k, named) =
      let listed : slice_get places.items k ≡ Some q = subst (λ (o : Option (Vec ℕ)). slice_get (option_map_or (λ v. v.items) o []) k ≡ Some q) found ((are.listed r k q).1 named) in
      let lt = slice_get_within places.items k q listed in
      let at = get_or_from_slice_get places.items k q 0 listed in
      let marked = AllPass-from_list_all (λ p. get_or held p false) places.items all k 0 lt in
      let is_q : get_or held q false ≡ true = ap (λ (p : ℕ). get_or held p false) (sym at) ∙ marked in
      sym (marks q (subst (λ (p : ℕ). p < length document.resources) at (below k lt))) ∙ is_q

  -- one of those that it depends on is not
  pub held_back_if : all_held held places.items ≡ false → (s : ℕ) × IsDependency document r s × (has_succeeded t s ≡ false)
  held_back_if none =
      let one = not_all (λ p. get_or held p false) places.items none in
      let s = get_or places.items one.0 0 in
      let listed : Lists depends r one.0 s = subst (λ (o : Option (Vec ℕ)). slice_get (option_map_or (λ v. v.items) o []) one.0 ≡ Some s) (sym found) (slice_get-get_or places.items one.0 0 one.1) in
      (s, (one.0, (are.listed r one.0 s).0 listed), sym (marks s (below one.0 one.1)) ∙ one.2)
