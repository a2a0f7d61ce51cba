-- The refusal that was found wins, and where none was found the text spells instances within the limits.
use Rattle.std.proofs.Common.{◌≡◌, ◌≤◌, ℕ, Bool, true, false, cond, List, [], ◌∷◌, ◌++◌, Option, Some, None, length, take, refl, sym, ◌∙◌, ap, subst, arith}
use Rattle.std.specs.Prelude.{IfSome, IfNone, nat_le}
use Rattle.std.specs.List.{AllByRecursion}
use Rattle.std.proofs.lemmas.List.{take_all}
use Rattle.mof_values.specs.declared.instance.Instance.{Instance}
use Rattle.mof_syntax.specs.declared.mof_error.MofError.{MofError}
use Rattle.mof_syntax.specs.declared.mof_error.Form.{Form}
use Rattle.mof_syntax.specs.Grammar.{Wide, WideSpells}
use Rattle.mof_syntax.specs.Limits.{Spells, instances_limit}
use Rattle.mof_syntax.specs.Fronts.{IsFront, IsSyntaxFault, GoesUpTo}
use Rattle.mof_syntax.specs.Refusals.{Wins, refusal_place}
use Rattle.mof_codec.specs.declared.refusing.scalar.Wanted.TheVariants.{ExcessInteger}
use Rattle.mof_codec.specs.Searching.{FirstOf, ScalarStands, IsFirstExcess, HasNoExcess, HasFewParts, IsFirstForm, HasNoForm}
use Rattle.mof_codec.specs.Winning.{end_of, sooner, out_of_profile, number_range, too_many, syntax_fault}
use Rattle.mof_codec.proofs.ExcessSearch.{goes_within}
use Rattle.mof_codec.proofs.Covering.{Covers, covers_sooner, covers_wins, covers_form, covers_part, covers_syntax, EndsAt, goes_to}
use Rattle.mof_codec.proofs.NumberSearch.{covers_number, spells_within}

-- what was looked for, and what was found
pub record Found (text : List ℕ) (fault : Option ℕ) (form : Option (ℕ × Form)) (end : ℕ) (number part : Option ℕ) : Type 0 where
  pub fault_some : IfSome fault (λ at. IsSyntaxFault text at)
  pub fault_none : IfNone fault (Wide text)
  pub form_some : IfSome form (λ f. IfSome fault (λ at. IsFirstForm text at f.0 f.1))
  pub form_wide : IfNone fault (form ≡ None)
  pub form_none : IfNone form (IfSome fault (λ at. HasNoForm text at))
  pub end_is : end ≡ end_of text fault
  pub number_some : IfSome number (λ at. FirstOf (ScalarStands ExcessInteger (take end text)) at)
  pub number_none : IfNone number ((at : ℕ) → ScalarStands ExcessInteger (take end text) at → ⊥)
  pub part_some : IfSome part (λ at. IsFirstExcess text at)
  pub part_none : IfNone part (HasNoExcess text)
  pub part_count : IfNone part ((is : List Instance) → WideSpells text is → length is ≤ instances_limit)
  pub part_parts : IfNone part ((is : List Instance) → WideSpells text is → AllByRecursion HasFewParts is)

pub ends_at : (text : List ℕ) (fault : Option ℕ) → IfSome fault (λ at. IsSyntaxFault text at) → IfNone fault (Wide text) → EndsAt text fault
ends_at text None s n = n
ends_at text (Some at) s n = s

-- a text begins with what goes up to its end
pub front_there : (text : List ℕ) (fault : Option ℕ) (end : ℕ) → end ≡ end_of text fault → IfSome fault (λ at. IsSyntaxFault text at) → IfNone fault (Wide text) → IsFront (take end text)
front_there text fault end e s n = subst (λ (k : ℕ). IsFront (take k text)) (sym e) (front fault (ends_at text fault s n))
  where
    nil : (xs : List ℕ) → xs ++ [] ≡ xs
    nil [] = refl
    nil (x ∷ xs) = ap (λ (ys : List ℕ). x ∷ ys) (nil xs)

    front : (fault : Option ℕ) → EndsAt text fault → IsFront (take (end_of text fault) text)
    front None w = ([], subst (λ (xs : List ℕ). Wide xs) (sym (ap (λ (xs : List ℕ). xs ++ []) (take_all (length text) text (omega arith)) ∙ nil text)) w)
    front (Some at) f = f.front

module _ (text : List ℕ) (fault : Option ℕ) (form : Option (ℕ × Form)) (end : ℕ) (number part : Option ℕ) (f : Found text fault form end number part) where
  ends : EndsAt text fault
  ends = ends_at text fault f.fault_some f.fault_none

  goes : GoesUpTo text end
  goes = subst (λ (k : ℕ). GoesUpTo text k) (sym f.end_is) (goes_to text fault ends)

  covers : Covers text 1 4 (sooner (out_of_profile form) (sooner (number_range number) (sooner (too_many part) (syntax_fault fault))))
  covers =
      covers_sooner text 1 1 4 (omega arith) (omega arith) (out_of_profile form) _ (covers_form text fault form ends (f.form_some, f.form_wide, f.form_none))
      (covers_sooner text 2 2 4 (omega arith) (omega arith) (number_range number) _ (covers_number text end (goes_within text end goes) number goes f.number_some f.number_none)
      (covers_sooner text 3 3 4 (omega arith) (omega arith) (too_many part) (syntax_fault fault) (covers_part text end part goes f.part_some f.part_none) (covers_syntax text fault ends)))

  pub found_wins : (result others inner : Option MofError) → others ≡ sooner (too_many part) (syntax_fault fault) → inner ≡ sooner (number_range number) others → result ≡ sooner (out_of_profile form) inner → IfSome result (λ e. Wins text e)
  found_wins result others inner o i r =
      subst (λ (x : Option MofError). IfSome x (λ e. Wins text e)) (sym (r ∙ ap (λ (x : Option MofError). sooner (out_of_profile form) x) (i ∙ ap (λ (x : Option MofError). sooner (number_range number) x) o)))
      (covers_wins text _ covers)

  some_none : (e : MofError) → Some e ≡ None → ⊥
  some_none e h = cc

  pick_none : (b : Bool) (x y : MofError) → cond b (Some x) (Some y) ≡ None → ⊥
  pick_none true x y h = some_none x h
  pick_none false x y h = some_none y h

  sooner_none : (one other : Option MofError) → sooner one other ≡ None → (one ≡ None) × (other ≡ None)
  sooner_none None other e = (refl, e)
  sooner_none (Some x) None e = absurd (some_none x e)
  sooner_none (Some x) (Some y) e = absurd (pick_none (nat_le (refusal_place x) (refusal_place y)) x y e)

  spells_when : (number part fault : Option ℕ) → Found text fault form end number part → number_range number ≡ None → too_many part ≡ None → syntax_fault fault ≡ None → (is : List Instance) × Spells text is
  spells_when None None None g n p s =
      let same : take end text ≡ text = ap (λ (k : ℕ). take k text) g.end_is ∙ take_all (length text) text (omega arith) in
      spells_within text g.fault_none (λ at stands. g.number_none at (subst (λ (xs : List ℕ). ScalarStands ExcessInteger xs at) (sym same) stands)) g.part_none g.part_count g.part_parts
  spells_when (Some at) part fault g n p s = absurd (some_none _ n)
  spells_when None (Some at) fault g n p s = absurd (some_none _ p)
  spells_when None None (Some at) g n p s = absurd (some_none _ s)

  pub none_spells : (result others inner : Option MofError) → others ≡ sooner (too_many part) (syntax_fault fault) → inner ≡ sooner (number_range number) others → result ≡ sooner (out_of_profile form) inner
      → IfNone result ((is : List Instance) × Spells text is)
  none_spells (Some e) others inner o i r = tt
  none_spells None others inner o i r =
      let first = sooner_none (out_of_profile form) inner (sym r) in
      let second = sooner_none (number_range number) others (sym i ∙ first.1) in
      let third = sooner_none (too_many part) (syntax_fault fault) (sym o ∙ second.1) in
      spells_when number part fault f second.0 third.0 third.1
