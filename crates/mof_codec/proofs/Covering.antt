-- The refusal that wins, of those that were found.
use Rattle.std.proofs.Common.{◌≡◌, ◌⊎◌, inl, inr, ℕ, ◌+◌, ◌<◌, ◌≤◌, Bool, true, false, List, [], ◌∷◌, ◌++◌, Option, Some, None, length, take, refl, sym, ◌∙◌, ap, subst, arith}
use Rattle.std.specs.Prelude.{nat_le, IfSome, IfNone}
use Rattle.std.proofs.lemmas.Bool.{cases_lt}
use Rattle.std.proofs.lemmas.Bool.Decides.{nat_tests}
use Rattle.std.proofs.lemmas.List.{take_all}
use Rattle.mof_syntax.specs.declared.mof_error.MofError.{MofError}
use Rattle.mof_syntax.specs.declared.mof_error.MofError.TheVariants as errors
use Rattle.mof_syntax.specs.declared.mof_error.Form.{Form}
use Rattle.mof_syntax.specs.Grammar.{Wide}
use Rattle.mof_syntax.specs.Fronts.{IsFront, IsSyntaxFault, GoesUpTo, whole, torn}
use Rattle.mof_syntax.specs.Profile.{OutOfProfile}
use Rattle.mof_syntax.specs.Refusals.{Applies, refusal_place, rank_of, WinsOver, Wins}
use Rattle.mof_codec.specs.Searching.{IsFirstExcess, HasNoExcess, IsFirstForm, HasNoForm}
use Rattle.mof_codec.specs.Winning.{end_of, sooner, out_of_profile, too_many, syntax_fault}
use Rattle.mof_codec.proofs.Truths.{le_of}
use Rattle.mof_codec.proofs.ExcessSearch.{goes_within, goes_past}

-- one refusal of these ranks applies, and wins over each other of them; or none applies
pub record Leads (text : List ℕ) (low high : ℕ) (e : MofError) : Type 0 where
  pub least : low ≤ rank_of e
  pub greatest : rank_of e ≤ high
  pub applies : Applies text e
  pub first : (other : MofError) → low ≤ rank_of other → rank_of other ≤ high → Applies text other → WinsOver e other

abbrev pub Covers : List ℕ → ℕ → ℕ → Option MofError → Type 0
Covers text low high None = (other : MofError) → low ≤ rank_of other → rank_of other ≤ high → Applies text other → ⊥
Covers text low high (Some e) = Leads text low high e

win_or_tie : (e f : MofError) → WinsOver e f → refusal_place e ≤ refusal_place f
win_or_tie e f w = elim w [ inl lt ↦ omega (arith, lt) | inr same ↦ omega (arith, same.0) ]

wins_far : (e f g : MofError) → refusal_place e < refusal_place f → WinsOver f g → WinsOver e g
wins_far e f g lt w = inl (omega (arith, lt, win_or_tie f g w))

-- of lesser rank at no later place
wins_near : (e f g : MofError) → refusal_place e ≤ refusal_place f → WinsOver f g → rank_of e ≤ rank_of g → WinsOver e g
wins_near e f g le w rank = elim (cases_lt (refusal_place e) (refusal_place g)) [
  | inl lt ↦ inl lt
  | inr later ↦ inr (omega (arith, later, le, win_or_tie f g w), rank)
]

le_or : (a b : ℕ) → (nat_le a b ≡ true) ⊎ (nat_le a b ≡ false)
le_or a b = from (nat_le a b)
  where
    from : (b : Bool) → (b ≡ true) ⊎ (b ≡ false)
    from true = inl refl
    from false = inr refl

lt_of : (a b : ℕ) → nat_le a b ≡ false → b < a
lt_of a b h = grind (arith, nat_tests)

module _ (text : List ℕ) (low mid high : ℕ) (below : low ≤ mid) (above : mid + 1 ≤ high) where
  low_leads : (e : MofError) → Leads text low mid e → ((other : MofError) → mid + 1 ≤ rank_of other → rank_of other ≤ high → Applies text other → WinsOver e other) → Leads text low high e
  low_leads e l f = record {
    least = l.least;
    greatest = omega (arith, l.greatest);
    applies = l.applies;
    first = λ other lo hi a. elim (cases_lt mid (rank_of other)) [
      | inl higher ↦ f other (omega (arith, higher)) hi a
      | inr lower ↦ l.first other lo lower a
    ];
  }

  high_leads : (e : MofError) → Leads text (mid + 1) high e → ((other : MofError) → low ≤ rank_of other → rank_of other ≤ mid → Applies text other → WinsOver e other) → Leads text low high e
  high_leads e l f = record {
    least = omega (arith, l.least);
    greatest = l.greatest;
    applies = l.applies;
    first = λ other lo hi a. elim (cases_lt mid (rank_of other)) [
      | inl higher ↦ l.first other (omega (arith, higher)) hi a
      | inr lower ↦ f other lo lower a
    ];
  }

  pub covers_sooner : (one other : Option MofError) → Covers text low mid one → Covers text (mid + 1) high other → Covers text low high (sooner one other)
  covers_sooner None None c d = λ other lo hi a. elim (cases_lt mid (rank_of other)) [
    | inl higher ↦ d other (omega (arith, higher)) hi a
    | inr lower ↦ c other lo lower a
  ]
  covers_sooner None (Some f) c d = high_leads f d (λ other lo hi a. absurd (c other lo hi a))
  covers_sooner (Some e) None c d = low_leads e c (λ other lo hi a. absurd (d other lo hi a))
  covers_sooner (Some e) (Some f) c d = elim (le_or (refusal_place e) (refusal_place f)) [
    | inl le ↦ rw le (low_leads e c (λ other lo hi a. wins_near e f other (le_of (refusal_place e) (refusal_place f) le) (d.first other lo hi a) (omega (arith, c.greatest, lo))))
    | inr gt ↦ rw gt (high_leads f d (λ other lo hi a. wins_far f e other (lt_of (refusal_place e) (refusal_place f) gt) (c.first other lo hi a)))
  ]

-- no other refusal applies to characters
applied_rank : (text : List ℕ) (e : MofError) → Applies text e → (1 ≤ rank_of e) × (rank_of e ≤ 4)
applied_rank text (errors.OutOfProfile at what) a = (omega arith, omega arith)
applied_rank text (errors.NumberRange at) a = (omega arith, omega arith)
applied_rank text (errors.TooMany at) a = (omega arith, omega arith)
applied_rank text (errors.Syntax at) a = (omega arith, omega arith)
applied_rank text e a = absurd a

pub leads_wins : (text : List ℕ) (e : MofError) → Leads text 1 4 e → Wins text e
leads_wins text e l = record { applies = l.applies; first = λ other a. let r = applied_rank text other a in l.first other r.0 r.1 a }

pub covers_wins : (text : List ℕ) (o : Option MofError) → Covers text 1 4 o → IfSome o (λ e. Wins text e)
covers_wins text None c = tt
covers_wins text (Some e) c = leads_wins text e c

-- how far the text goes

abbrev pub EndsAt : List ℕ → Option ℕ → Type 0
EndsAt text None = Wide text
EndsAt text (Some at) = IsSyntaxFault text at

pub goes_to : (text : List ℕ) (fault : Option ℕ) → EndsAt text fault → GoesUpTo text (end_of text fault)
goes_to text None w = whole w
goes_to text (Some at) f = torn at f

pub only_end : (text : List ℕ) (m n : ℕ) → GoesUpTo text m → GoesUpTo text n → m ≡ n
only_end text m n a b = from a b
  where
    end_front : (n : ℕ) → GoesUpTo text n → IsFront (take n text)
    end_front n (whole w) = ([], subst (λ (xs : List ℕ). Wide xs) (sym (ap (λ (xs : List ℕ). xs ++ []) (take_all (length text) text (omega arith)) ∙ nil text)) w)
      where
        nil : (xs : List ℕ) → xs ++ [] ≡ xs
        nil [] = refl
        nil (x ∷ xs) = ap (λ (ys : List ℕ). x ∷ ys) (nil xs)
    end_front n (torn e f) = f.front

    from : GoesUpTo text m → GoesUpTo text n → m ≡ n
    from a b =
        let up = goes_past text m n a (goes_within text n b) (end_front n b) in
        let down = goes_past text n m b (goes_within text m a) (end_front m a) in
        omega (arith, up, down)

-- the syntax

pub covers_syntax : (text : List ℕ) (fault : Option ℕ) → EndsAt text fault → Covers text 4 4 (syntax_fault fault)
covers_syntax text None w = none
  where
    none : (other : MofError) → 4 ≤ rank_of other → rank_of other ≤ 4 → Applies text other → ⊥
    none (errors.Syntax at) lo hi a = a.outside w
    none (errors.OutOfProfile at what) lo hi a = omega (arith, lo)
    none (errors.NumberRange at) lo hi a = omega (arith, lo)
    none (errors.TooMany at) lo hi a = omega (arith, lo)
    none e lo hi a = absurd a
covers_syntax text (Some at) f = record { least = omega arith; greatest = omega arith; applies = f; first = leads }
  where
    leads : (other : MofError) → 4 ≤ rank_of other → rank_of other ≤ 4 → Applies text other → WinsOver (errors.Syntax at) other
    leads (errors.Syntax n) lo hi a = inr (only_end text at n (torn at f) (torn n a), omega arith)
    leads (errors.OutOfProfile n what) lo hi a = absurd (omega (arith, lo))
    leads (errors.NumberRange n) lo hi a = absurd (omega (arith, lo))
    leads (errors.TooMany n) lo hi a = absurd (omega (arith, lo))
    leads e lo hi a = absurd a

-- the parts past their limits

pub covers_part : (text : List ℕ) (end : ℕ) (found : Option ℕ) → GoesUpTo text end → IfSome found (λ at. IsFirstExcess text at) → IfNone found (HasNoExcess text) → Covers text 3 3 (too_many found)
covers_part text end None goes s n = none
  where
    none : (other : MofError) → 3 ≤ rank_of other → rank_of other ≤ 3 → Applies text other → ⊥
    none (errors.TooMany at) lo hi a = n a.0 a.1 at a.2
    none (errors.OutOfProfile at what) lo hi a = omega (arith, lo)
    none (errors.NumberRange at) lo hi a = omega (arith, lo)
    none (errors.Syntax at) lo hi a = omega (arith, hi)
    none e lo hi a = absurd a
covers_part text end (Some at) goes s n = record { least = omega arith; greatest = omega arith; applies = (end, goes, (s end goes).found); first = leads }
  where
    by_place : (n : ℕ) → at ≤ n → WinsOver (errors.TooMany at) (errors.TooMany n)
    by_place n le = elim (cases_lt at n) [ inl lt ↦ inl lt | inr ge ↦ inr (omega (arith, le, ge), omega arith) ]

    leads : (other : MofError) → 3 ≤ rank_of other → rank_of other ≤ 3 → Applies text other → WinsOver (errors.TooMany at) other
    leads (errors.TooMany n) lo hi a = by_place n ((s a.0 a.1).first n a.2)
    leads (errors.OutOfProfile n what) lo hi a = absurd (omega (arith, lo))
    leads (errors.NumberRange n) lo hi a = absurd (omega (arith, lo))
    leads (errors.Syntax n) lo hi a = absurd (omega (arith, hi))
    leads e lo hi a = absurd a

-- the forms that are left out

abbrev pub FoundForm : List ℕ → Option ℕ → Option (ℕ × Form) → Type 0
FoundForm text fault found = IfSome found (λ f. IfSome fault (λ at. IsFirstForm text at f.0 f.1)) × (IfNone fault (found ≡ None)) × IfNone found (IfSome fault (λ at. HasNoForm text at))

pub covers_form : (text : List ℕ) (fault : Option ℕ) (found : Option (ℕ × Form)) → EndsAt text fault → FoundForm text fault found → Covers text 1 1 (out_of_profile found)
covers_form text None None w f = none
  where
    none : (other : MofError) → 1 ≤ rank_of other → rank_of other ≤ 1 → Applies text other → ⊥
    none (errors.OutOfProfile at what) lo hi a = a.1.outside w
    none (errors.NumberRange at) lo hi a = omega (arith, hi)
    none (errors.TooMany at) lo hi a = omega (arith, hi)
    none (errors.Syntax at) lo hi a = omega (arith, hi)
    none e lo hi a = absurd a
covers_form text None (Some found) w f = absurd (some_none found f.1)
  where
    some_none : (p : ℕ × Form) → Some p ≡ None → ⊥
    some_none p e = cc
covers_form text (Some at) None fault f = none
  where
    none : (other : MofError) → 1 ≤ rank_of other → rank_of other ≤ 1 → Applies text other → ⊥
    none (errors.OutOfProfile n what) lo hi a =
        f.2 n what (subst (λ (m : ℕ). OutOfProfile text m n what) (only_end text a.0 at (torn a.0 a.1) (torn at fault)) a.2)
    none (errors.NumberRange n) lo hi a = omega (arith, hi)
    none (errors.TooMany n) lo hi a = omega (arith, hi)
    none (errors.Syntax n) lo hi a = omega (arith, hi)
    none e lo hi a = absurd a
covers_form text (Some at) (Some found) fault f = record { least = omega arith; greatest = omega arith; applies = (at, fault, f.0.found); first = leads }
  where
    by_place : (n : ℕ) (what : Form) → found.0 ≤ n → WinsOver (errors.OutOfProfile found.0 found.1) (errors.OutOfProfile n what)
    by_place n what le = elim (cases_lt found.0 n) [ inl lt ↦ inl lt | inr ge ↦ inr (omega (arith, le, ge), omega arith) ]

    leads : (other : MofError) → 1 ≤ rank_of other → rank_of other ≤ 1 → Applies text other → WinsOver (errors.OutOfProfile found.0 found.1) other
    leads (errors.OutOfProfile n what) lo hi a =
        by_place n what (f.0.first n what (subst (λ (m : ℕ). OutOfProfile text m n what) (only_end text a.0 at (torn a.0 a.1) (torn at fault)) a.2))
    leads (errors.NumberRange n) lo hi a = absurd (omega (arith, hi))
    leads (errors.TooMany n) lo hi a = absurd (omega (arith, hi))
    leads (errors.Syntax n) lo hi a = absurd (omega (arith, hi))
    leads e lo hi a = absurd a
