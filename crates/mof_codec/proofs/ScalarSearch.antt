-- The search for the first literal of a kind.
use Rattle.std.proofs.Common.{◌≡◌, ◌⊎◌, inl, inr, ℕ, ◌-◌, ◌<◌, ◌≤◌, Bool, true, false, List, [], ◌∷◌, Some, None, length, refl, sym, ◌∙◌, ap, subst, arith}
use Rattle.std.specs.Prelude.{◌&&◌}
use Rattle.std.specs.List.{list_all}
use Rattle.std.proofs.lemmas.Bool.{cases_lt}
use Rattle.std.proofs.lemmas.Bool.Decides.{nat_tests}
use Rattle.std.proofs.lemmas.Option.{none-some}
use Rattle.mof_syntax.specs.Characters.{digit_of, is_sign}
use Rattle.mof_syntax.specs.Fronts.{IsFront}
use Rattle.mof_syntax.specs.Profile.{AreDigits, BeginsReal, unsigned, signed}
use Rattle.mof_codec.specs.declared.machine.state.State.{State}
use Rattle.mof_codec.specs.declared.machine.state.Place.TheVariants.{Start}
use Rattle.mof_codec.specs.declared.machine.state.Half.TheVariants as halves
use Rattle.mof_codec.specs.declared.machine.state.Event.TheVariants as events
use Rattle.mof_codec.specs.declared.refusing.scalar.Wanted.{Wanted}
use Rattle.mof_codec.specs.Machine.{step}
use Rattle.mof_codec.specs.Walked.{AfterWalk, walked}
use Rattle.mof_codec.specs.Beginnings.{begins_scalar}
use Rattle.mof_codec.specs.Searching.{FirstOf, IsWanted, ScalarStands, is_real}
use Rattle.mof_syntax.proofs.Scans.{test_or}
use Rattle.mof_codec.proofs.Standing.{scalar_begins, scalar_there, front_walked}
use Rattle.mof_codec.proofs.Stepping.{Stepped, stepped_none, stepped_more, after_of, place_is, place_within, left_is, walked_there, stuck_after}

-- fronts of floating-point constants

digits_are : (cs : List ℕ) → list_all (digit_of 10) cs ≡ true → AreDigits cs
digits_are [] e = tt
digits_are (c ∷ cs) e = (and_left (digit_of 10 c) (list_all (digit_of 10) cs) e, digits_are cs (and_right (digit_of 10 c) (list_all (digit_of 10) cs) e))
  where
    and_left : (a b : Bool) → (a && b) ≡ true → a ≡ true
    and_left true b e = refl
    and_left false b e = e

    and_right : (a b : Bool) → (a && b) ≡ true → b ≡ true
    and_right true b e = e
    and_right false b e = absurd cc

are_digits : (cs : List ℕ) → AreDigits cs → list_all (digit_of 10) cs ≡ true
are_digits [] d = refl
are_digits (c ∷ cs) d = rw d.0 (are_digits cs d.1)

digit_sign : (c : ℕ) → digit_of 10 c ≡ true → is_sign c ≡ true → ⊥
digit_sign c d s = grind (arith, nat_tests)

pub real_begins : (cs : List ℕ) → is_real cs ≡ true → BeginsReal cs
real_begins [] e = unsigned [] tt
real_begins (c ∷ cs) e = elim (test_or (is_sign c)) [
  | inl is ↦ signed c cs is (digits_are cs (rw is at e))
  | inr not ↦ unsigned (c ∷ cs) (digits_are (c ∷ cs) (rw not at e))
]

unsigned_is : (cs : List ℕ) → AreDigits cs → is_real cs ≡ true
unsigned_is [] d = refl
unsigned_is (c ∷ cs) d = elim (test_or (is_sign c)) [
  | inl is ↦ absurd (digit_sign c d.0 is)
  | inr not ↦ rw not (are_digits (c ∷ cs) d)
]

pub begins_real : (cs : List ℕ) → BeginsReal cs → is_real cs ≡ true
begins_real cs (unsigned digits d) = unsigned_is digits d
begins_real cs (signed c digits is d) = rw is (are_digits digits d)

-- the search

pub record ScalarSearched (front left : List ℕ) (state : State) (wanted : Wanted) : Type 0 where
  pub stepped : Stepped front left state
  pub before : (n : ℕ) → n < length front - length left → ScalarStands wanted front n → ⊥

pub scalar_none : (front : List ℕ) (wanted : Wanted) → ScalarSearched front front (record { place = Start; half = halves.Gap; begun = events.Quiet }) wanted
scalar_none front wanted = record { stepped = stepped_none front; before = λ n lt s. absurd (omega (arith, lt)) }

abbrev pub StandsHere : State → Wanted → List ℕ → Type 0
StandsHere state wanted left = (begins_scalar state.half state.place ≡ true) × IsWanted wanted left

module _ (front left : List ℕ) (state : State) (wanted : Wanted) (s : ScalarSearched front left state wanted) where
  pub scalar_found : StandsHere state wanted left → FirstOf (ScalarStands wanted front) (length front - length left)
  scalar_found here =
      let at = place_is front left state s.stepped in
      record {
        found = subst (λ (n : ℕ). ScalarStands wanted front n) (sym at) (record {
          within = omega (arith, place_within front left state s.stepped);
          begins = scalar_begins front (length s.stepped.front) (after_of state s.stepped.begun) (walked_there front left state s.stepped) here.0;
          stands = subst (λ (cs : List ℕ). IsWanted wanted cs) (sym (left_is front left state s.stepped)) here.1;
        });
        first = λ other stands. elim (cases_lt other (length front - length left)) [
          | inl sooner ↦ absurd (s.before other sooner stands)
          | inr later ↦ later
        ];
      }

  pub scalar_here : ScalarStands wanted front (length front - length left) → StandsHere state wanted left
  scalar_here stands =
      let there = subst (λ (n : ℕ). ScalarStands wanted front n) (place_is front left state s.stepped) stands in (
        scalar_there front (length s.stepped.front) (after_of state s.stepped.begun) (walked_there front left state s.stepped) there.begins,
        subst (λ (cs : List ℕ). IsWanted wanted cs) (left_is front left state s.stepped) there.stands,
      )

  -- nothing stands up to here and with it
  pub scalar_up_to : (StandsHere state wanted left → ⊥) → (n : ℕ) → n ≤ length front - length left → ScalarStands wanted front n → ⊥
  scalar_up_to not_here n le stands = elim (cases_lt n (length front - length left)) [
    | inl sooner ↦ s.before n sooner stands
    | inr later ↦
        let same : n ≡ length front - length left = omega (arith, le, later) in
        not_here (scalar_here (subst (λ (m : ℕ). ScalarStands wanted front m) same stands))
  ]

pub scalar_more : (front : List ℕ) (x : ℕ) (rest : List ℕ) (state next : State) (wanted : Wanted) → ScalarSearched front (x ∷ rest) state wanted → (StandsHere state wanted (x ∷ rest) → ⊥) → Some next ≡ step state.half state.place x
    → ScalarSearched front rest next wanted
scalar_more front x rest state next wanted s not_here e = record {
  stepped = stepped_more front x rest state next s.stepped e;
  before = λ n lt stands. scalar_up_to front (x ∷ rest) state wanted s not_here n (omega (arith, lt, place_within front (x ∷ rest) state s.stepped)) stands;
}

-- in a front the machine is never stuck
pub never_stuck : (front : List ℕ) → IsFront front → walked front ≡ None → ⊥
never_stuck front f e = let w = front_walked front f in none-some w.0 (sym e ∙ w.1)

-- the same, where the next character is given by an equation

module _ (front left rest : List ℕ) (state : State) (wanted : Wanted) (c : ℕ) where
  pub scalar_on : (next : State) → ScalarSearched front left state wanted → (StandsHere state wanted left → ⊥) → left ≡ c ∷ rest → Some next ≡ step state.half state.place c
      → ScalarSearched front rest next wanted
  scalar_on next s not_here is e =
      scalar_more front c rest state next wanted (subst (λ (l : List ℕ). ScalarSearched front l state wanted) is s)
      (λ here. not_here (subst (λ (l : List ℕ). StandsHere state wanted l) (sym is) here)) e

  pub scalar_stuck : ScalarSearched front left state wanted → left ≡ c ∷ rest → None ≡ step state.half state.place c → IsFront front → ⊥
  scalar_stuck s is e f = never_stuck front f (stuck_after front left rest state c s.stepped is e)

pub scalar_end : (front left : List ℕ) (state : State) (wanted : Wanted) → ScalarSearched front left state wanted → left ≡ [] → (StandsHere state wanted left → ⊥) → (n : ℕ) → ScalarStands wanted front n → ⊥
scalar_end front left state wanted s nothing not_here n stands =
    scalar_up_to front left state wanted s not_here n (omega (arith, ap (λ (l : List ℕ). length l) nothing, stands.within)) stands

pub scalar_last : (front left : List ℕ) (state : State) (wanted : Wanted) → ScalarSearched front left state wanted → left ≡ [] → StandsHere state wanted left → FirstOf (ScalarStands wanted front) (length front)
scalar_last front left state wanted s nothing here =
    let same : length front - length left ≡ length front = omega (arith, ap (λ (l : List ℕ). length l) nothing) in
    subst (λ (n : ℕ). FirstOf (ScalarStands wanted front) n) same (scalar_found front left state wanted s here)
