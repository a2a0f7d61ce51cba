-- A loop that steps over the characters of a text.
use Rattle.std.proofs.Common.{◌≡◌, ℕ, ◌+◌, ◌-◌, List, [], ◌∷◌, ◌++◌, Some, None, length, take, drop, refl, sym, ◌∙◌, ap, subst, arith, append_assoc, append-nil, length-append}
use Rattle.std.specs.Prelude.{slice_index}
use Rattle.mof_syntax.specs.Characters.{EndsWith}
use Rattle.mof_syntax.specs.Grammar.{Wide}
use Rattle.mof_syntax.specs.Fronts.{IsSyntaxFault}
use Rattle.mof_codec.specs.declared.machine.state.State.{State}
use Rattle.mof_codec.specs.declared.machine.state.Place.TheVariants.{Start}
use Rattle.mof_codec.specs.declared.machine.state.Half.TheVariants as halves
use Rattle.mof_codec.specs.declared.machine.state.Event.{Event}
use Rattle.mof_codec.specs.declared.machine.state.Event.TheVariants as events
use Rattle.mof_codec.specs.Machine.{step}
use Rattle.mof_codec.specs.Walked.{tally, AfterWalk, walked}
use Rattle.mof_codec.proofs.Runs.{Whole}
use Rattle.mof_codec.proofs.Walking.{walked-more, walked-stuck}
use Rattle.mof_codec.proofs.Fronts.{fault_here, fault_end, whole_here}

abbrev pub after_of : State → List Event → AfterWalk
after_of s begun = record { half = s.half; place = s.place; begun = begun }

-- the machine came to this state over the characters before these
pub record Stepped (chars left : List ℕ) (state : State) : Type 0 where
  pub front : List ℕ
  pub split : chars ≡ front ++ left
  pub begun : List Event
  pub after : walked front ≡ Some (after_of state begun)

unfoldable pub stepped_none : (chars : List ℕ) → Stepped chars chars (record { place = Start; half = halves.Gap; begun = events.Quiet })
stepped_none chars = record { front = []; split = refl; begun = []; after = refl }

unfoldable pub stepped_more : (chars : List ℕ) (c : ℕ) (rest : List ℕ) (state next : State) → Stepped chars (c ∷ rest) state → Some next ≡ step state.half state.place c → Stepped chars rest next
stepped_more chars c rest state next s e = record {
  front = s.front ++ c ∷ [];
  split = s.split ∙ sym (append_assoc s.front (c ∷ []) rest);
  begun = tally next.begun s.begun;
  after = walked-more s.front c (after_of state s.begun) next s.after (sym e);
}

-- in places of the text

pub take_front : (front left : List ℕ) → take (length front) (front ++ left) ≡ front
take_front [] left = refl
take_front (c ∷ front) left = ap (λ (x : List ℕ). c ∷ x) (take_front front left)

pub drop_front : (front left : List ℕ) → drop (length front) (front ++ left) ≡ left
drop_front [] left = refl
drop_front (c ∷ front) left = drop_front front left

index_front : (front : List ℕ) (c : ℕ) (rest : List ℕ) → slice_index (front ++ c ∷ rest) (length front) ≡ c
index_front [] c rest = refl
index_front (d ∷ front) c rest = index_front front c rest

module _ (chars left : List ℕ) (state : State) (s : Stepped chars left state) where
  pub place_is : length chars - length left ≡ length s.front
  place_is = omega (arith, ap (λ (x : List ℕ). length x) s.split, length-append s.front left)

  pub place_within : length s.front + length left ≡ length chars
  place_within = omega (arith, ap (λ (x : List ℕ). length x) s.split, length-append s.front left)

  pub front_is : take (length s.front) chars ≡ s.front
  front_is = ap (λ (x : List ℕ). take (length s.front) x) s.split ∙ take_front s.front left

  pub left_is : drop (length s.front) chars ≡ left
  left_is = ap (λ (x : List ℕ). drop (length s.front) x) s.split ∙ drop_front s.front left

  pub walked_there : walked (take (length s.front) chars) ≡ Some (after_of state s.begun)
  walked_there = ap (λ (x : List ℕ). walked x) front_is ∙ s.after

pub char_is : (chars : List ℕ) (c : ℕ) (rest : List ℕ) (state : State) (s : Stepped chars (c ∷ rest) state) → slice_index chars (length s.front) ≡ c
char_is chars c rest state s = ap (λ (x : List ℕ). slice_index x (length s.front)) s.split ∙ index_front s.front c rest

-- the machine is stuck at the next character
pub stuck_fault : (chars : List ℕ) (c : ℕ) (rest : List ℕ) (state : State) → Stepped chars (c ∷ rest) state → None ≡ step state.half state.place c → IsSyntaxFault chars (length chars - length (c ∷ rest))
stuck_fault chars c rest state s e =
    subst (λ (x : ℕ). IsSyntaxFault chars x) (sym (place_is chars (c ∷ rest) state s))
    (fault_here chars (length s.front) (after_of state s.begun) (omega (arith, place_within chars (c ∷ rest) state s)) (walked_there chars (c ∷ rest) state s)
    (ap (λ (x : ℕ). step state.half state.place x) (char_is chars c rest state s) ∙ sym e))

pub stuck_walk : (chars : List ℕ) (c : ℕ) (rest : List ℕ) (state : State) → Stepped chars (c ∷ rest) state → None ≡ step state.half state.place c → walked chars ≡ None
stuck_walk chars c rest state s e = ap (λ (x : List ℕ). walked x) s.split ∙ walked-stuck s.front c (after_of state s.begun) s.after (sym e) rest

-- all is read
pub end_after : (chars : List ℕ) (state : State) (s : Stepped chars [] state) → walked chars ≡ Some (after_of state s.begun)
end_after chars state s = ap (λ (x : List ℕ). walked x) (s.split ∙ append-nil s.front) ∙ s.after

pub end_wide : (chars : List ℕ) (state : State) → Stepped chars [] state → Whole state.half state.place → Wide chars
end_wide chars state s w = whole_here chars (after_of state s.begun) (end_after chars state s) w

pub end_fault : (chars : List ℕ) (state : State) → Stepped chars [] state → (Whole state.half state.place → ⊥) → IsSyntaxFault chars (length chars)
end_fault chars state s n = fault_end chars (after_of state s.begun) (end_after chars state s) n

-- the same, where the next character is given by an equation

module _ (chars left rest : List ℕ) (state : State) (c : ℕ) where
  pub stepped_on : (next : State) → Stepped chars left state → left ≡ c ∷ rest → Some next ≡ step state.half state.place c → Stepped chars rest next
  stepped_on next s is e = stepped_more chars c rest state next (subst (λ (l : List ℕ). Stepped chars l state) is s) e

  pub stuck_at : Stepped chars left state → left ≡ c ∷ rest → None ≡ step state.half state.place c → IsSyntaxFault chars (length chars - length left)
  stuck_at s is e =
      subst (λ (l : List ℕ). IsSyntaxFault chars (length chars - length l)) (sym is) (stuck_fault chars c rest state (subst (λ (l : List ℕ). Stepped chars l state) is s) e)

  pub stuck_after : Stepped chars left state → left ≡ c ∷ rest → None ≡ step state.half state.place c → walked chars ≡ None
  stuck_after s is e = stuck_walk chars c rest state (subst (λ (l : List ℕ). Stepped chars l state) is s) e

pub all_read : (chars left : List ℕ) (state : State) → Stepped chars left state → left ≡ [] → Stepped chars [] state
all_read chars left state s nothing = subst (λ (l : List ℕ). Stepped chars l state) nothing s

pub ends_with : (chars left : List ℕ) (state : State) → Stepped chars left state → EndsWith chars left
ends_with chars left state s = (s.front, s.split)
