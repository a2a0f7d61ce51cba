-- The search for the first part past its limit.
use Rattle.std.proofs.Common.{◌≡◌, ◌⊎◌, inl, inr, ℕ, suc, ◌+◌, ◌-◌, ◌<◌, ◌≤◌, Bool, true, false, List, [], ◌∷◌, ◌++◌, Some, None, length, take, refl, sym, ◌∙◌, ap, subst, arith}
use Rattle.std.specs.Prelude.{slice_index}
use Rattle.std.proofs.lemmas.List.{take_more}
use Rattle.std.proofs.lemmas.Bool.{cases_lt}
use Rattle.std.specs.List.{AllByRecursion}
use Rattle.mof_values.specs.Ident.{is_first, is_next}
use Rattle.mof_values.specs.declared.instance.Instance.{Instance}
use Rattle.mof_syntax.specs.Characters.{Run, stop, more, Stops}
use Rattle.mof_syntax.specs.Tokens.{Identifier, identifier as stands}
use Rattle.mof_syntax.specs.Grammar.{WideSpells}
use Rattle.mof_syntax.specs.Limits.{instances_limit}
use Rattle.mof_syntax.specs.Fronts.{IsFront, IsSyntaxFault, GoesUpTo, whole, torn}
use Rattle.mof_syntax.specs.Counts.{TooMany, declaration, property, element, identifier}
use Rattle.mof_codec.specs.declared.machine.state.State.{State}
use Rattle.mof_codec.specs.declared.machine.state.Place.TheVariants.{Start}
use Rattle.mof_codec.specs.declared.machine.state.Half.TheVariants as halves
use Rattle.mof_codec.specs.declared.machine.state.Event.{Event}
use Rattle.mof_codec.specs.declared.machine.state.Event.TheVariants as events
use Rattle.mof_codec.specs.declared.machine.counts.Counts.{Counts}
use Rattle.mof_codec.specs.Machine.{step}
use Rattle.mof_codec.specs.Walked.{AfterWalk, walked}
use Rattle.mof_codec.specs.Events.{events_of}
use Rattle.mof_codec.specs.Beginnings.{begins_identifier}
use Rattle.mof_codec.specs.Counting.{Tells, WereWithin, counted, is_excess, name_length}
use Rattle.mof_codec.specs.Searching.{BeginsLongName, IsFirstExcess, HasNoExcess, HasFewParts}
use Rattle.mof_codec.proofs.Walking.{walked-more}
use Rattle.mof_codec.proofs.Fronts.{is_front, events_here}
use Rattle.mof_codec.proofs.CountsFit.{declarations_counted, are_within, have_few_parts, tells-counted, within-counted}
use Rattle.mof_codec.proofs.Excess.{counts_excess, long_excess, too_many_told, LongName}
use Rattle.mof_codec.proofs.Stepping.{Stepped, stepped_none, stepped_more, after_of, place_is, place_within, left_is, walked_there, char_is, stuck_fault, end_after}
use Rattle.mof_values.specs.declared.limits.TheConstants.{MAX_IDENTIFIER}

-- identifiers

run_length : (cs name rest : List ℕ) → Run is_next cs name rest → Stops is_next rest → length name ≡ name_length cs
run_length [] name rest (stop r) s = refl
run_length (c ∷ cs) name rest (stop r) s = rw s refl
run_length cs name rest (more c us v r e run) s = rw e (ap suc (run_length us v r run s))

run_here : (cs : List ℕ) → (name : List ℕ) × (rest : List ℕ) × Run is_next cs name rest × Stops is_next rest
run_here [] = ([], [], stop [], tt)
run_here (c ∷ cs) = elim (test_or (is_next c)) [
  | inl is ↦ let r = run_here cs in (c ∷ r.0, r.1, more c cs r.0 r.1 is r.2, r.3)
  | inr not ↦ ([], c ∷ cs, stop (c ∷ cs), not)
]
  where
    test_or : (b : Bool) → (b ≡ true) ⊎ (b ≡ false)
    test_or true = inl refl
    test_or false = inr refl

pub long_name : (c : ℕ) (cs : List ℕ) → is_first c ≡ true → MAX_IDENTIFIER ≤ name_length cs → BeginsLongName (c ∷ cs)
long_name c cs first le =
    let r = run_here cs in
    record { name = c ∷ r.0; rest = r.1; stands = stands c cs r.0 r.1 first r.2 r.3; long = omega (arith, le, run_length cs r.0 r.1 r.2 r.3) }

identifier_length : (c : ℕ) (cs name rest : List ℕ) → Identifier (c ∷ cs) name rest → (is_first c ≡ true) × (length name ≡ suc (name_length cs))
identifier_length c cs name rest (stands d us w r first run s) = (first, ap suc (run_length us w r run s))

pub name_is_long : (c : ℕ) (cs : List ℕ) → BeginsLongName (c ∷ cs) → (is_first c ≡ true) × (MAX_IDENTIFIER ≤ name_length cs)
name_is_long c cs l = let is = identifier_length c cs l.name l.rest l.stands in (is.0, omega (arith, l.long, is.1))

no_identifier : (name rest : List ℕ) → Identifier [] name rest → ⊥
no_identifier name rest i = elim i [ ]

pub no_name_empty : BeginsLongName [] → ⊥
no_name_empty l = no_identifier l.name l.rest l.stands

-- how far a text goes

pub goes_within : (text : List ℕ) (end : ℕ) → GoesUpTo text end → end ≤ length text
goes_within text end (whole w) = omega arith
goes_within text end (torn e f) = f.within

pub goes_past : (text : List ℕ) (end n : ℕ) → GoesUpTo text end → n ≤ length text → IsFront (take n text) → n ≤ end
goes_past text end n (whole w) le f = le
goes_past text end n (torn e fault) le f = fault.longest n le f

pub goes_to_fault : (text : List ℕ) (end at : ℕ) → IsSyntaxFault text at → GoesUpTo text end → end ≤ at
goes_to_fault text end at fault (whole w) = absurd (fault.outside w)
goes_to_fault text end at fault (torn e f) = fault.longest end f.within f.front

pub too_many_before : (text : List ℕ) (end n : ℕ) → TooMany text end n → n < end
too_many_before text end n (declaration lt x) = lt
too_many_before text end n (property lt x) = lt
too_many_before text end n (element lt x) = lt
too_many_before text end n (identifier lt x) = lt

-- the search

pub record Searched (chars left : List ℕ) (state : State) (counts : Counts) : Type 0 where
  pub stepped : Stepped chars left state
  pub tells : Tells counts stepped.begun
  pub within : WereWithin stepped.begun
  pub before : (n end : ℕ) → n < length chars - length left → TooMany chars end n → ⊥

pub searched_none : (chars : List ℕ) → Searched chars chars (record { place = Start; half = halves.Gap; begun = events.Quiet }) (record { declarations = 0; properties = 0; elements = 0 })
unfolding stepped_none
searched_none chars = record {
  stepped = stepped_none chars;
  tells = record { declarations = refl; properties = refl; elements = refl };
  within = tt;
  before = λ n end lt t. absurd (omega (arith, lt));
}

-- what is past its limit
abbrev pub IsPast : State → Counts → Event → List ℕ → Type 0
IsPast state counts begun left = (is_excess begun counts ≡ true) ⊎ ((begins_identifier state.half state.place ≡ true) × BeginsLongName left)

module _ (chars : List ℕ) (x : ℕ) (rest : List ℕ) (state : State) (counts : Counts) (s : Searched chars (x ∷ rest) state counts) where
  at : ℕ
  at = length s.stepped.front

  module _ (next : State) (e : Some next ≡ step state.half state.place x) where
    b : AfterWalk
    b = after_of state s.stepped.begun

    step_at : step state.half state.place (slice_index chars at) ≡ Some next
    unfolding at
    step_at = ap (λ (y : ℕ). step state.half state.place y) (char_is chars x rest state s.stepped) ∙ sym e

    here : walked (take at chars) ≡ Some b
    unfolding at b
    here = walked_there chars (x ∷ rest) state s.stepped

    at_within : at < length chars
    unfolding at
    at_within = omega (arith, place_within chars (x ∷ rest) state s.stepped)

    past_end : (end : ℕ) → GoesUpTo chars end → at < end
    unfolding at b
    past_end end goes =
        let more_walk = walked-more (take at chars) (slice_index chars at) b next here step_at in
        let front = is_front (take at chars ++ slice_index chars at ∷ []) _ more_walk in
        let le = goes_past chars end (at + 1) goes (omega (arith, at_within)) (subst (λ (y : List ℕ). IsFront y) (sym (take_more chars at 0 at_within)) front) in
        omega (arith, le)

    found : (end : ℕ) → GoesUpTo chars end → IsPast state counts next.begun (x ∷ rest) → TooMany chars end at
    unfolding at b
    found end goes past = elim past [
      | inl excess ↦ counts_excess chars at b here end (past_end end goes) counts s.tells next step_at excess
      | inr long ↦ let l = long.1 in long_excess chars at b here end (past_end end goes) long.0 l.name l.rest (subst (λ (y : List ℕ). Identifier y l.name l.rest) (sym (left_is chars (x ∷ rest) state s.stepped)) l.stands) l.long
    ]

    pub first_found : IsPast state counts next.begun (x ∷ rest) → IsFirstExcess chars (length chars - length (x ∷ rest))
    unfolding at b
    first_found past = λ end goes. record {
      found = subst (λ (n : ℕ). TooMany chars end n) (sym (place_is chars (x ∷ rest) state s.stepped)) (found end goes past);
      first = λ other t. elim (cases_lt other (length chars - length (x ∷ rest))) [
        | inl sooner ↦ absurd (s.before other end sooner t)
        | inr later ↦ later
      ];
    }

    is_past : LongName chars at b → IsPast state counts next.begun (x ∷ rest)
    unfolding at b
    is_past l = inr (l.begins, record { name = l.name; rest = l.rest; stands = subst (λ (y : List ℕ). Identifier y l.name l.rest) (left_is chars (x ∷ rest) state s.stepped) l.stands; long = l.long })

    told : (end : ℕ) → TooMany chars end at → IsPast state counts next.begun (x ∷ rest)
    unfolding at b
    told end t = elim (too_many_told chars at b here counts s.tells next step_at end t) [ inl excess ↦ inl excess | inr long ↦ is_past long ]

    pub searched_more : (IsPast state counts next.begun (x ∷ rest) → ⊥) → Searched chars rest next (counted next.begun counts)
    unfolding at b stepped_more
    searched_more not_past = record {
      stepped = stepped_more chars x rest state next s.stepped e;
      tells = tells-counted next.begun counts s.stepped.begun s.tells;
      within = within-counted next.begun counts s.stepped.begun s.tells (no_excess (is_excess next.begun counts) refl) s.within;
      before = λ n end lt t. elim (cases_lt n at) [
        | inl sooner ↦ s.before n end (omega (arith, sooner, place_is chars (x ∷ rest) state s.stepped)) t
        | inr later ↦
            let same : n ≡ at = omega (arith, later, lt, place_is chars (x ∷ rest) state s.stepped, place_within chars (x ∷ rest) state s.stepped) in
            not_past (told end (subst (λ (m : ℕ). TooMany chars end m) same t))
      ];
    }
      where
        no_excess : (v : Bool) → is_excess next.begun counts ≡ v → is_excess next.begun counts ≡ false
        no_excess true e = absurd (not_past (inl e))
        no_excess false e = e

  pub stuck_none : None ≡ step state.half state.place x → HasNoExcess chars
  stuck_none e = λ end goes n t.
      let lt = too_many_before chars end n t in
      let le = goes_to_fault chars end (length chars - length (x ∷ rest)) (stuck_fault chars x rest state s.stepped e) goes in
      s.before n end (omega (arith, lt, le)) t

  pub stuck_wide : None ≡ step state.half state.place x → (is : List Instance) → WideSpells chars is → ⊥
  stuck_wide e is w = (stuck_fault chars x rest state s.stepped e).outside (is, w)

module _ (chars : List ℕ) (state : State) (counts : Counts) (s : Searched chars [] state counts) where
  pub end_none : HasNoExcess chars
  end_none = λ end goes n t. s.before n end (omega (arith, too_many_before chars end n t, goes_within chars end goes)) t

  begun_is : (is : List Instance) → WideSpells chars is → s.stepped.begun ≡ events_of is []
  begun_is is w = events_here chars (after_of state s.stepped.begun) (end_after chars state s.stepped) is w

  pub end_count : (is : List Instance) → WideSpells chars is → length is ≤ instances_limit
  end_count is w =
      let all = are_within (events_of is []) (subst (λ (es : List Event). WereWithin es) (begun_is is w) s.within) in
      omega (arith, all.declarations, declarations_counted is [])

  pub end_parts : (is : List Instance) → WideSpells chars is → AllByRecursion HasFewParts is
  end_parts is w = (have_few_parts is [] (subst (λ (es : List Event). WereWithin es) (begun_is is w) s.within)).0

-- the same, where the next character is given by an equation

module _ (chars left rest : List ℕ) (state : State) (counts : Counts) (c : ℕ) where
  searched_here : left ≡ c ∷ rest → Searched chars left state counts → Searched chars (c ∷ rest) state counts
  searched_here is s = subst (λ (l : List ℕ). Searched chars l state counts) is s

  pub found_at : (next : State) → Searched chars left state counts → left ≡ c ∷ rest → Some next ≡ step state.half state.place c → IsPast state counts next.begun left
      → IsFirstExcess chars (length chars - length left)
  found_at next s is e past =
      subst (λ (l : List ℕ). IsFirstExcess chars (length chars - length l)) (sym is)
      (first_found chars c rest state counts (searched_here is s) next e (subst (λ (l : List ℕ). IsPast state counts next.begun l) is past))

  pub searched_on : (next : State) (after : Counts) → Searched chars left state counts → left ≡ c ∷ rest → Some next ≡ step state.half state.place c → (IsPast state counts next.begun left → ⊥)
      → after ≡ counted next.begun counts → Searched chars rest next after
  searched_on next after s is e not_past same =
      subst (λ (n : Counts). Searched chars rest next n) (sym same)
      (searched_more chars c rest state counts (searched_here is s) next e (λ past. not_past (subst (λ (l : List ℕ). IsPast state counts next.begun l) (sym is) past)))

  pub stuck_none_at : Searched chars left state counts → left ≡ c ∷ rest → None ≡ step state.half state.place c → HasNoExcess chars
  stuck_none_at s is e = stuck_none chars c rest state counts (searched_here is s) e

  pub stuck_wide_at : Searched chars left state counts → left ≡ c ∷ rest → None ≡ step state.half state.place c → (is : List Instance) → WideSpells chars is → ⊥
  stuck_wide_at s is e = stuck_wide chars c rest state counts (searched_here is s) e

pub all_searched : (chars left : List ℕ) (state : State) (counts : Counts) → Searched chars left state counts → left ≡ [] → Searched chars [] state counts
all_searched chars left state counts s nothing = subst (λ (l : List ℕ). Searched chars l state counts) nothing s

pub few : (chars left : List ℕ) (state : State) (counts : Counts) → Searched chars left state counts → (counts.declarations < 9223372036854775808) × (counts.properties < 9223372036854775808) × (counts.elements < 9223372036854775808)
few chars left state counts s =
    let w = are_within s.stepped.begun s.within in
    (omega (arith, w.declarations, s.tells.declarations), omega (arith, w.properties, s.tells.properties), omega (arith, w.elements, s.tells.elements))
