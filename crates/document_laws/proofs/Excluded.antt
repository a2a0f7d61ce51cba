-- To a text that spells instances within the limits no refusal applies.
use Rattle.std.proofs.Common.{◌≡◌, ◌≢◌, inl, inr, ℕ, zero, suc, ◌<◌, ◌≤◌, true, List, [], ◌∷◌, Option, Some, None, length, take, drop, refl, sym, ap, subst, ◌∙◌, arith, append-nil, take-append-drop}
use Rattle.std.specs.List.{AllByRecursion}
use Rattle.std.specs.Prelude.{slice_index}
use Rattle.std.proofs.lemmas.List.{take_all}
use Rattle.std.proofs.lemmas.Option.{same_Some}
use Rattle.mof_values.specs.declared.instance.Instance.{Instance}
use Rattle.mof_syntax.specs.declared.mof_error.MofError.{MofError}
use Rattle.mof_syntax.specs.declared.mof_error.MofError.TheVariants.{Memory, NumberRange, OutOfProfile, Syntax, Text, TooLong, TooMany}
use Rattle.mof_syntax.specs.Fronts.{BeginsScalar, IsFront, whole}
use Rattle.mof_syntax.specs.Grammar.{Wide}
use Rattle.mof_syntax.specs.Limits.{IsInRange, Spells, identifier_limit}
use Rattle.mof_syntax.specs.Refusals.{Applies, Reads, Refuses, RefusesText}
use Rattle.mof_syntax.specs.Scanning.{magnitude_value}
use Rattle.mof_syntax.specs.Tokens.{Identifier, IsToken, Lexeme, Lexes, Number, Word, end, separator, token, word}
use Rattle.mof_syntax.proofs.Decoded.{one_text}
use Rattle.mof_syntax.proofs.Scans.{read-magnitude}
use Rattle.mof_syntax.proofs.Suffixes.{token_ends}
use Rattle.mof_syntax.proofs.UniqueTokens.{magnitude_is, no_both, nothing_within, token_same}
use Rattle.mof_codec.specs.Beginnings.{begins_identifier, begins_scalar}
use Rattle.mof_codec.specs.Counting.{WereWithin, declarations_in, elements_in, properties_in}
use Rattle.mof_codec.specs.Machine.{step}
use Rattle.mof_codec.specs.Searching.{BeginsExcessInteger}
use Rattle.mof_codec.specs.Values.{sign_rest, is_negative, signed}
use Rattle.mof_codec.specs.Walked.{AfterWalk, moved, start, tally, walk_from, walked}
use Rattle.mof_codec.proofs.Answered.{reads_no_fault, reads_not_long}
use Rattle.mof_codec.proofs.Excess.{too_many_told}
use Rattle.mof_codec.proofs.ExcessSearch.{goes_within, too_many_before}
use Rattle.mof_codec.proofs.Fronts.{events_here}
use Rattle.mof_codec.proofs.IntegerFronts.{excess_outside, excess_reads}
use Rattle.mof_codec.proofs.IntegersRead.{signed_number}
use Rattle.mof_codec.proofs.NumberSearch.{covers_number}
use Rattle.mof_codec.proofs.Standing.{front_walked, scalar_there}
use Rattle.mof_codec.proofs.TokensFit.{TokenFits}
use Rattle.mof_codec.proofs.Walking.{none_stays, walk-append}
use Rattle.document_laws.specs.Laws.{WhatIsReadIsNotRefused}
use Rattle.document_laws.proofs.States.{Alias, Counts, Declaration, Element, Event, Gap, Half, Place, Property, Quiet, Start, State}
use Rattle.document_laws.proofs.Comes.{Leaves, lexes_come}
use Rattle.document_laws.proofs.Fitting.{no_excess, tokens_fit, were_within}

-- ---- the first token of what is left

first_fits : (cs : List ℕ) (ts : List Lexeme) (t : Lexeme) (rest : List ℕ) → Lexes cs ts → AllByRecursion TokenFits ts → IsToken cs t rest → TokenFits t
first_fits cs ts t rest end all is = absurd (nothing_within rest (token_ends [] t rest is))
first_fits cs ts t rest (separator us r vs s l) all is = absurd (no_both us t r rest s is)
first_fits cs ts t rest (token us u r vs other l) all is = subst TokenFits (token_same us u r t rest other is).0 all.0

module _ (cs : List ℕ) (e : BeginsExcessInteger cs) where
  abbrev value_there : ℕ
  value_there = magnitude_value (sign_rest cs)

  out_of_range : IsInRange (signed (is_negative cs) value_there) → ⊥
  out_of_range within = excess_outside cs (sign_rest cs) refl (is_negative cs) refl value_there (inl refl) e within

  -- an integer out of range is no token that fits
  no_excess_integer : (ts : List Lexeme) → Lexes cs ts → AllByRecursion TokenFits ts → ⊥
  no_excess_integer ts l all =
      let read = excess_reads cs (sign_rest cs) refl (is_negative cs) refl value_there (inl refl) e in
      let m = read-magnitude (sign_rest cs) e.rest read in
      let fits : IsInRange (signed (is_negative cs) m.0) = first_fits cs ts (Number (signed (is_negative cs) m.0)) e.rest l all (signed_number cs m.0 e.rest m.1 m.2) in
      out_of_range (subst (λ (n : ℕ). IsInRange (signed (is_negative cs) n)) (sym (magnitude_is (sign_rest cs) m.0 e.rest m.1 m.2)) fits)

-- two identifiers at the front of characters are one
same_identifier : (cs a b rest other : List ℕ) → Identifier cs a rest → Identifier cs b other → a ≡ b
same_identifier cs a b rest other one two = same_text (token_same cs (Word a) rest (Word b) other (word cs a rest one) (word cs b other two)).0
  where
    same_text : Word a ≡ Word b → a ≡ b
    same_text e = cc

-- ---- where the machine is

scalar_gap : (h : Half) (p : Place) → begins_scalar h p ≡ true → h ≡ Gap
scalar_gap Gap p e = refl
scalar_gap h p e = absurd cc

no_long_name : (h : Half) (p : Place) (cs name rest : List ℕ) → begins_identifier h p ≡ true → Leaves TokenFits h cs → Identifier cs name rest → identifier_limit < length name → ⊥
no_long_name Gap p cs name rest begins left stands long =
    let short : length name ≤ identifier_limit = first_fits cs left.0 (Word name) rest left.1 left.2 (word cs name rest stands) in
    omega (arith, short, long)
no_long_name Alias p cs name rest begins left stands long =
    let short : length name ≤ identifier_limit = subst (λ (l : List ℕ). length l ≤ identifier_limit) (same_identifier cs left.0 name left.1 rest left.2 stands) left.3 in
    omega (arith, short, long)
no_long_name h p cs name rest begins left stands long = absurd cc

were_without : (e : Event) (acc : List Event) → WereWithin (tally e acc) → WereWithin acc
were_without Quiet acc were = were
were_without Declaration acc were = were.1
were_without Property acc were = were.1
were_without Element acc were = were.1

none_walked : (cs : List ℕ) (f : AfterWalk) → walk_from None cs ≡ Some f → ⊥
none_walked cs f e = clash (sym (none_stays cs) ∙ e)
  where
    clash : None ≡ Some f → ⊥
    clash e = cc

-- what was begun in the end was begun before
were_before : (cs : List ℕ) (h : Half) (p : Place) (acc : List Event) (f : AfterWalk) → walk_from (Some (record { half = h; place = p; begun = acc })) cs ≡ Some f → WereWithin f.begun → WereWithin acc
were_before [] h p acc f walk were =
    subst WereWithin (sym (ap (λ (x : AfterWalk). x.begun) (same_Some (record { half = h; place = p; begun = acc }) f walk))) were
were_before (c ∷ cs) h p acc f walk were = from (step h p c) walk (λ k q more on. were_before cs k q more f on were)
  where
    from : (o : Option State) → walk_from (moved o acc) cs ≡ Some f
        → ((k : Half) (q : Place) (more : List Event) → walk_from (Some (record { half = k; place = q; begun = more })) cs ≡ Some f → WereWithin more) → WereWithin acc
    from None walk before = absurd (none_walked cs f walk)
    from (Some s) walk before = were_without s.begun acc (before s.half s.place (tally s.begun acc) walk)

-- the step over the next character, and the walk on
record StepsOn (b : AfterWalk) (c : ℕ) (cs : List ℕ) (f : AfterWalk) : Type 0 where
  next : State
  is : step b.half b.place c ≡ Some next
  on : walk_from (Some (record { half = next.half; place = next.place; begun = tally next.begun b.begun })) cs ≡ Some f

steps_on : (b : AfterWalk) (c : ℕ) (cs : List ℕ) (f : AfterWalk) → walk_from (Some b) (c ∷ cs) ≡ Some f → StepsOn b c cs f
steps_on b c cs f walk = from (step b.half b.place c) refl walk
  where
    from : (o : Option State) → step b.half b.place c ≡ o → walk_from (moved o b.begun) cs ≡ Some f → StepsOn b c cs f
    from None e walk = absurd (none_walked cs f walk)
    from (Some s) e walk = record { next = s; is = e; on = walk }

char_there : (text : List ℕ) (at : ℕ) → at < length text → (rest : List ℕ) × (drop at text ≡ slice_index text at ∷ rest)
char_there [] at within = absurd (omega (arith, within))
char_there (x ∷ xs) zero within = (xs, refl)
char_there (x ∷ xs) (suc at) within = char_there xs at (omega (arith, within))

-- ---- refusals

module _ (text : List ℕ) (is : List Instance) (spelled : Spells text is) where
  wide : Wide text
  wide = (is, spelled.wide)

  front_there : (at : ℕ) → IsFront (take at text)
  front_there at = (drop at text, subst (λ (cs : List ℕ). Wide cs) (sym (take-append-drop at text)) wide)

  state_at : (at : ℕ) → (b : AfterWalk) × (walked (take at text) ≡ Some b)
  state_at at = front_walked (take at text) (front_there at)

  -- what is left where the machine is after the first characters
  left_there : (at : ℕ) → Leaves TokenFits (state_at at).0.half (drop at text)
  left_there at =
      lexes_come TokenFits text spelled.wide.0 spelled.wide.1 (tokens_fit spelled.wide.0 is spelled.wide.2 spelled.limits) Start
      (take at text) (drop at text) [] (state_at at).0 (sym (take-append-drop at text)) (state_at at).1

  no_scalar : (at : ℕ) → BeginsScalar text at → BeginsExcessInteger (drop at text) → ⊥
  no_scalar at begins excess =
      let b = state_at at in
      let gap = scalar_gap b.0.half b.0.place (scalar_there text at b.0 b.1 begins) in
      let left : Leaves TokenFits Gap (drop at text) = subst (λ (h : Half). Leaves TokenFits h (drop at text)) gap (left_there at) in
      no_excess_integer (drop at text) excess left.0 left.1 left.2

  whole_text : take (length text) text ≡ text
  whole_text = take_all (length text) text (omega arith)

  no_number : (at : ℕ) → Applies text (NumberRange at) → ⊥
  no_number at applies =
      covers_number text (length text) (omega arith) None (whole wide) tt
      (λ n stands. no_scalar n (subst (λ (cs : List ℕ). BeginsScalar cs n) whole_text stands.begins)
      (subst (λ (cs : List ℕ). BeginsExcessInteger (drop n cs)) whole_text stands.stands)) (NumberRange at) (omega arith) (omega arith) applies

  ends : (f : AfterWalk) × (walked text ≡ Some f)
  ends = front_walked text ([], subst (λ (cs : List ℕ). Wide cs) (sym (append-nil text)) wide)

  were_all : WereWithin ends.0.begun
  were_all = subst WereWithin (sym (events_here text ends.0 ends.1 is spelled.wide)) (were_within is spelled.limits)

  walk_rest : (at : ℕ) → walk_from (Some (state_at at).0) (drop at text) ≡ Some ends.0
  walk_rest at =
      sym (walk-append (Some start) (take at text) (drop at text) ∙ ap (λ (b : Option AfterWalk). walk_from b (drop at text)) (state_at at).1)
      ∙ ap (λ (cs : List ℕ). walked cs) (take-append-drop at text) ∙ ends.1

  no_parts : (at : ℕ) → Applies text (TooMany at) → ⊥
  no_parts at applies =
      let within : at < length text = omega (arith, too_many_before text applies.0 at applies.2, goes_within text applies.0 applies.1) in
      let b = state_at at in
      let char = char_there text at within in
      let on = steps_on b.0 (slice_index text at) char.0 ends.0 (subst (λ (cs : List ℕ). walk_from (Some b.0) cs ≡ Some ends.0) char.1 (walk_rest at)) in
      let n : Counts = record { declarations = declarations_in b.0.begun; properties = properties_in b.0.begun; elements = elements_in b.0.begun } in
      let were : WereWithin (tally on.next.begun b.0.begun) = were_before char.0 on.next.half on.next.place (tally on.next.begun b.0.begun) ends.0 on.on were_all in
      elim (too_many_told text at b.0 b.1 n (record { declarations = refl; properties = refl; elements = refl }) on.next on.is applies.0 applies.2) [
        | inl excess ↦ no_excess on.next.begun n b.0.begun (record { declarations = refl; properties = refl; elements = refl }) were excess
        | inr long ↦ no_long_name b.0.half b.0.place (drop at text) long.name long.rest long.begins (left_there at) long.stands long.long
      ]

  pub none_applies : (refusal : MofError) → Applies text refusal → ⊥
  none_applies TooLong applies = applies
  none_applies (Text at) applies = applies
  none_applies Memory applies = applies
  none_applies (Syntax at) applies = applies.outside wide
  none_applies (OutOfProfile at what) applies = applies.1.outside wide
  none_applies (NumberRange at) applies = no_number at applies
  none_applies (TooMany at) applies = no_parts at applies

-- a refusal of the characters of bytes that are read
text_not_refused : (bytes : List ℕ) (is : List Instance) (refusal : MofError) → Reads bytes is → RefusesText bytes refusal → ⊥
text_not_refused bytes is refusal read refused =
    none_applies refused.text is (subst (λ (cs : List ℕ). Spells cs is) (one_text bytes read.text refused.text read.decoded refused.decoded) read.spelled) refusal refused.wins.applies

not_refused : (bytes : List ℕ) (is : List Instance) (refusal : MofError) → refusal ≢ Memory → Reads bytes is → Refuses bytes refusal → ⊥
not_refused bytes is TooLong caused read refused = reads_not_long bytes is read refused
not_refused bytes is (Text at) caused read refused = reads_no_fault bytes is at read refused
not_refused bytes is Memory caused read refused = caused refl
not_refused bytes is (Syntax at) caused read refused = text_not_refused bytes is (Syntax at) read refused
not_refused bytes is (OutOfProfile at what) caused read refused = text_not_refused bytes is (OutOfProfile at what) read refused
not_refused bytes is (NumberRange at) caused read refused = text_not_refused bytes is (NumberRange at) read refused
not_refused bytes is (TooMany at) caused read refused = text_not_refused bytes is (TooMany at) read refused

pub read_not_refused : WhatIsReadIsNotRefused
read_not_refused = record {
  characters = λ chars is refusal spelled applies. none_applies chars is spelled refusal applies;
  bytes = not_refused;
}
