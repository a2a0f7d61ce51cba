-- What may stand at a place is what the machine takes there.
use Rattle.std.proofs.Common.{◌≡◌, ◌⊎◌, inl, inr, ℕ, zero, suc, Bool, true, false, List, [], ◌∷◌, ◌++◌, Option, Some, None, drop, take, refl, sym, ◌∙◌, ap, subst, arith, append_assoc}
use Rattle.std.specs.Prelude.{nat_le, ◌==◌, ◌&&◌}
use Rattle.std.proofs.lemmas.Bool.{false≢true}
use Rattle.std.proofs.lemmas.Bool.Decides.{nat_tests}
use Rattle.mof_syntax.specs.Fronts.{IsFront, MayStand, BeginsDeclaration, BeginsScalar, BeginsIdentifier}
use Rattle.mof_codec.specs.declared.machine.state.Keyword.{Keyword}
use Rattle.mof_codec.specs.declared.machine.state.Keyword.TheVariants as keywords
use Rattle.mof_codec.specs.declared.machine.state.Place.{Place}
use Rattle.mof_codec.specs.declared.machine.state.Place.TheVariants.{Start, AfterOf, Body, AfterEquals, InArray, AfterComma}
use Rattle.mof_codec.specs.declared.machine.state.Numeral.TheVariants as numerals
use Rattle.mof_codec.specs.declared.machine.state.Half.{Half}
use Rattle.mof_codec.specs.declared.machine.state.Half.TheVariants as halves
use Rattle.mof_codec.specs.declared.machine.state.State.{State}
use Rattle.mof_codec.specs.declared.machine.state.Event.{Event}
use Rattle.mof_codec.specs.Machine.{letters, begin, step, is_whole}
use Rattle.mof_codec.specs.Walked.{tally, AfterWalk, moved, walk_from, start, walked}
use Rattle.mof_codec.specs.Beginnings.{scalar_place, name_place, start_place, begins_declaration, begins_scalar, begins_identifier}
use Rattle.mof_syntax.proofs.Bodies.{and_left, and_right}
use Rattle.mof_codec.proofs.Runs.{Next, Ends, Runs, Any}
use Rattle.mof_codec.proofs.Walking.{walk-append, only_so}
use Rattle.mof_codec.proofs.StepsBack.{small, small_letters, small_dropped}
use Rattle.mof_codec.proofs.Fronts.{is_front, wide_runs, whole_here, whole_there}
use Rattle.mof_codec.proofs.Sane.{Sane, is_separator, marked_place, walked_sane}

-- the machine takes these characters
abbrev pub Takes : List ℕ → Half → Place → Type 0
Takes [] h p = Unit {0}
Takes (c ∷ cs) h p = Next (step h p c) (λ k q e. Takes cs k q)

next_takes : (s : Option State) (cs rest : List ℕ) (acc : List Event) → ((h : Half) (p : Place) (a : List Event) → Runs Any (cs ++ rest) h p a → Takes cs h p)
    → Next s (λ k q e. Runs Any (cs ++ rest) k q (tally e acc)) → Next s (λ k q e. Takes cs k q)
next_takes None cs rest acc f r = r
next_takes (Some s) cs rest acc f r = f s.half s.place (tally s.begun acc) r

takes_front : (cs rest : List ℕ) (h : Half) (p : Place) (acc : List Event) → Runs Any (cs ++ rest) h p acc → Takes cs h p
takes_front [] rest h p acc r = tt
takes_front (c ∷ cs) rest h p acc r = next_takes (step h p c) cs rest acc (takes_front cs rest) r

next_walk : (s : Option State) (cs : List ℕ) (acc : List Event) → ((h : Half) (p : Place) (a : List Event) → Takes cs h p → (b : AfterWalk) × (walk_from (Some (record { half = h; place = p; begun = a })) cs ≡ Some b))
    → Next s (λ k q e. Takes cs k q) → (b : AfterWalk) × (walk_from (moved s acc) cs ≡ Some b)
next_walk None cs acc f t = absurd t
next_walk (Some s) cs acc f t = f s.half s.place (tally s.begun acc) t

takes_walk : (cs : List ℕ) (h : Half) (p : Place) (acc : List Event) → Takes cs h p → (b : AfterWalk) × (walk_from (Some (record { half = h; place = p; begun = acc })) cs ≡ Some b)
takes_walk [] h p acc t = (_, refl)
takes_walk (c ∷ cs) h p acc t = next_walk (step h p c) cs acc (takes_walk cs) t

-- the machine comes through every front
pub front_walked : (front : List ℕ) → IsFront front → (b : AfterWalk) × (walked front ≡ Some b)
front_walked front f = takes_walk front halves.Gap Start [] (takes_front front f.0 halves.Gap Start [] (wide_runs (front ++ f.0) f.1))

module _ (text : List ℕ) (at : ℕ) (b : AfterWalk) (is : walked (take at text) ≡ Some b) where
  pub may_takes : (cs : List ℕ) → MayStand text at cs → Takes cs b.half b.place
  may_takes cs f =
      takes_front cs f.0 b.half b.place b.begun
      (only_so (Ends Any) (take at text) (cs ++ f.0) b is (subst (λ (x : List ℕ). Runs Any x halves.Gap Start []) (append_assoc (take at text) cs f.0) (wide_runs ((take at text ++ cs) ++ f.0) f.1)))

  pub takes_may : (cs : List ℕ) → Takes cs b.half b.place → MayStand text at cs
  takes_may cs t =
      let more = takes_walk cs b.half b.place b.begun t in
      is_front (take at text ++ cs) more.0 (walk-append (Some start) (take at text) cs ∙ ap (λ (x : Option AfterWalk). walk_from x cs) is ∙ more.1)

-- declarations

abbrev TakesNo : ℕ → Half → Place → Type 0
TakesNo c h p = Takes (c ∷ []) h p → ⊥

start_takes_no : (p : Place) → start_place p ≡ true → TakesNo 35 halves.Gap p
unfolding begin
start_takes_no Start e = λ t. t
start_takes_no p e = absurd cc

gap_of : (h : Half) → is_separator h ≡ true → is_whole h ≡ true → (h ≡ halves.Line → ⊥) → h ≡ halves.Gap
gap_of halves.Gap s w n = refl
gap_of halves.Line s w n = absurd (n refl)
gap_of h s w n = absurd cc

pub start_is : (p : Place) → start_place p ≡ true → p ≡ Start
start_is Start e = refl
start_is p e = absurd cc

pub declaration_parts : (h : Half) (p : Place) → begins_declaration h p ≡ true → (h ≡ halves.Gap) × (p ≡ Start)
declaration_parts halves.Gap p e = (refl, start_is p e)
declaration_parts h p e = absurd cc

line_takes : (h : Half) (p : Place) → TakesNo 35 h p → h ≡ halves.Line → ⊥
line_takes h p n e = n (subst (λ (x : Half). Takes (35 ∷ []) x p) (sym e) tt)

module _ (text : List ℕ) (at : ℕ) (b : AfterWalk) (is : walked (take at text) ≡ Some b) where
  pub declaration_begins : begins_declaration b.half b.place ≡ true → BeginsDeclaration text at
  declaration_begins e =
      let parts = declaration_parts b.half b.place e in
      record {
        whole = whole_here (take at text) b is (parts.1, subst (λ (x : Half). is_whole x ≡ true) (sym parts.0) refl);
        outside = λ m. start_takes_no b.place (ap start_place parts.1) (subst (λ (x : Half). Takes (35 ∷ []) x b.place) parts.0 (may_takes text at b is (35 ∷ []) m));
      }

  pub begins_there : BeginsDeclaration text at → begins_declaration b.half b.place ≡ true
  begins_there d =
      let w = whole_there (take at text) b is d.whole in
      let gap = gap_of b.half (walked_sane (take at text) b is (ap marked_place w.0)) w.1 (line_takes b.half b.place (λ t. d.outside (takes_may text at b is (35 ∷ []) t))) in
      ap (λ (x : Half). begins_declaration x b.place) gap ∙ ap start_place w.0

-- single values

abbrev TakesScalar : Half → Place → Type 0
TakesScalar h p = (Takes (36 ∷ 65 ∷ 59 ∷ []) h p ⊎ Takes (36 ∷ 65 ∷ 44 ∷ []) h p) × TakesNo 35 h p

gap_takes : (p : Place) → scalar_place p ≡ true → TakesScalar halves.Gap p
unfolding begin
gap_takes AfterEquals e = (inl tt, λ x. x)
gap_takes InArray e = (inr tt, λ x. x)
gap_takes AfterComma e = (inr tt, λ x. x)
gap_takes p e = absurd cc

either_way : {A : Type 0} → A ⊎ A → A
either_way (inl a) = a
either_way (inr a) = a

takes_gap : (p : Place) → TakesScalar halves.Gap p → scalar_place p ≡ true
unfolding begin
takes_gap AfterEquals t = refl
takes_gap InArray t = refl
takes_gap AfterComma t = refl
takes_gap p t = absurd (either_way t.0)

abbrev at_scalar : Half → Place → Bool
at_scalar halves.Line p = false
at_scalar h p = is_whole h && scalar_place p

at_takes : (h : Half) (p : Place) → TakesScalar h p → at_scalar h p ≡ true
at_takes halves.Gap p t = takes_gap p t
at_takes halves.Name p t = takes_gap p t
at_takes (halves.Key k n) p t = from (drop n (letters k)) refl t
  where
    no_dollar : (l : ℕ) → nat_le 97 l ≡ true → (36 == l) ≡ false
    no_dollar l h = grind (arith, nat_tests)

    from : (ls : List ℕ) → drop n (letters k) ≡ ls → TakesScalar (halves.Key k n) p → at_scalar (halves.Key k n) p ≡ true
    from [] e t = rw e (takes_gap p (rw e at t))
    from (l ∷ ls) e t =
        let small_here = subst (λ (x : List ℕ). small x ≡ true) e (small_dropped n (letters k) (small_letters k)) in
        let other = no_dollar l (and_left (nat_le 97 l) (nat_le l 122 && small ls) small_here) in
        absurd (either_way (rw (e, other) at t.0))
at_takes (halves.Integer numerals.Zero) p t = takes_gap p t
at_takes (halves.Integer numerals.ZeroBits) p t = takes_gap p t
at_takes (halves.Integer numerals.Octal) p t = takes_gap p t
at_takes (halves.Integer numerals.Bits) p t = takes_gap p t
at_takes (halves.Integer numerals.Decimal) p t = takes_gap p t
at_takes (halves.Integer numerals.Hexadecimal) p t = takes_gap p t
at_takes (halves.Integer numerals.Binary) p t = takes_gap p t
at_takes (halves.Integer f) p t = absurd (either_way t.0)
at_takes halves.Slash p t = absurd (either_way t.0)
at_takes halves.Alias p t = absurd (either_way t.0)
at_takes halves.Escape p t = absurd (either_way t.0)
at_takes halves.EscapeX p t = absurd (either_way t.0)
at_takes (halves.Digits zero v) p t = absurd (t.1 tt)
at_takes (halves.Digits (suc n) v) p t = absurd (t.1 tt)
at_takes h p t = absurd (t.1 tt)

pub scalar_marked : (p : Place) → scalar_place p ≡ true → marked_place p ≡ true
scalar_marked AfterEquals e = refl
scalar_marked InArray e = refl
scalar_marked AfterComma e = refl
scalar_marked p e = absurd cc

-- where no token is half read it is the gap
gap_scalar : (h : Half) (p : Place) → Sane h p → at_scalar h p ≡ true → begins_scalar h p ≡ true
gap_scalar halves.Gap p s e = e
gap_scalar halves.Line p s e = absurd (false≢true e)
gap_scalar halves.Name p s e = absurd (false≢true (s (scalar_marked p e)))
gap_scalar (halves.Key k n) p s e = absurd (false≢true (s (scalar_marked p (and_right (is_whole (halves.Key k n)) (scalar_place p) e))))
gap_scalar (halves.Integer f) p s e = absurd (false≢true (s (scalar_marked p (and_right (is_whole (halves.Integer f)) (scalar_place p) e))))
gap_scalar h p s e = absurd (false≢true e)

scalar_parts : (h : Half) (p : Place) → begins_scalar h p ≡ true → (h ≡ halves.Gap) × (scalar_place p ≡ true)
scalar_parts halves.Gap p e = (refl, e)
scalar_parts h p e = absurd (false≢true e)

module _ (text : List ℕ) (at : ℕ) (b : AfterWalk) (is : walked (take at text) ≡ Some b) where
  pub scalar_begins : begins_scalar b.half b.place ≡ true → BeginsScalar text at
  scalar_begins e =
      let parts = scalar_parts b.half b.place e in
      let t = subst (λ (x : Half). TakesScalar x b.place) (sym parts.0) (gap_takes b.place parts.1) in
      record {
        scalar = elim t.0 [
          | inl a ↦ inl (takes_may text at b is (36 ∷ 65 ∷ 59 ∷ []) a)
          | inr c ↦ inr (takes_may text at b is (36 ∷ 65 ∷ 44 ∷ []) c)
        ];
        outside = λ m. t.1 (may_takes text at b is (35 ∷ []) m);
      }

  pub scalar_there : BeginsScalar text at → begins_scalar b.half b.place ≡ true
  scalar_there s = gap_scalar b.half b.place (walked_sane (take at text) b is) (at_takes b.half b.place (
    elim s.scalar [
      | inl a ↦ inl (may_takes text at b is (36 ∷ 65 ∷ 59 ∷ []) a)
      | inr c ↦ inr (may_takes text at b is (36 ∷ 65 ∷ 44 ∷ []) c)
    ],
    λ t. s.outside (takes_may text at b is (35 ∷ []) t),
  ))

-- identifiers

record TakesName (h : Half) (p : Place) : Type 0 where
  letter : Takes (122 ∷ []) h p
  first : TakesNo 49 h p
  outside : TakesNo 35 h p

gap_names : (p : Place) → name_place p ≡ true → TakesName halves.Gap p
unfolding begin
gap_names AfterOf e = record { letter = tt; first = λ x. x; outside = λ x. x }
gap_names Body e = record { letter = tt; first = λ x. x; outside = λ x. x }
gap_names p e = absurd cc

names_take : (h : Half) (p : Place) → begins_identifier h p ≡ true → TakesName h p
names_take halves.Gap p e = gap_names p e
names_take halves.Alias p e = record { letter = tt; first = λ x. x; outside = λ x. x }
names_take h p e = absurd (false≢true e)

names_gap : (p : Place) → TakesName halves.Gap p → name_place p ≡ true
unfolding begin
names_gap AfterOf t = refl
names_gap Body t = refl
names_gap p t = absurd t.letter

-- no keyword has a z
abbrev without_z : List ℕ → Bool
without_z [] = true
without_z (l ∷ ls) = nat_le l 121 && without_z ls

letters_without_z : (k : Keyword) → without_z (letters k) ≡ true
letters_without_z keywords.Instance = refl
letters_without_z keywords.Of = refl
letters_without_z keywords.As = refl
letters_without_z keywords.True = refl
letters_without_z keywords.False = refl
letters_without_z keywords.Null = refl

dropped_without_z : (n : ℕ) (ls : List ℕ) → without_z ls ≡ true → without_z (drop n ls) ≡ true
dropped_without_z zero ls h = h
dropped_without_z (suc n) [] h = refl
dropped_without_z (suc n) (l ∷ ls) h = dropped_without_z n ls (and_right (nat_le l 121) (without_z ls) h)

take_names : (h : Half) (p : Place) → TakesName h p → begins_identifier h p ≡ true
take_names halves.Gap p t = names_gap p t
take_names halves.Alias p t = refl
take_names (halves.Key k n) p t = absurd (from (drop n (letters k)) refl t.letter)
  where
    no_z : (l : ℕ) → nat_le l 121 ≡ true → (122 == l) ≡ false
    no_z l h = grind (arith, nat_tests)

    from : (ls : List ℕ) → drop n (letters k) ≡ ls → Takes (122 ∷ []) (halves.Key k n) p → ⊥
    from [] e t = rw e at t
    from (l ∷ ls) e t =
        let few = subst (λ (x : List ℕ). without_z x ≡ true) e (dropped_without_z n (letters k) (letters_without_z k)) in
        rw (e, no_z l (and_left (nat_le l 121) (without_z ls) few)) at t
take_names (halves.Integer numerals.Sign) p t = absurd t.letter
take_names (halves.Integer numerals.Zero) p t = absurd t.letter
take_names (halves.Integer numerals.ZeroBits) p t = absurd t.letter
take_names (halves.Integer numerals.Octal) p t = absurd t.letter
take_names (halves.Integer numerals.Bits) p t = absurd t.letter
take_names (halves.Integer numerals.Decimal) p t = absurd t.letter
take_names (halves.Integer numerals.Prefix) p t = absurd t.letter
take_names (halves.Integer numerals.Hexadecimal) p t = absurd t.letter
take_names (halves.Integer numerals.Binary) p t = absurd t.letter
take_names halves.Name p t = absurd (t.first tt)
take_names halves.Slash p t = absurd t.letter
take_names halves.Escape p t = absurd t.letter
take_names halves.EscapeX p t = absurd t.letter
take_names (halves.Digits zero v) p t = absurd (t.outside tt)
take_names (halves.Digits (suc n) v) p t = absurd (t.outside tt)
take_names h p t = absurd (t.outside tt)

module _ (text : List ℕ) (at : ℕ) (b : AfterWalk) (is : walked (take at text) ≡ Some b) where
  pub identifier_begins : begins_identifier b.half b.place ≡ true → BeginsIdentifier text at
  identifier_begins e =
      let t = names_take b.half b.place e in
      record {
        letter = takes_may text at b is (122 ∷ []) t.letter;
        first = λ m. t.first (may_takes text at b is (49 ∷ []) m);
        outside = λ m. t.outside (may_takes text at b is (35 ∷ []) m);
      }

  pub identifier_there : BeginsIdentifier text at → begins_identifier b.half b.place ≡ true
  identifier_there i = take_names b.half b.place (record {
    letter = may_takes text at b is (122 ∷ []) i.letter;
    first = λ t. i.first (takes_may text at b is (49 ∷ []) t);
    outside = λ t. i.outside (takes_may text at b is (35 ∷ []) t);
  })
