-- At the places that only marks lead to no token is half read.
use Rattle.std.proofs.Common.{◌≡◌, ℕ, zero, suc, ◌+◌, ◌*◌, Bool, true, false, cond, List, [], ◌∷◌, Option, Some, None, is_some, drop, refl, sym, ◌∙◌, subst}
use Rattle.std.specs.Prelude.{◌==◌}
use Rattle.std.specs.Char.{digit_value, to_ascii_lowercase}
use Rattle.mof_values.specs.Ident.{is_first, is_next}
use Rattle.mof_syntax.specs.Characters.{digit_of, is_x, is_b}
use Rattle.mof_syntax.specs.Strings.{short_escape}
use Rattle.mof_codec.specs.declared.machine.state.Keyword.{Keyword}
use Rattle.mof_codec.specs.declared.machine.state.Keyword.TheVariants as keywords
use Rattle.mof_codec.specs.declared.machine.state.Place.{Place}
use Rattle.mof_codec.specs.declared.machine.state.Place.TheVariants.{Start, AfterInstance, AfterOf, AfterClass, AfterAs, AfterAlias, Body, AfterBody, AfterName, AfterEquals, AfterStrings, AfterValue, InArray, AfterComma, AfterElementStrings, AfterElement}
use Rattle.mof_codec.specs.declared.machine.state.Numeral.{Numeral}
use Rattle.mof_codec.specs.declared.machine.state.Numeral.TheVariants as numerals
use Rattle.mof_codec.specs.declared.machine.characters.Kind.{Kind}
use Rattle.mof_codec.specs.declared.machine.characters.Kind.TheVariants as kinds
use Rattle.mof_codec.specs.declared.machine.state.Half.{Half}
use Rattle.mof_codec.specs.declared.machine.state.Half.TheVariants as halves
use Rattle.mof_codec.specs.declared.machine.state.State.{State}
use Rattle.mof_codec.specs.declared.machine.state.Event.{Event}
use Rattle.mof_codec.specs.declared.machine.state.Event.TheVariants as events
use Rattle.mof_codec.specs.Machine.{letters, head_of, is_no_char, go, begin, gapped, opened, keyed, number_begun, value_word, scalar_begun, numbered, quoted, key_on, ended, step, kind_of}
use Rattle.mof_codec.specs.Walked.{AfterWalk, moved, walk_from, start, walked}
use Rattle.mof_codec.proofs.Walking.{none_stays}

-- the places that only marks lead to, and the start
abbrev pub marked_place : Place → Bool
marked_place Start = true
marked_place Body = true
marked_place AfterEquals = true
marked_place InArray = true
marked_place AfterComma = true
marked_place p = false

abbrev pub is_separator : Half → Bool
is_separator halves.Gap = true
is_separator halves.Slash = true
is_separator halves.Line = true
is_separator halves.Block = true
is_separator halves.Star = true
is_separator h = false

abbrev pub Sane : Half → Place → Type 0
Sane h p = marked_place p ≡ true → is_separator h ≡ true

abbrev pub Every : Option State → Type 0
Every None = Unit {0}
Every (Some s) = Sane s.half s.place

either : (b : Bool) (x y : Option State) → Every x → Every y → Every (cond b x y)
either true x y f g = f
either false x y f g = g

module _ (p : Place) (unmarked : marked_place p ≡ true → ⊥) (c : ℕ) where
  first : (h : Half) → Sane h p
  first h e = absurd (unmarked e)

  keyed_sane : (o : Option ℕ) (b : Event) (k : Keyword) (n : ℕ) → Every (keyed o b k n p c)
  keyed_sane None b k n = tt
  keyed_sane (Some l) b k n = either (to_ascii_lowercase c == l) _ _ (λ e. absurd (unmarked e)) tt

  number_sane : (b : Event) → Every (number_begun b p c)
  number_sane b = either (c == 48) _ _ (λ e. absurd (unmarked e)) (either (c == 49) _ _ (λ e. absurd (unmarked e)) (either (digit_of 10 c) _ _ (λ e. absurd (unmarked e)) tt))

  value_sane : (b : Event) → Every (value_word b p c)
  value_sane b = either (to_ascii_lowercase c == 116) _ _ (λ e. absurd (unmarked e)) (either (to_ascii_lowercase c == 102) _ _ (λ e. absurd (unmarked e)) (either (to_ascii_lowercase c == 110) _ _ (λ e. absurd (unmarked e)) tt))

scalar_sane : (b : Event) (s p : Place) → (marked_place s ≡ true → ⊥) → (marked_place p ≡ true → ⊥) → (k : Kind) (c : ℕ) → Every (scalar_begun b s p k c)
scalar_sane b s p ns np kinds.Letter c = value_sane p np c b
scalar_sane b s p ns np kinds.Digit c = number_sane p np c b
scalar_sane b s p ns np kinds.Sign c = λ e. absurd (np e)
scalar_sane b s p ns np kinds.Quote c = λ e. absurd (ns e)
scalar_sane b s p ns np kinds.Dollar c = λ e. absurd (np e)
scalar_sane b s p ns np k c = tt

differ : false ≡ true → ⊥
differ e = cc

opened_sane : (p : Place) (k : Kind) (c : ℕ) → Every (opened p k c)
opened_sane Start kinds.Letter c = keyed_sane AfterInstance differ c (head_of (letters keywords.Instance)) events.Declaration keywords.Instance 0
opened_sane AfterInstance kinds.Letter c = keyed_sane AfterOf differ c (head_of (letters keywords.Of)) events.Quiet keywords.Of 0
opened_sane AfterOf kinds.Letter c = λ e. absurd (differ e)
opened_sane AfterClass kinds.LeftBrace c = λ e. refl
opened_sane AfterClass kinds.Letter c = keyed_sane AfterAs differ c (head_of (letters keywords.As)) events.Quiet keywords.As 0
opened_sane AfterAs kinds.Dollar c = λ e. absurd (differ e)
opened_sane AfterAlias kinds.LeftBrace c = λ e. refl
opened_sane Body kinds.RightBrace c = λ e. refl
opened_sane Body kinds.Letter c = λ e. absurd (differ e)
opened_sane AfterBody kinds.Semicolon c = λ e. refl
opened_sane AfterName kinds.EqualsSign c = λ e. refl
opened_sane AfterEquals kinds.LeftBrace c = λ e. refl
opened_sane AfterEquals k c = scalar_sane events.Quiet AfterStrings AfterValue differ differ k c
opened_sane AfterStrings kinds.Quote c = λ e. absurd (differ e)
opened_sane AfterStrings kinds.Semicolon c = λ e. refl
opened_sane AfterValue kinds.Semicolon c = λ e. refl
opened_sane InArray kinds.RightBrace c = λ e. refl
opened_sane InArray k c = scalar_sane events.Element AfterElementStrings AfterElement differ differ k c
opened_sane AfterComma k c = scalar_sane events.Element AfterElementStrings AfterElement differ differ k c
opened_sane AfterElementStrings kinds.Quote c = λ e. absurd (differ e)
opened_sane AfterElementStrings kinds.Comma c = λ e. refl
opened_sane AfterElementStrings kinds.RightBrace c = λ e. refl
opened_sane AfterElement kinds.Comma c = λ e. refl
opened_sane AfterElement kinds.RightBrace c = λ e. refl
opened_sane p k c = tt

gapped_sane : (p : Place) (k : Kind) (c : ℕ) → Every (gapped p k c)
gapped_sane p kinds.Blank c = λ e. refl
gapped_sane p kinds.Slash c = λ e. refl
gapped_sane p k c = opened_sane p k c

begin_sane : (p : Place) (c : ℕ) → Every (begin p c)
unfolding begin
begin_sane p c = gapped_sane p (kind_of c) c

ended_sane : (p : Place) (c : ℕ) → Every (ended p c)
ended_sane p c = either (is_next c) _ _ tt (begin_sane p c)

-- a token that is half read stays at its place
numbered_sane : (f : Numeral) (p : Place) (c : ℕ) → (marked_place p ≡ true → ⊥) → Every (numbered f p c)
numbered_sane numerals.Sign p c n = number_sane p n c events.Quiet
numbered_sane numerals.Zero p c n = either (is_x c) _ _ (λ e. absurd (n e)) (either (digit_of 2 c) _ _ (λ e. absurd (n e)) (either (digit_of 8 c) _ _ (λ e. absurd (n e)) (either (is_b c) _ _ (λ e. absurd (n e)) (ended_sane p c))))
numbered_sane numerals.ZeroBits p c n = either (digit_of 2 c) _ _ (λ e. absurd (n e)) (either (digit_of 8 c) _ _ (λ e. absurd (n e)) (either (is_b c) _ _ (λ e. absurd (n e)) (ended_sane p c)))
numbered_sane numerals.Octal p c n = either (digit_of 8 c) _ _ (λ e. absurd (n e)) (ended_sane p c)
numbered_sane numerals.Bits p c n = either (digit_of 2 c) _ _ (λ e. absurd (n e)) (either (digit_of 10 c) _ _ (λ e. absurd (n e)) (either (is_b c) _ _ (λ e. absurd (n e)) (ended_sane p c)))
numbered_sane numerals.Decimal p c n = either (digit_of 10 c) _ _ (λ e. absurd (n e)) (ended_sane p c)
numbered_sane numerals.Prefix p c n = either (digit_of 16 c) _ _ (λ e. absurd (n e)) tt
numbered_sane numerals.Hexadecimal p c n = either (digit_of 16 c) _ _ (λ e. absurd (n e)) (ended_sane p c)
numbered_sane numerals.Binary p c n = ended_sane p c

quoted_sane : (p : Place) (c : ℕ) → (marked_place p ≡ true → ⊥) → Every (quoted p c)
quoted_sane p c n = either (c == 34) _ _ (λ e. absurd (n e)) (either (c == 92) _ _ (λ e. absurd (n e)) (λ e. absurd (n e)))

key_sane : (o : Option ℕ) (k : Keyword) (m : ℕ) (p : Place) (c : ℕ) → (marked_place p ≡ true → ⊥) → Every (key_on o k m p c)
key_sane None k m p c n = ended_sane p c
key_sane (Some l) k m p c n = keyed_sane p n c (Some l) events.Quiet k m

pub step_sane : (h : Half) (p : Place) (c : ℕ) → Sane h p → Every (step h p c)
step_sane halves.Gap p c s = begin_sane p c
step_sane halves.Slash p c s = either (c == 47) _ _ (λ e. refl) (either (c == 42) _ _ (λ e. refl) tt)
step_sane halves.Line p c s = either (c == 10) _ _ (λ e. refl) (λ e. refl)
step_sane halves.Block p c s = either (c == 42) _ _ (λ e. refl) (λ e. refl)
step_sane halves.Star p c s = either (c == 47) _ _ (λ e. refl) (either (c == 42) _ _ (λ e. refl) (λ e. refl))
step_sane halves.Name p c s = either (is_next c) _ _ s (begin_sane p c)
step_sane halves.Alias p c s = either (is_first c) _ _ s tt
step_sane (halves.Key k m) p c s = key_sane (head_of (drop m (letters k))) k m p c (λ e. differ (s e))
step_sane (halves.Integer f) p c s = numbered_sane f p c (λ e. differ (s e))
step_sane halves.Literal p c s = quoted_sane p c (λ e. differ (s e))
step_sane halves.Escape p c s = either (is_some (short_escape c)) _ _ s (either (is_x c) _ _ s tt)
step_sane halves.EscapeX p c s = either (digit_of 16 c) _ _ s tt
step_sane (halves.Digits zero v) p c s = quoted_sane p c (λ e. differ (s e))
step_sane (halves.Digits (suc n) v) p c s = either (digit_of 16 c) _ _ (either (is_no_char (v * 16 + digit_value c)) None (go p (halves.Digits n (v * 16 + digit_value c))) tt s) (quoted_sane p c (λ e. differ (s e)))

next_sane : (o : Option State) (begun : List Event) (cs : List ℕ) (b : AfterWalk) → Every o
    → ((c : AfterWalk) → Sane c.half c.place → walk_from (Some c) cs ≡ Some b → Sane b.half b.place) → walk_from (moved o begun) cs ≡ Some b → Sane b.half b.place
next_sane None begun cs b every f is = absurd (none_some b (sym (none_stays cs) ∙ is))
  where
    none_some : (b : AfterWalk) → None ≡ Some b → ⊥
    none_some b e = cc
next_sane (Some s) begun cs b every f is = f _ every is

walk_sane : (cs : List ℕ) (from to : AfterWalk) → Sane from.half from.place → walk_from (Some from) cs ≡ Some to → Sane to.half to.place
walk_sane [] from to sane is = subst (λ (b : AfterWalk). Sane b.half b.place) (same from to is) sane
  where
    same : (a b : AfterWalk) → Some a ≡ Some b → a ≡ b
    same a b e = cc
walk_sane (c ∷ cs) from to sane is = next_sane (step from.half from.place c) from.begun cs to (step_sane from.half from.place c sane) (λ b s e. walk_sane cs b to s e) is

pub walked_sane : (front : List ℕ) (b : AfterWalk) → walked front ≡ Some b → Sane b.half b.place
walked_sane front b is = walk_sane front start b (λ e. refl) is
