-- Where the machine begins a declaration, a property or an element.
use Rattle.std.proofs.Common.{◌≡◌, ◌⊎◌, inl, inr, ℕ, zero, suc, ◌+◌, ◌*◌, Bool, true, false, cond, Option, Some, None, is_some, drop, refl, sym, ◌∙◌, ap, subst, arith}
use Rattle.std.specs.Prelude.{◌==◌, ◌||◌}
use Rattle.std.proofs.lemmas.Bool.{eqb-true, false≢true}
use Rattle.std.proofs.lemmas.Bool.Decides.{nat_tests}
use Rattle.std.specs.Char.{digit_value, to_ascii_lowercase}
use Rattle.mof_values.specs.Ident.{is_first, is_next}
use Rattle.mof_syntax.specs.Characters.{slash, right_brace, is_blank, digit_of, is_x, is_b, is_sign}
use Rattle.mof_syntax.specs.Strings.{short_escape}
use Rattle.mof_codec.specs.declared.machine.state.Keyword.{Keyword}
use Rattle.mof_codec.specs.declared.machine.state.Keyword.TheVariants as keywords
use Rattle.mof_codec.specs.declared.machine.state.Place.{Place}
use Rattle.mof_codec.specs.declared.machine.state.Place.TheVariants.{Start, AfterInstance, AfterOf, AfterClass, AfterAs, AfterAlias, Body, AfterBody, AfterName, AfterEquals, AfterStrings, AfterValue, InArray, AfterComma, AfterElementStrings, AfterElement}
use Rattle.mof_codec.specs.declared.machine.state.Numeral.{Numeral}
use Rattle.mof_codec.specs.declared.machine.state.Numeral.TheVariants as numerals
use Rattle.mof_codec.specs.declared.machine.characters.Kind.{Kind}
use Rattle.mof_codec.specs.declared.machine.characters.Kind.TheVariants as kinds
use Rattle.mof_codec.specs.declared.machine.state.Half.{Half}
use Rattle.mof_codec.specs.declared.machine.state.Half.TheVariants as halves
use Rattle.mof_codec.specs.declared.machine.state.State.{State}
use Rattle.mof_codec.specs.declared.machine.state.Event.{Event}
use Rattle.mof_codec.specs.declared.machine.state.Event.TheVariants as events
use Rattle.mof_codec.specs.Machine.{letters, head_of, is_no_char, go, begin, gapped, opened, keyed, number_begun, value_word, scalar_begun, numbered, quoted, key_on, ended, step, kind_of}
use Rattle.mof_codec.specs.Beginnings.{start_place}
use Rattle.mof_codec.proofs.Runs.{Says, kind_says}
use Rattle.mof_codec.proofs.Forward.{letter_begins}
use Rattle.mof_codec.proofs.Sane.{Sane, marked_place}

-- the places of elements
abbrev pub element_place : Place → Bool
element_place InArray = true
element_place AfterComma = true
element_place p = false

abbrev pub body_place : Place → Bool
body_place Body = true
body_place p = false

-- neither a separator nor the brace that closes an array
abbrev pub is_element : ℕ → Bool
is_element c = is_blank c || c == slash || c == right_brace

-- what the event says of the place and the character, where no token is half read
abbrev TellsAt : Place → ℕ → Event → Type 0
TellsAt p c events.Quiet = Unit {0}
TellsAt p c events.Declaration = (start_place p ≡ true) × (to_ascii_lowercase c ≡ 105)
TellsAt p c events.Property = (body_place p ≡ true) × (is_first c ≡ true)
TellsAt p c events.Element = (element_place p ≡ true) × (is_element c ≡ false)

abbrev Each : (Event → Type 0) → Option State → Type 0
Each P None = Unit {0}
Each P (Some s) = P s.begun

either_each : (P : Event → Type 0) (b : Bool) (x y : Option State) → (b ≡ true → Each P x) → Each P y → Each P (cond b x y)
either_each P true x y f g = f refl
either_each P false x y f g = g

first_element : (c : ℕ) → is_first c ≡ true → is_element c ≡ false
first_element c h = grind (arith, nat_tests)

digit_element : (c : ℕ) → digit_of 10 c ≡ true → is_element c ≡ false
digit_element c h = grind (arith, nat_tests)

sign_element : (c : ℕ) → is_sign c ≡ true → is_element c ≡ false
sign_element c h = grind (arith, nat_tests)

quote_element : (c : ℕ) → c ≡ 34 → is_element c ≡ false
quote_element c h = ap is_element h

dollar_element : (c : ℕ) → c ≡ 36 → is_element c ≡ false
dollar_element c h = ap is_element h

module _ (P : Event → Type 0) (b : Event) (wanted : P b) (p : Place) (c : ℕ) where
  keyed_each : (o : Option ℕ) (k : Keyword) (n : ℕ) → Each P (keyed o b k n p c)
  keyed_each None k n = tt
  keyed_each (Some l) k n = either_each P (to_ascii_lowercase c == l) _ _ (λ e. wanted) tt

  number_each : Each P (number_begun b p c)
  number_each = either_each P (c == 48) _ _ (λ e. wanted) (either_each P (c == 49) _ _ (λ e. wanted) (either_each P (digit_of 10 c) _ _ (λ e. wanted) tt))

  value_each : Each P (value_word b p c)
  value_each = either_each P (to_ascii_lowercase c == 116) _ _ (λ e. wanted) (either_each P (to_ascii_lowercase c == 102) _ _ (λ e. wanted) (either_each P (to_ascii_lowercase c == 110) _ _ (λ e. wanted) tt))

scalar_each : (P : Event → Type 0) (b : Event) (s p : Place) (k : Kind) (c : ℕ) → Says k c → (is_element c ≡ false → P b) → Each P (scalar_begun b s p k c)
scalar_each P b s p kinds.Letter c is f = value_each P b (f (first_element c is)) p c
scalar_each P b s p kinds.Digit c is f = number_each P b (f (digit_element c is)) p c
scalar_each P b s p kinds.Sign c is f = f (sign_element c is)
scalar_each P b s p kinds.Quote c is f = f (quote_element c is)
scalar_each P b s p kinds.Dollar c is f = f (dollar_element c is)
scalar_each P b s p k c is f = tt

opened_each : (p : Place) (k : Kind) (c : ℕ) → Says k c → Each (TellsAt p c) (opened p k c)
opened_each Start kinds.Letter c is = either_each (TellsAt Start c) (to_ascii_lowercase c == 105) _ _ (λ e. (refl, eqb-true (to_ascii_lowercase c) 105 e)) tt
opened_each AfterInstance kinds.Letter c is = keyed_each (TellsAt AfterInstance c) events.Quiet tt AfterOf c (head_of (letters keywords.Of)) keywords.Of 0
opened_each AfterOf kinds.Letter c is = tt
opened_each AfterClass kinds.LeftBrace c is = tt
opened_each AfterClass kinds.Letter c is = keyed_each (TellsAt AfterClass c) events.Quiet tt AfterAs c (head_of (letters keywords.As)) keywords.As 0
opened_each AfterAs kinds.Dollar c is = tt
opened_each AfterAlias kinds.LeftBrace c is = tt
opened_each Body kinds.RightBrace c is = tt
opened_each Body kinds.Letter c is = (refl, is)
opened_each AfterBody kinds.Semicolon c is = tt
opened_each AfterName kinds.EqualsSign c is = tt
opened_each AfterEquals kinds.LeftBrace c is = tt
opened_each AfterEquals k c is = scalar_each (TellsAt AfterEquals c) events.Quiet AfterStrings AfterValue k c is (λ e. tt)
opened_each AfterStrings kinds.Quote c is = tt
opened_each AfterStrings kinds.Semicolon c is = tt
opened_each AfterValue kinds.Semicolon c is = tt
opened_each InArray kinds.RightBrace c is = tt
opened_each InArray k c is = scalar_each (TellsAt InArray c) events.Element AfterElementStrings AfterElement k c is (λ e. (refl, e))
opened_each AfterComma k c is = scalar_each (TellsAt AfterComma c) events.Element AfterElementStrings AfterElement k c is (λ e. (refl, e))
opened_each AfterElementStrings kinds.Quote c is = tt
opened_each AfterElementStrings kinds.Comma c is = tt
opened_each AfterElementStrings kinds.RightBrace c is = tt
opened_each AfterElement kinds.Comma c is = tt
opened_each AfterElement kinds.RightBrace c is = tt
opened_each p k c is = tt

gapped_each : (p : Place) (k : Kind) (c : ℕ) → Says k c → Each (TellsAt p c) (gapped p k c)
gapped_each p kinds.Blank c is = tt
gapped_each p kinds.Slash c is = tt
gapped_each p k c is = opened_each p k c is

begin_each : (p : Place) (c : ℕ) → Each (TellsAt p c) (begin p c)
unfolding begin
begin_each p c = gapped_each p (kind_of c) c (kind_says c)

-- what the event says of any state
abbrev pub TellsOf : Half → Place → ℕ → Event → Type 0
TellsOf h p c events.Quiet = Unit {0}
TellsOf h p c e = (h ≡ halves.Gap) × TellsAt p c e

start_marked : (p : Place) → start_place p ≡ true → marked_place p ≡ true
start_marked Start e = refl
start_marked p e = absurd cc

body_marked : (p : Place) → body_place p ≡ true → marked_place p ≡ true
body_marked Body e = refl
body_marked p e = absurd cc

element_marked : (p : Place) → element_place p ≡ true → marked_place p ≡ true
element_marked InArray e = refl
element_marked AfterComma e = refl
element_marked p e = absurd cc

-- where a token is half read nothing begins
module _ (h : Half) (p : Place) (c : ℕ) (sane : marked_place p ≡ true → ⊥) where
  never : (e : Event) → TellsAt p c e → TellsOf h p c e
  never events.Quiet t = tt
  never events.Declaration t = absurd (sane (start_marked p t.0))
  never events.Property t = absurd (sane (body_marked p t.0))
  never events.Element t = absurd (sane (element_marked p t.0))

  never_each : (o : Option State) → Each (TellsAt p c) o → Each (TellsOf h p c) o
  never_each None t = tt
  never_each (Some s) t = never s.begun t

  begin_never : Each (TellsOf h p c) (begin p c)
  begin_never = never_each (begin p c) (begin_each p c)

  ended_never : Each (TellsOf h p c) (ended p c)
  ended_never = either_each (TellsOf h p c) (is_next c) _ _ (λ e. tt) begin_never

  key_never : (o : Option ℕ) (k : Keyword) (n : ℕ) → Each (TellsOf h p c) (key_on o k n p c)
  key_never None k n = ended_never
  key_never (Some l) k n = keyed_each (TellsOf h p c) events.Quiet tt p c (Some l) k n

  numbered_never : (f : Numeral) → Each (TellsOf h p c) (numbered f p c)
  numbered_never numerals.Sign = number_each (TellsOf h p c) events.Quiet tt p c
  numbered_never numerals.Zero = either_each (TellsOf h p c) (is_x c) _ _ (λ e. tt) (either_each (TellsOf h p c) (digit_of 2 c) _ _ (λ e. tt) (either_each (TellsOf h p c) (digit_of 8 c) _ _ (λ e. tt) (either_each (TellsOf h p c) (is_b c) _ _ (λ e. tt) ended_never)))
  numbered_never numerals.ZeroBits = either_each (TellsOf h p c) (digit_of 2 c) _ _ (λ e. tt) (either_each (TellsOf h p c) (digit_of 8 c) _ _ (λ e. tt) (either_each (TellsOf h p c) (is_b c) _ _ (λ e. tt) ended_never))
  numbered_never numerals.Octal = either_each (TellsOf h p c) (digit_of 8 c) _ _ (λ e. tt) ended_never
  numbered_never numerals.Bits = either_each (TellsOf h p c) (digit_of 2 c) _ _ (λ e. tt) (either_each (TellsOf h p c) (digit_of 10 c) _ _ (λ e. tt) (either_each (TellsOf h p c) (is_b c) _ _ (λ e. tt) ended_never))
  numbered_never numerals.Decimal = either_each (TellsOf h p c) (digit_of 10 c) _ _ (λ e. tt) ended_never
  numbered_never numerals.Prefix = either_each (TellsOf h p c) (digit_of 16 c) _ _ (λ e. tt) tt
  numbered_never numerals.Hexadecimal = either_each (TellsOf h p c) (digit_of 16 c) _ _ (λ e. tt) ended_never
  numbered_never numerals.Binary = ended_never

gap_each : (p : Place) (c : ℕ) (o : Option State) → Each (TellsAt p c) o → Each (TellsOf halves.Gap p c) o
gap_each p c None t = tt
gap_each p c (Some s) t = told s.begun t
  where
    told : (e : Event) → TellsAt p c e → TellsOf halves.Gap p c e
    told events.Quiet t = tt
    told events.Declaration t = (refl, t)
    told events.Property t = (refl, t)
    told events.Element t = (refl, t)

quoted_each : (h : Half) (p : Place) (c : ℕ) → Each (TellsOf h p c) (quoted p c)
quoted_each h p c = either_each (TellsOf h p c) (c == 34) _ _ (λ e. tt) (either_each (TellsOf h p c) (c == 92) _ _ (λ e. tt) tt)

step_each : (h : Half) (p : Place) (c : ℕ) → Sane h p → Each (TellsOf h p c) (step h p c)
step_each halves.Gap p c s = gap_each p c (begin p c) (begin_each p c)
step_each halves.Slash p c s = either_each (TellsOf halves.Slash p c) (c == 47) _ _ (λ e. tt) (either_each (TellsOf halves.Slash p c) (c == 42) _ _ (λ e. tt) tt)
step_each halves.Line p c s = either_each (TellsOf halves.Line p c) (c == 10) _ _ (λ e. tt) tt
step_each halves.Block p c s = either_each (TellsOf halves.Block p c) (c == 42) _ _ (λ e. tt) tt
step_each halves.Star p c s = either_each (TellsOf halves.Star p c) (c == 47) _ _ (λ e. tt) (either_each (TellsOf halves.Star p c) (c == 42) _ _ (λ e. tt) tt)
step_each halves.Name p c s = either_each (TellsOf halves.Name p c) (is_next c) _ _ (λ e. tt) (begin_never halves.Name p c (λ m. false≢true (s m)))
step_each halves.Alias p c s = either_each (TellsOf halves.Alias p c) (is_first c) _ _ (λ e. tt) tt
step_each (halves.Key k n) p c s = key_never (halves.Key k n) p c (λ m. false≢true (s m)) (head_of (drop n (letters k))) k n
step_each (halves.Integer f) p c s = numbered_never (halves.Integer f) p c (λ m. false≢true (s m)) f
step_each halves.Literal p c s = quoted_each halves.Literal p c
step_each halves.Escape p c s = either_each (TellsOf halves.Escape p c) (is_some (short_escape c)) _ _ (λ e. tt) (either_each (TellsOf halves.Escape p c) (is_x c) _ _ (λ e. tt) tt)
step_each halves.EscapeX p c s = either_each (TellsOf halves.EscapeX p c) (digit_of 16 c) _ _ (λ e. tt) tt
step_each (halves.Digits zero v) p c s = quoted_each (halves.Digits zero v) p c
step_each (halves.Digits (suc n) v) p c s =
    either_each (TellsOf (halves.Digits (suc n) v) p c) (digit_of 16 c) _ _
    (λ e. either_each (TellsOf (halves.Digits (suc n) v) p c) (is_no_char (v * 16 + digit_value c)) None (go p (halves.Digits n (v * 16 + digit_value c))) (λ e. tt) tt)
    (quoted_each (halves.Digits (suc n) v) p c)

-- what is begun says where
pub begun_tells : (h : Half) (p : Place) (c : ℕ) (t : State) → Sane h p → step h p c ≡ Some t → TellsOf h p c t.begun
begun_tells h p c t sane e = subst (λ (o : Option State). Each (TellsOf h p c) o) e (step_each h p c sane)

-- and there it is begun

pub declaration_begun : (c : ℕ) (t : State) → to_ascii_lowercase c ≡ 105 → step halves.Gap Start c ≡ Some t → t.begun ≡ events.Declaration
unfolding begin
declaration_begun c t e is = elim (i_of c e) [
  | inl small ↦ small_case (subst (λ (x : ℕ). step halves.Gap Start x ≡ Some t) small is)
  | inr great ↦ great_case (subst (λ (x : ℕ). step halves.Gap Start x ≡ Some t) great is)
]
  where
    i_of : (c : ℕ) → to_ascii_lowercase c ≡ 105 → (c ≡ 105) ⊎ (c ≡ 73)
    i_of c e = grind (arith, nat_tests)

    small_case : step halves.Gap Start 105 ≡ Some t → t.begun ≡ events.Declaration
    small_case e = cc

    great_case : step halves.Gap Start 73 ≡ Some t → t.begun ≡ events.Declaration
    great_case e = cc

pub property_begun : (c : ℕ) (t : State) → is_first c ≡ true → step halves.Gap Body c ≡ Some t → t.begun ≡ events.Property
property_begun c t e is = from (sym (letter_begins Body c e) ∙ is)
  where
    from : opened Body kinds.Letter c ≡ Some t → t.begun ≡ events.Property
    from e = cc

abbrev IsElement : Event → Type 0
IsElement e = e ≡ events.Element

array_each : (p : Place) (k : Kind) (c : ℕ) → element_place p ≡ true → Says k c → is_element c ≡ false → Each IsElement (gapped p k c)
array_each InArray kinds.RightBrace c a is e = absurd (false≢true (sym e ∙ ap is_element is))
array_each InArray kinds.Blank c a is e = absurd (blank_clash c is e)
  where
    blank_clash : (c : ℕ) → is_blank c ≡ true → is_element c ≡ false → ⊥
    blank_clash c b e = grind (arith, nat_tests)
array_each InArray kinds.Slash c a is e = absurd (false≢true (sym e ∙ ap is_element is))
array_each InArray k c a is e = scalar_each IsElement events.Element AfterElementStrings AfterElement k c is (λ n. refl)
array_each AfterComma kinds.Blank c a is e = absurd (blank_clash c is e)
  where
    blank_clash : (c : ℕ) → is_blank c ≡ true → is_element c ≡ false → ⊥
    blank_clash c b e = grind (arith, nat_tests)
array_each AfterComma kinds.Slash c a is e = absurd (false≢true (sym e ∙ ap is_element is))
array_each AfterComma k c a is e = scalar_each IsElement events.Element AfterElementStrings AfterElement k c is (λ n. refl)
array_each p k c a is e = absurd (false≢true a)

pub element_begun : (p : Place) (c : ℕ) (t : State) → element_place p ≡ true → is_element c ≡ false → step halves.Gap p c ≡ Some t → t.begun ≡ events.Element
unfolding begin
element_begun p c t a e is = subst (λ (o : Option State). Each IsElement o) is (array_each p (kind_of c) c a (kind_says c) e)
