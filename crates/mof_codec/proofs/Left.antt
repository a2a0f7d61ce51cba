-- What completes a text of the grammar from a state of the machine on, with tokens of which each is as is wanted.
use Rattle.std.proofs.Common.{◌≡◌, ◌⊎◌, ℕ, true, false, List, [], ◌∷◌, Option, drop}
use Rattle.std.specs.Prelude.{ℤ}
use Rattle.mof_values.specs.Fold.{fold_case}
use Rattle.mof_values.specs.Ident.{is_next}
use Rattle.mof_syntax.specs.Characters.{digit_of, is_x, is_b, Stops, Run}
use Rattle.mof_syntax.specs.Separators.{LineComment, BlockComment}
use Rattle.mof_syntax.specs.Strings.{is_surrogate, HexDigits, Quoted}
use Rattle.mof_syntax.specs.Integers.{Magnitude, IntegerValue}
use Rattle.mof_syntax.specs.Tokens.{Lexeme, Word, AliasName, Literal, Number, LeftBrace, RightBrace, EqualsSign, Semicolon, Comma, Identifier, Lexes}
use Rattle.mof_codec.specs.declared.machine.state.Keyword.{Keyword}
use Rattle.mof_codec.specs.declared.machine.state.Place.{Place}
use Rattle.mof_codec.specs.declared.machine.state.Numeral.{Numeral}
use Rattle.mof_codec.specs.declared.machine.state.Numeral.TheVariants as numerals
use Rattle.mof_codec.specs.declared.machine.state.Half.{Half}
use Rattle.mof_codec.specs.declared.machine.state.Half.TheVariants as halves
use Rattle.mof_codec.specs.declared.machine.state.State.{State}
use Rattle.std.specs.List.{AllByRecursion}
use Rattle.mof_codec.specs.Machine.{letters, step}
use Rattle.mof_codec.specs.Beginnings.{scalar_place, name_place}
use Rattle.mof_codec.proofs.Goes.{Goes, IsKey}
use Rattle.mof_codec.proofs.Runs.{Next}

-- what is wanted holds of every mark, literal and keyword
pub record Common (T : Lexeme → Type 0) : Type 0 where
  pub left_brace : T LeftBrace
  pub right_brace : T RightBrace
  pub equals_sign : T EqualsSign
  pub semicolon : T Semicolon
  pub comma : T Comma
  pub literal : (text : List ℕ) → T (Literal text)
  pub keyword : (k : Keyword) (w : List ℕ) → IsKey k w → T (Word w)

module _ (T : Lexeme → Type 0) where
  -- the characters complete a text of the grammar from the place on
  abbrev pub From : Place → List ℕ → Type 0
  From p cs = (ts : List Lexeme) × Lexes cs ts × Goes p ts × AllByRecursion T ts

  -- an integer, or an identifier, that stands here is as is wanted
  abbrev pub AdmitsInteger : Place → List ℕ → Type 0
  AdmitsInteger p cs = scalar_place p ≡ true → (z : ℤ) (rest : List ℕ) → IntegerValue cs z rest → Stops is_next rest → T (Number z)

  abbrev pub AdmitsName : Place → List ℕ → Type 0
  AdmitsName p cs = name_place p ≡ true → (name rest : List ℕ) → Identifier cs name rest → T (Word name)

  abbrev pub Admits : Half → Place → List ℕ → Type 0
  Admits halves.Gap p cs = AdmitsInteger p cs × AdmitsName p cs
  Admits halves.Name p cs = AdmitsInteger p cs
  Admits (halves.Key k n) p cs = AdmitsInteger p cs
  Admits (halves.Integer f) p cs = AdmitsInteger p cs
  Admits halves.Alias p cs = (name rest : List ℕ) → Identifier cs name rest → T (AliasName name)
  Admits h p cs = Unit {0}

  -- and so it is at each state that the machine comes to
  abbrev pub Along : List ℕ → Half → Place → Type 0
  Along [] h p = Admits h p []
  Along (c ∷ cs) h p = Admits h p (c ∷ cs) × Next (step h p c) (λ k q e. Along cs k q)

-- what is left of an integer's digits
abbrev pub BitsLeft : List ℕ → List ℕ → Type 0
BitsLeft cs rest = (ds : List ℕ) × (b : ℕ) × Run (digit_of 2) cs ds (b ∷ rest) × (is_b b ≡ true)

abbrev pub Numbered : Numeral → List ℕ → List ℕ → Type 0
Numbered numerals.Sign cs rest = (n : ℕ) × Magnitude cs n rest
Numbered numerals.Zero cs rest = (n : ℕ) × Magnitude (48 ∷ cs) n rest
Numbered numerals.ZeroBits cs rest = ((ds : List ℕ) × Run (digit_of 8) cs ds rest) ⊎ BitsLeft cs rest
Numbered numerals.Octal cs rest = (ds : List ℕ) × Run (digit_of 8) cs ds rest
Numbered numerals.Bits cs rest = ((ds : List ℕ) × Run (digit_of 10) cs ds rest) ⊎ BitsLeft cs rest
Numbered numerals.Decimal cs rest = (ds : List ℕ) × Run (digit_of 10) cs ds rest
Numbered numerals.Prefix cs rest = (x : ℕ) → is_x x ≡ true → (n : ℕ) × Magnitude (48 ∷ x ∷ cs) n rest
Numbered numerals.Hexadecimal cs rest = (ds : List ℕ) × Run (digit_of 16) cs ds rest
Numbered numerals.Binary cs rest = cs ≡ rest

module _ (T : Lexeme → Type 0) where
  abbrev pub WordLeft : Place → List ℕ → Type 0
  WordLeft p cs = (w : List ℕ) × (rest : List ℕ) × Run is_next cs w rest × Stops is_next rest × From T p rest

  abbrev pub NumberLeft : Numeral → Place → List ℕ → Type 0
  NumberLeft f p cs = (rest : List ℕ) × Numbered f cs rest × Stops is_next rest × From T p rest

  abbrev pub TextLeft : Place → List ℕ → Type 0
  TextLeft p cs = (text : List ℕ) × (rest : List ℕ) × Quoted cs text rest × From T p rest

  abbrev pub DigitsLeft : ℕ → ℕ → Place → List ℕ → Type 0
  DigitsLeft n v p cs = (w : ℕ) × (after : List ℕ) × HexDigits n v cs w after × (is_surrogate w ≡ false) × TextLeft p after

  -- what completes a text from a state on
  abbrev pub Left : Half → Place → List ℕ → Type 0
  Left halves.Gap p cs = From T p cs
  Left halves.Slash p cs = From T p (47 ∷ cs)
  Left halves.Line p cs = (rest : List ℕ) × LineComment cs rest × From T p rest
  Left halves.Block p cs = (rest : List ℕ) × BlockComment cs rest × From T p rest
  Left halves.Star p cs = (rest : List ℕ) × BlockComment (42 ∷ cs) rest × From T p rest
  Left halves.Name p cs = WordLeft p cs
  Left halves.Alias p cs = (name : List ℕ) × (rest : List ℕ) × Identifier cs name rest × T (AliasName name) × From T p rest
  Left (halves.Key k n) p cs =
      (w : List ℕ) × (rest : List ℕ) × Run is_next cs w rest × (fold_case w ≡ drop n (letters k)) × Stops is_next rest × From T p rest
  Left (halves.Integer f) p cs = NumberLeft f p cs
  Left halves.Literal p cs = TextLeft p cs
  Left halves.Escape p cs = TextLeft p (92 ∷ cs)
  Left halves.EscapeX p cs = (x : ℕ) → is_x x ≡ true → TextLeft p (92 ∷ x ∷ cs)
  Left (halves.Digits n v) p cs = is_surrogate v ≡ false → DigitsLeft n v p cs

  abbrev pub NextLeft : Option State → List ℕ → Type 0
  NextLeft s cs = Next s (λ h p e. Left h p cs)
