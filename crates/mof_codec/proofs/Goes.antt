-- The rules over tokens as a walk from place to place.
use Rattle.std.proofs.Common.{◌≡◌, ◌⊎◌, inl, inr, ℕ, true, false, List, [], ◌∷◌, ◌++◌, Option, Some, None, refl, sym, subst}
use Rattle.mof_values.specs.Fold.{fold_case}
use Rattle.mof_values.specs.declared.instance.Instance.{Instance}
use Rattle.mof_values.specs.declared.instance.Property.{Property}
use Rattle.mof_values.specs.declared.value.Scalar.{Scalar}
use Rattle.mof_values.specs.declared.value.Scalar.TheVariants as scalars
use Rattle.mof_values.specs.declared.value.Value.{Value}
use Rattle.mof_values.specs.declared.value.Value.TheVariants.{One, Many}
use Rattle.mof_syntax.specs.Tokens.{Lexeme, Word, AliasName, Literal, Number, LeftBrace, RightBrace, EqualsSign, Semicolon, Comma}
use Rattle.mof_syntax.specs.Grammar.{StringValue, last, joined, ConstantValue, string_value, integer_value, true_value, false_value, null_value, alias_identifier, Elements, closing, element, Initializer, constant, empty_array, array, ValueInitializers, done, value_initializer, AliasClause, unnamed, named, InstanceDeclarations, nothing, instance_declaration}
use Rattle.mof_codec.specs.declared.machine.state.Keyword.{Keyword}
use Rattle.mof_codec.specs.declared.machine.state.Keyword.TheVariants as keywords
use Rattle.mof_codec.specs.declared.machine.state.Place.{Place}
use Rattle.mof_codec.specs.declared.machine.state.Place.TheVariants.{Start, AfterInstance, AfterOf, AfterClass, AfterAs, AfterAlias, Body, AfterBody, AfterName, AfterEquals, AfterStrings, AfterValue, InArray, AfterComma, AfterElementStrings, AfterElement}
use Rattle.mof_codec.specs.Machine.{letters}

-- the word is the keyword
abbrev pub IsKey : Keyword → List ℕ → Type 0
IsKey k w = fold_case w ≡ letters k

abbrev pub IsWordValue : List ℕ → Type 0
IsWordValue w = IsKey keywords.True w ⊎ (IsKey keywords.False w ⊎ IsKey keywords.Null w)

-- a scalar's first token, and what goes on after a literal and after any other
abbrev pub ScalarGoes : Lexeme → Type 0 → Type 0 → Type 0
ScalarGoes (Literal text) A B = A
ScalarGoes (Number z) A B = B
ScalarGoes (AliasName name) A B = B
ScalarGoes (Word w) A B = IsWordValue w × B
ScalarGoes _ A B = ⊥

-- the tokens complete a text from the place on
abbrev pub Goes : Place → List Lexeme → Type 0
Goes Start [] = Unit {0}
Goes Start (Word w ∷ ts) = IsKey keywords.Instance w × Goes AfterInstance ts
Goes AfterInstance (Word w ∷ ts) = IsKey keywords.Of w × Goes AfterOf ts
Goes AfterOf (Word w ∷ ts) = Goes AfterClass ts
Goes AfterClass (LeftBrace ∷ ts) = Goes Body ts
Goes AfterClass (Word w ∷ ts) = IsKey keywords.As w × Goes AfterAs ts
Goes AfterAs (AliasName name ∷ ts) = Goes AfterAlias ts
Goes AfterAlias (LeftBrace ∷ ts) = Goes Body ts
Goes Body (RightBrace ∷ ts) = Goes AfterBody ts
Goes Body (Word w ∷ ts) = Goes AfterName ts
Goes AfterBody (Semicolon ∷ ts) = Goes Start ts
Goes AfterName (EqualsSign ∷ ts) = Goes AfterEquals ts
Goes AfterEquals (LeftBrace ∷ ts) = Goes InArray ts
Goes AfterEquals (t ∷ ts) = ScalarGoes t (Goes AfterStrings ts) (Goes AfterValue ts)
Goes AfterStrings (Literal text ∷ ts) = Goes AfterStrings ts
Goes AfterStrings (Semicolon ∷ ts) = Goes Body ts
Goes AfterValue (Semicolon ∷ ts) = Goes Body ts
Goes InArray (RightBrace ∷ ts) = Goes AfterValue ts
Goes InArray (t ∷ ts) = ScalarGoes t (Goes AfterElementStrings ts) (Goes AfterElement ts)
Goes AfterComma (t ∷ ts) = ScalarGoes t (Goes AfterElementStrings ts) (Goes AfterElement ts)
Goes AfterElementStrings (Literal text ∷ ts) = Goes AfterElementStrings ts
Goes AfterElementStrings (Comma ∷ ts) = Goes AfterComma ts
Goes AfterElementStrings (RightBrace ∷ ts) = Goes AfterValue ts
Goes AfterElement (Comma ∷ ts) = Goes AfterComma ts
Goes AfterElement (RightBrace ∷ ts) = Goes AfterValue ts
Goes _ _ = ⊥

-- and such a walk is what the rules allow: what is left of the rules at each place

abbrev BodyLeft : List Lexeme → Type 0
BodyLeft ts = (ps : List Property) × (rest : List Lexeme) × (is : List Instance) × ValueInitializers ts ps (Semicolon ∷ rest) × InstanceDeclarations rest is

abbrev ClassLeft : List Lexeme → Type 0
ClassLeft ts = (a : Option (List ℕ)) × (body : List Lexeme) × AliasClause ts a (LeftBrace ∷ body) × BodyLeft body

abbrev ItemsLeft : List Lexeme → Type 0
ItemsLeft ts = (s : Scalar) × (mid : List Lexeme) × (ss : List Scalar) × (rest : List Lexeme) × ConstantValue ts s mid × Elements mid ss (Semicolon ∷ rest) × BodyLeft rest

abbrev Left : Place → List Lexeme → Type 0
Left Start ts = (is : List Instance) × InstanceDeclarations ts is
Left AfterInstance ts = (o c : List ℕ) × (us : List Lexeme) × (ts ≡ Word o ∷ Word c ∷ us) × IsKey keywords.Of o × ClassLeft us
Left AfterOf ts = (c : List ℕ) × (us : List Lexeme) × (ts ≡ Word c ∷ us) × ClassLeft us
Left AfterClass ts = ClassLeft ts
Left AfterAs ts = (name : List ℕ) × (body : List Lexeme) × (ts ≡ AliasName name ∷ LeftBrace ∷ body) × BodyLeft body
Left AfterAlias ts = (body : List Lexeme) × (ts ≡ LeftBrace ∷ body) × BodyLeft body
Left Body ts = BodyLeft ts
Left AfterBody ts = (rest : List Lexeme) × (is : List Instance) × (ts ≡ Semicolon ∷ rest) × InstanceDeclarations rest is
Left AfterName ts = (us : List Lexeme) × (v : Value) × (rest : List Lexeme) × (ts ≡ EqualsSign ∷ us) × Initializer us v (Semicolon ∷ rest) × BodyLeft rest
Left AfterEquals ts = (v : Value) × (rest : List Lexeme) × Initializer ts v (Semicolon ∷ rest) × BodyLeft rest
Left AfterStrings ts = (t : List ℕ) → (text : List ℕ) × (rest : List Lexeme) × StringValue (Literal t ∷ ts) text (Semicolon ∷ rest) × BodyLeft rest
Left AfterValue ts = (rest : List Lexeme) × (ts ≡ Semicolon ∷ rest) × BodyLeft rest
Left InArray ts = (v : Value) × (rest : List Lexeme) × Initializer (LeftBrace ∷ ts) v (Semicolon ∷ rest) × BodyLeft rest
Left AfterComma ts = ItemsLeft ts
Left AfterElementStrings ts = (t : List ℕ) → (text : List ℕ) × (mid : List Lexeme) × (ss : List Scalar) × (rest : List Lexeme) × StringValue (Literal t ∷ ts) text mid × Elements mid ss (Semicolon ∷ rest) × BodyLeft rest
Left AfterElement ts = (ss : List Scalar) × (rest : List Lexeme) × Elements ts ss (Semicolon ∷ rest) × BodyLeft rest

one_left : (ts us : List Lexeme) (s : Scalar) → ConstantValue ts s us → Left AfterValue us → Left AfterEquals ts
one_left ts us s is h = (One s, h.0, constant ts (Semicolon ∷ h.0) s (subst (λ (x : List Lexeme). ConstantValue ts s x) h.1 is), h.2)

item_left : (ts us : List Lexeme) (s : Scalar) → ConstantValue ts s us → Left AfterElement us → ItemsLeft ts
item_left ts us s is h = (s, us, h.0, h.1, is, h.2, h.3)

items_left : (ts : List Lexeme) → ItemsLeft ts → Left InArray ts
items_left ts h = (Many (h.0 ∷ h.2), h.3, array ts h.1 (Semicolon ∷ h.3) h.0 h.2 h.4 h.5, h.6)

string_left : (t : List ℕ) (ts : List Lexeme) → Left AfterElementStrings ts → ItemsLeft (Literal t ∷ ts)
string_left t ts h = let l = h t in (scalars.Text l.0, l.1, l.2, l.3, string_value (Literal t ∷ ts) l.1 l.0 l.4, l.5, l.6)

word_value : (w : List ℕ) (us : List Lexeme) → IsWordValue w → (s : Scalar) × ConstantValue (Word w ∷ us) s us
word_value w us h = elim h [
  | inl k ↦ (scalars.Bool true, true_value w us k)
  | inr other ↦ elim other [
    | inl k ↦ (scalars.Bool false, false_value w us k)
    | inr k ↦ (scalars.Null, null_value w us k)
  ]
]

-- the first token of a scalar in an array
item_first : (t : Lexeme) (ts : List Lexeme) → ScalarGoes t (Left AfterElementStrings ts) (Left AfterElement ts) → ItemsLeft (t ∷ ts)
item_first (Literal t) ts h = string_left t ts h
item_first (Number z) ts h = item_left (Number z ∷ ts) ts (scalars.Integer z) (integer_value z ts) h
item_first (AliasName name) ts h = item_left (AliasName name ∷ ts) ts (scalars.Alias name) (alias_identifier name ts) h
item_first (Word w) ts h = let v = word_value w ts h.0 in item_left (Word w ∷ ts) ts v.0 v.1 h.1
item_first t ts h = absurd h

scalar_first : (t : Lexeme) (ts : List Lexeme) → ScalarGoes t (Left AfterStrings ts) (Left AfterValue ts) → Left AfterEquals (t ∷ ts)
scalar_first (Literal t) ts h = let l = h t in (One (scalars.Text l.0), l.1, constant (Literal t ∷ ts) (Semicolon ∷ l.1) (scalars.Text l.0) (string_value (Literal t ∷ ts) (Semicolon ∷ l.1) l.0 l.2), l.3)
scalar_first (Number z) ts h = one_left (Number z ∷ ts) ts (scalars.Integer z) (integer_value z ts) h
scalar_first (AliasName name) ts h = one_left (AliasName name ∷ ts) ts (scalars.Alias name) (alias_identifier name ts) h
scalar_first (Word w) ts h = let v = word_value w ts h.0 in one_left (Word w ∷ ts) ts v.0 v.1 h.1
scalar_first t ts h = absurd h

scalar_map : {A B C D : Type 0} (t : Lexeme) → (A → C) → (B → D) → ScalarGoes t A B → ScalarGoes t C D
scalar_map (Literal t) f g h = f h
scalar_map (Number z) f g h = g h
scalar_map (AliasName name) f g h = g h
scalar_map (Word w) f g h = (h.0, g h.1)
scalar_map t f g h = absurd h

pub goes_left : (ts : List Lexeme) (p : Place) → Goes p ts → Left p ts
goes_left [] Start g = ([], nothing)
goes_left (Word w ∷ ts) Start g =
    let l = goes_left ts AfterInstance g.1 in
    let b = l.5 in (
      record { class = l.1; alias = b.0; properties = b.3.0 } ∷ b.3.2,
      subst (λ (x : List Lexeme). InstanceDeclarations (Word w ∷ x) (record { class = l.1; alias = b.0; properties = b.3.0 } ∷ b.3.2)) (sym l.3)
          (instance_declaration w l.0 l.1 b.0 l.2 b.1 b.3.1 b.3.0 b.3.2 g.0 l.4 b.2 b.3.3 b.3.4),
    )
goes_left (Word w ∷ ts) AfterInstance g = let l = goes_left ts AfterOf g.1 in (w, l.0, l.1, subst (λ (x : List Lexeme). Word w ∷ ts ≡ Word w ∷ x) l.2 refl, g.0, l.3)
goes_left (Word w ∷ ts) AfterOf g = (w, ts, refl, goes_left ts AfterClass g)
goes_left (LeftBrace ∷ ts) AfterClass g = (None, ts, unnamed (LeftBrace ∷ ts), goes_left ts Body g)
goes_left (Word w ∷ ts) AfterClass g =
    let l = goes_left ts AfterAs g.1 in
    (Some l.0, l.1, subst (λ (x : List Lexeme). AliasClause (Word w ∷ x) (Some l.0) (LeftBrace ∷ l.1)) (sym l.2) (named w l.0 (LeftBrace ∷ l.1) g.0), l.3)
goes_left (AliasName name ∷ ts) AfterAs g = let l = goes_left ts AfterAlias g in (name, l.0, subst (λ (x : List Lexeme). AliasName name ∷ ts ≡ AliasName name ∷ x) l.1 refl, l.2)
goes_left (LeftBrace ∷ ts) AfterAlias g = (ts, refl, goes_left ts Body g)
goes_left (RightBrace ∷ ts) Body g = let l = goes_left ts AfterBody g in ([], l.0, l.1, subst (λ (x : List Lexeme). ValueInitializers (RightBrace ∷ ts) [] x) l.2 (done ts), l.3)
goes_left (Word w ∷ ts) Body g =
    let l = goes_left ts AfterName g in
    let b = l.5 in (
      record { name = w; value = l.1 } ∷ b.0,
      b.1,
      b.2,
      subst (λ (x : List Lexeme). ValueInitializers (Word w ∷ x) (record { name = w; value = l.1 } ∷ b.0) (Semicolon ∷ b.1)) (sym l.3) (value_initializer w l.0 l.2 (Semicolon ∷ b.1) l.1 b.0 l.4 b.3),
      b.4,
    )
goes_left (Semicolon ∷ ts) AfterBody g = let l = goes_left ts Start g in (ts, l.0, refl, l.1)
goes_left (EqualsSign ∷ ts) AfterName g = let l = goes_left ts AfterEquals g in (ts, l.0, l.1, refl, l.2, l.3)
goes_left (LeftBrace ∷ ts) AfterEquals g = goes_left ts InArray g
goes_left (t ∷ ts) AfterEquals g = scalar_first t ts (scalar_map t (goes_left ts AfterStrings) (goes_left ts AfterValue) g)
goes_left (Literal u ∷ ts) AfterStrings g = λ t. let l = goes_left ts AfterStrings g u in (t ++ l.0, l.1, joined t l.0 (Literal u ∷ ts) (Semicolon ∷ l.1) l.2, l.3)
goes_left (Semicolon ∷ ts) AfterStrings g = λ t. (t, ts, last t (Semicolon ∷ ts), goes_left ts Body g)
goes_left (Semicolon ∷ ts) AfterValue g = (ts, refl, goes_left ts Body g)
goes_left (RightBrace ∷ ts) InArray g = let l = goes_left ts AfterValue g in (Many [], l.0, subst (λ (x : List Lexeme). Initializer (LeftBrace ∷ RightBrace ∷ ts) (Many []) x) l.1 (empty_array ts), l.2)
goes_left (t ∷ ts) InArray g = items_left (t ∷ ts) (item_first t ts (scalar_map t (goes_left ts AfterElementStrings) (goes_left ts AfterElement) g))
goes_left (t ∷ ts) AfterComma g = item_first t ts (scalar_map t (goes_left ts AfterElementStrings) (goes_left ts AfterElement) g)
goes_left (Literal u ∷ ts) AfterElementStrings g = λ t. let l = goes_left ts AfterElementStrings g u in (t ++ l.0, l.1, l.2, l.3, joined t l.0 (Literal u ∷ ts) l.1 l.4, l.5, l.6)
goes_left (Comma ∷ ts) AfterElementStrings g =
    let l = goes_left ts AfterComma g in
    λ t. (t, Comma ∷ ts, l.0 ∷ l.2, l.3, last t (Comma ∷ ts), element ts l.1 (Semicolon ∷ l.3) l.0 l.2 l.4 l.5, l.6)
goes_left (RightBrace ∷ ts) AfterElementStrings g =
    let l = goes_left ts AfterValue g in
    λ t. (t, RightBrace ∷ ts, [], l.0, last t (RightBrace ∷ ts), subst (λ (x : List Lexeme). Elements (RightBrace ∷ ts) [] x) l.1 (closing ts), l.2)
goes_left (Comma ∷ ts) AfterElement g = let l = goes_left ts AfterComma g in (l.0 ∷ l.2, l.3, element ts l.1 (Semicolon ∷ l.3) l.0 l.2 l.4 l.5, l.6)
goes_left (RightBrace ∷ ts) AfterElement g = let l = goes_left ts AfterValue g in ([], l.0, subst (λ (x : List Lexeme). Elements (RightBrace ∷ ts) [] x) l.1 (closing ts), l.2)
goes_left ts p g = absurd g
