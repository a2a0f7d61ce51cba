-- The same walk with what is begun on it.
use Rattle.std.proofs.Common.{◌≡◌, inl, inr, ℕ, List, [], ◌∷◌, Option, refl, sym, subst}
use Rattle.mof_values.specs.declared.instance.Instance.{Instance}
use Rattle.mof_values.specs.declared.instance.Property.{Property}
use Rattle.mof_values.specs.declared.value.Scalar.{Scalar}
use Rattle.mof_values.specs.declared.value.Value.{Value}
use Rattle.mof_syntax.specs.Tokens.{Lexeme, Word, AliasName, Literal, Number, LeftBrace, RightBrace, EqualsSign, Semicolon, Comma}
use Rattle.mof_syntax.specs.Grammar.{StringValue, last, joined, ConstantValue, string_value, integer_value, true_value, false_value, null_value, alias_identifier, Elements, closing, element, Initializer, constant, empty_array, array, ValueInitializers, done, value_initializer, AliasClause, unnamed, named, InstanceDeclarations, nothing, instance_declaration}
use Rattle.mof_codec.specs.declared.machine.state.Keyword.TheVariants as keywords
use Rattle.mof_codec.specs.declared.machine.state.Place.{Place}
use Rattle.mof_codec.specs.declared.machine.state.Place.TheVariants.{Start, AfterInstance, AfterOf, AfterClass, AfterAs, AfterAlias, Body, AfterBody, AfterName, AfterEquals, AfterStrings, AfterValue, InArray, AfterComma, AfterElementStrings, AfterElement}
use Rattle.mof_codec.specs.declared.machine.state.Event.{Event}
use Rattle.mof_codec.specs.declared.machine.state.Event.TheVariants as events
use Rattle.mof_codec.specs.Events.{items_events, value_events, properties_events, events_of}
use Rattle.mof_codec.proofs.Goes.{IsKey, ScalarGoes}

-- the tokens complete a text from the place on
abbrev pub Walks : (List Event → Type 0) → Place → List Lexeme → List Event → Type 0
Walks E Start [] acc = E acc
Walks E Start (Word w ∷ ts) acc = IsKey keywords.Instance w × Walks E AfterInstance ts (events.Declaration ∷ acc)
Walks E AfterInstance (Word w ∷ ts) acc = IsKey keywords.Of w × Walks E AfterOf ts acc
Walks E AfterOf (Word w ∷ ts) acc = Walks E AfterClass ts acc
Walks E AfterClass (LeftBrace ∷ ts) acc = Walks E Body ts acc
Walks E AfterClass (Word w ∷ ts) acc = IsKey keywords.As w × Walks E AfterAs ts acc
Walks E AfterAs (AliasName name ∷ ts) acc = Walks E AfterAlias ts acc
Walks E AfterAlias (LeftBrace ∷ ts) acc = Walks E Body ts acc
Walks E Body (RightBrace ∷ ts) acc = Walks E AfterBody ts acc
Walks E Body (Word w ∷ ts) acc = Walks E AfterName ts (events.Property ∷ acc)
Walks E AfterBody (Semicolon ∷ ts) acc = Walks E Start ts acc
Walks E AfterName (EqualsSign ∷ ts) acc = Walks E AfterEquals ts acc
Walks E AfterEquals (LeftBrace ∷ ts) acc = Walks E InArray ts acc
Walks E AfterEquals (t ∷ ts) acc = ScalarGoes t (Walks E AfterStrings ts acc) (Walks E AfterValue ts acc)
Walks E AfterStrings (Literal text ∷ ts) acc = Walks E AfterStrings ts acc
Walks E AfterStrings (Semicolon ∷ ts) acc = Walks E Body ts acc
Walks E AfterValue (Semicolon ∷ ts) acc = Walks E Body ts acc
Walks E InArray (RightBrace ∷ ts) acc = Walks E AfterValue ts acc
Walks E InArray (t ∷ ts) acc = ScalarGoes t (Walks E AfterElementStrings ts (events.Element ∷ acc)) (Walks E AfterElement ts (events.Element ∷ acc))
Walks E AfterComma (t ∷ ts) acc = ScalarGoes t (Walks E AfterElementStrings ts (events.Element ∷ acc)) (Walks E AfterElement ts (events.Element ∷ acc))
Walks E AfterElementStrings (Literal text ∷ ts) acc = Walks E AfterElementStrings ts acc
Walks E AfterElementStrings (Comma ∷ ts) acc = Walks E AfterComma ts acc
Walks E AfterElementStrings (RightBrace ∷ ts) acc = Walks E AfterValue ts acc
Walks E AfterElement (Comma ∷ ts) acc = Walks E AfterComma ts acc
Walks E AfterElement (RightBrace ∷ ts) acc = Walks E AfterValue ts acc
Walks E _ _ acc = ⊥

-- what the rules allow is such a walk

module _ (E : List Event → Type 0) where
  strings_on : (acc : List Event) → (ts : List Lexeme) (text : List ℕ) (rest : List Lexeme) → StringValue ts text rest → Walks E AfterStrings rest acc → Walks E AfterStrings ts acc
  strings_on acc ts text rest (last t r) g = g
  strings_on acc ts text rest (joined t more us r s) g = strings_on acc us more r s g

  element_strings_on : (acc : List Event) → (ts : List Lexeme) (text : List ℕ) (rest : List Lexeme) → StringValue ts text rest → Walks E AfterElementStrings rest acc → Walks E AfterElementStrings ts acc
  element_strings_on acc ts text rest (last t r) g = g
  element_strings_on acc ts text rest (joined t more us r s) g = element_strings_on acc us more r s g

  first_string : (acc : List Event) → (ts : List Lexeme) (text : List ℕ) (rest : List Lexeme) → StringValue ts text rest → Walks E AfterStrings rest acc → Walks E AfterEquals ts acc
  first_string acc ts text rest (last t r) g = g
  first_string acc ts text rest (joined t more us r s) g = strings_on acc us more r s g

  scalar_on : (acc : List Event) → (ts : List Lexeme) (v : Scalar) (rest : List Lexeme) → ConstantValue ts v rest → Walks E AfterStrings rest acc → Walks E AfterValue rest acc → Walks E AfterEquals ts acc
  scalar_on acc ts v rest (string_value us r text s) a b = first_string acc us text r s a
  scalar_on acc ts v rest (integer_value z r) a b = b
  scalar_on acc ts v rest (true_value w r k) a b = (inl k, b)
  scalar_on acc ts v rest (false_value w r k) a b = (inr (inl k), b)
  scalar_on acc ts v rest (null_value w r k) a b = (inr (inr k), b)
  scalar_on acc ts v rest (alias_identifier name r) a b = b

  first_of_element : (acc : List Event) (ts : List Lexeme) (text : List ℕ) (rest : List Lexeme) → StringValue ts text rest → Walks E AfterElementStrings rest (events.Element ∷ acc) → Walks E AfterComma ts acc
  first_of_element acc ts text rest (last t r) g = g
  first_of_element acc ts text rest (joined t more us r s) g = element_strings_on (events.Element ∷ acc) us more r s g

  element_or_strings : (acc : List Event) (ts : List Lexeme) → Walks E AfterElement ts acc → Walks E AfterElementStrings ts acc
  element_or_strings acc (Comma ∷ ts) g = g
  element_or_strings acc (RightBrace ∷ ts) g = g
  element_or_strings acc ts g = absurd g

  element_on : (acc : List Event) (ts : List Lexeme) (v : Scalar) (rest : List Lexeme) → ConstantValue ts v rest → Walks E AfterElement rest (events.Element ∷ acc) → Walks E AfterComma ts acc
  element_on acc ts v rest (string_value us r text s) b = first_of_element acc us text r s (element_or_strings (events.Element ∷ acc) r b)
  element_on acc ts v rest (integer_value z r) b = b
  element_on acc ts v rest (true_value w r k) b = (inl k, b)
  element_on acc ts v rest (false_value w r k) b = (inr (inl k), b)
  element_on acc ts v rest (null_value w r k) b = (inr (inr k), b)
  element_on acc ts v rest (alias_identifier name r) b = b

  comma_or_first : (acc : List Event) (ts : List Lexeme) → Walks E AfterComma ts acc → Walks E InArray ts acc
  comma_or_first acc (Literal text ∷ ts) g = g
  comma_or_first acc (Number z ∷ ts) g = g
  comma_or_first acc (AliasName name ∷ ts) g = g
  comma_or_first acc (Word w ∷ ts) g = g
  comma_or_first acc ts g = absurd g

  elements_on : (acc : List Event) (ts : List Lexeme) (vs : List Scalar) (rest : List Lexeme) → Elements ts vs rest → Walks E AfterValue rest (items_events vs acc) → Walks E AfterElement ts acc
  elements_on acc ts vs rest (closing r) g = g
  elements_on acc ts vs rest (element us after r v ws is more) g = element_on acc us v after is (elements_on (events.Element ∷ acc) after ws r more g)

  value_on : (acc : List Event) (ts : List Lexeme) (v : Value) (rest : List Lexeme) → Initializer ts v rest → Walks E AfterStrings rest (value_events v acc) → Walks E AfterValue rest (value_events v acc) → Walks E AfterEquals ts acc
  value_on acc ts v rest (constant us r s is) a b = scalar_on acc us s r is a b
  value_on acc ts v rest (empty_array r) a b = b
  value_on acc ts v rest (array us after r s ss is more) a b = comma_or_first acc us (element_on acc us s after is (elements_on (events.Element ∷ acc) after ss r more b))

  properties_on : (acc : List Event) (ts : List Lexeme) (ps : List Property) (rest : List Lexeme) → ValueInitializers ts ps rest → Walks E AfterBody rest (properties_events ps acc) → Walks E Body ts acc
  properties_on acc ts ps rest (done r) g = g
  properties_on acc ts ps rest (value_initializer name us after r v qs is more) g =
      let h = properties_on (value_events v (events.Property ∷ acc)) after qs r more g in
      value_on (events.Property ∷ acc) us v (Semicolon ∷ after) is h h

  alias_on : (acc : List Event) (ts : List Lexeme) (a : Option (List ℕ)) (rest body : List Lexeme) → AliasClause ts a rest → rest ≡ LeftBrace ∷ body → Walks E Body body acc → Walks E AfterClass ts acc
  alias_on acc ts a rest body (unnamed r) e g = subst (λ (x : List Lexeme). Walks E AfterClass x acc) (sym e) g
  alias_on acc ts a rest body (named w name r k) e g = (k, subst (λ (x : List Lexeme). Walks E AfterAlias x acc) (sym e) g)

  pub declarations_on : (acc : List Event) (ts : List Lexeme) (is : List Instance) → InstanceDeclarations ts is → E (events_of is acc) → Walks E Start ts acc
  declarations_on acc ts is nothing e = e
  declarations_on acc ts is (instance_declaration i o c a us body after ps js ki ko al pr more) e =
      (ki, (ko, alias_on (events.Declaration ∷ acc) us a (LeftBrace ∷ body) body al refl (properties_on (events.Declaration ∷ acc) body ps (Semicolon ∷ after) pr (declarations_on (properties_events ps (events.Declaration ∷ acc)) after js more e))))
