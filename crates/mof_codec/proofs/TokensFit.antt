-- Instances of which the tokens are within the limits have names and integers within them.
use Rattle.std.proofs.Common.{◌≡◌, ◌≤◌, ℕ, List, ◌∷◌, Option, length, sym, ◌∙◌, ap, arith}
use Rattle.std.specs.Prelude.{IfSome, ⊤}
use Rattle.std.specs.List.{AllByRecursion}
use Rattle.std.proofs.lemmas.List.{length-map}
use Rattle.std.specs.Char.{to_ascii_lowercase}
use Rattle.mof_values.specs.declared.instance.Instance.{Instance}
use Rattle.mof_values.specs.declared.instance.Property.{Property}
use Rattle.mof_values.specs.declared.value.Scalar.{Scalar}
use Rattle.mof_values.specs.declared.value.Value.{Value}
use Rattle.mof_values.specs.declared.value.Value.TheVariants.{One, Many}
use Rattle.mof_syntax.specs.Tokens.{Lexeme, Word, AliasName, Number, LeftBrace, Semicolon}
use Rattle.mof_syntax.specs.Grammar.{StringValue, last, joined, ConstantValue, string_value, integer_value, true_value, false_value, null_value, alias_identifier, Elements, closing, element, Initializer, constant, empty_array, array, ValueInitializers, done, value_initializer, AliasClause, unnamed, named, InstanceDeclarations, nothing, instance_declaration}
use Rattle.mof_syntax.specs.Limits.{instances_limit, IsInRange, IsShortName, ScalarFits, ValueFits, PropertyFits, InstanceFits, IsWithinLimits}
use Rattle.mof_syntax.specs.Counts.{elements_of}
use Rattle.mof_codec.specs.declared.machine.state.Keyword.{Keyword}
use Rattle.mof_codec.specs.declared.machine.state.Keyword.TheVariants as keywords
use Rattle.mof_codec.specs.Machine.{letters}
use Rattle.mof_codec.proofs.Goes.{IsKey}
use Rattle.mof_codec.proofs.Left.{Common}
use Rattle.mof_codec.specs.Searching.{HasFewElements, HasFewParts}
use Rattle.mof_syntax.specs.declared.limits.TheConstants.{MAX_ELEMENTS}

abbrev pub TokenFits : Lexeme → Type 0
TokenFits (Word name) = IsShortName name
TokenFits (AliasName name) = IsShortName name
TokenFits (Number z) = IsInRange z
TokenFits t = ⊤

letters_few : (k : Keyword) → length (letters k) ≤ 8
letters_few keywords.Instance = omega arith
letters_few keywords.Of = omega arith
letters_few keywords.As = omega arith
letters_few keywords.True = omega arith
letters_few keywords.False = omega arith
letters_few keywords.Null = omega arith

keyword_short : (k : Keyword) (w : List ℕ) → IsKey k w → IsShortName w
keyword_short k w e =
    let same : length w ≡ length (letters k) = sym (length-map w to_ascii_lowercase) ∙ ap (λ (x : List ℕ). length x) e in
    omega (arith, same, letters_few k)

pub fits_common : Common TokenFits
fits_common = record { left_brace = tt; right_brace = tt; equals_sign = tt; semicolon = tt; comma = tt; literal = λ t. tt; keyword = keyword_short }

abbrev EachFits : List Lexeme → Type 0
EachFits ts = AllByRecursion TokenFits ts

string_fits : (ts : List Lexeme) (text : List ℕ) (rest : List Lexeme) → StringValue ts text rest → EachFits ts → EachFits rest
string_fits ts text rest (last t r) e = e.1
string_fits ts text rest (joined t more us r s) e = string_fits us more r s e.1

constant_fits : (ts : List Lexeme) (s : Scalar) (rest : List Lexeme) → ConstantValue ts s rest → EachFits ts → ScalarFits s × EachFits rest
constant_fits ts s rest (string_value us r text v) e = (tt, string_fits us text r v e)
constant_fits ts s rest (integer_value z r) e = (e.0, e.1)
constant_fits ts s rest (true_value w r k) e = (tt, e.1)
constant_fits ts s rest (false_value w r k) e = (tt, e.1)
constant_fits ts s rest (null_value w r k) e = (tt, e.1)
constant_fits ts s rest (alias_identifier name r) e = (e.0, e.1)

elements_fit : (ts : List Lexeme) (ss : List Scalar) (rest : List Lexeme) → Elements ts ss rest → EachFits ts → AllByRecursion ScalarFits ss × EachFits rest
elements_fit ts ss rest (closing r) e = (tt, e.1)
elements_fit ts ss rest (element us after r s others is more) e =
    let here = constant_fits us s after is e.1 in
    let there = elements_fit after others r more here.1 in
    ((here.0, there.0), there.1)

-- but for the count of its elements
abbrev ValueParts : Value → Type 0
ValueParts (One s) = ScalarFits s
ValueParts (Many ss) = AllByRecursion ScalarFits ss

initializer_fits : (ts : List Lexeme) (v : Value) (rest : List Lexeme) → Initializer ts v rest → EachFits ts → ValueParts v × EachFits rest
initializer_fits ts v rest (constant us r s is) e = constant_fits us s r is e
initializer_fits ts v rest (empty_array r) e = (tt, e.1.1)
initializer_fits ts v rest (array us after r s ss is more) e =
    let here = constant_fits us s after is e.1 in
    let there = elements_fit after ss r more here.1 in
    ((here.0, there.0), there.1)

value_fits : (v : Value) → ValueParts v → elements_of v ≤ MAX_ELEMENTS → ValueFits v
value_fits (One s) parts few = parts
value_fits (Many ss) parts few = (few, parts)

properties_fit : (ts : List Lexeme) (ps : List Property) (rest : List Lexeme) → ValueInitializers ts ps rest → EachFits ts → AllByRecursion HasFewElements ps → AllByRecursion PropertyFits ps × EachFits rest
properties_fit ts ps rest (done r) e few = (tt, e.1)
properties_fit ts ps rest (value_initializer name us after r v qs is more) e few =
    let here = initializer_fits us v (Semicolon ∷ after) is e.1.1 in
    let there = properties_fit after qs r more here.1.1 few.1 in
    ((record { name = e.0; value = value_fits v here.0 few.0 }, there.0), there.1)

alias_fits : (ts : List Lexeme) (a : Option (List ℕ)) (rest : List Lexeme) → AliasClause ts a rest → EachFits ts → IfSome a IsShortName × EachFits rest
alias_fits ts a rest (unnamed r) e = (tt, e)
alias_fits ts a rest (named w name r k) e = (e.1.0, e.1.1)

instances_fit : (ts : List Lexeme) (is : List Instance) → InstanceDeclarations ts is → EachFits ts → AllByRecursion HasFewParts is → AllByRecursion InstanceFits is
instances_fit ts is nothing e few = tt
instances_fit ts is (instance_declaration i o class a us body rest ps js ki ko al pr more) e few =
    let alias = alias_fits us a (LeftBrace ∷ body) al e.1.1.1 in
    let parts = properties_fit body ps (Semicolon ∷ rest) pr alias.1.1 few.0.elements in
    (record { class = e.1.1.0; alias = alias.0; count = few.0.properties; each = parts.0 }, instances_fit rest js more parts.1.1 few.1)

pub are_within_limits : (ts : List Lexeme) (is : List Instance) → InstanceDeclarations ts is → AllByRecursion TokenFits ts → length is ≤ instances_limit → AllByRecursion HasFewParts is → IsWithinLimits is
are_within_limits ts is d e count few = record { count = count; each = instances_fit ts is d e few }
