-- What was begun in the text of instances within the limits was within them all the time, and each of its tokens fits.
use Rattle.std.proofs.Common.{◌≡◌, ℕ, ◌+◌, ◌≤◌, true, List, [], ◌∷◌, Option, codes, length, refl, sym, ap, ◌∙◌, arith}
use Rattle.std.specs.Char.{to_ascii_lowercase}
use Rattle.std.specs.List.{AllByRecursion}
use Rattle.std.specs.Prelude.{IfSome}
use Rattle.std.proofs.lemmas.Bool.{eqb-true}
use Rattle.std.proofs.lemmas.List.{length-map}
use Rattle.mof_values.specs.Fold.{fold_case}
use Rattle.mof_values.specs.declared.instance.Instance.{Instance}
use Rattle.mof_values.specs.declared.instance.Property.{Property as GivenProperty}
use Rattle.mof_values.specs.declared.value.Scalar.{Scalar}
use Rattle.mof_values.specs.declared.value.Value.{Value}
use Rattle.mof_values.specs.declared.value.Value.TheVariants.{Many, One}
use Rattle.mof_syntax.specs.Tokens.{LeftBrace, Lexeme, Semicolon}
use Rattle.mof_syntax.specs.Grammar.{AliasClause, ConstantValue, Elements, Initializer, InstanceDeclarations, StringValue, ValueInitializers, alias_identifier, array, closing, constant, done, element, empty_array, false_value, instance_declaration, integer_value, joined, last, named, nothing, null_value, string_value, true_value, unnamed, value_initializer}
use Rattle.mof_syntax.specs.Limits.{InstanceFits, IsShortName, IsWithinLimits, PropertyFits, ScalarFits, ValueFits, elements_limit, instances_limit, properties_limit}
use Rattle.mof_codec.specs.Counting.{Tells, WereWithin, declarations_in, elements_in, is_excess, properties_in}
use Rattle.mof_codec.specs.Events.{events_of, items_events, properties_events, value_events}
use Rattle.mof_codec.specs.Walked.{tally}
use Rattle.mof_codec.proofs.CountsFit.{are_within, declarations_counted, properties_have}
use Rattle.mof_codec.proofs.TokensFit.{TokenFits}
use Rattle.document_laws.proofs.States.{Counts, Declaration, Element, Event, Property, Quiet}

-- ---- tokens

abbrev AllFit : List Lexeme → Type 0
AllFit ts = AllByRecursion TokenFits ts

-- what is by fold a keyword is a short name
keyword_fits : (w keyword : List ℕ) → fold_case w ≡ keyword → length keyword ≤ 8 → IsShortName w
keyword_fits w keyword same few = let sizes : length w ≡ length keyword = sym (length-map w to_ascii_lowercase) ∙ ap (λ (l : List ℕ). length l) same in omega (arith, sizes, few)

string_fits : (ts : List Lexeme) (text : List ℕ) (rest : List Lexeme) → StringValue ts text rest → AllFit rest → AllFit ts
string_fits ts text rest (last t r) rest_fits = (tt, rest_fits)
string_fits ts text rest (joined t more us r s) rest_fits = (tt, string_fits us more r s rest_fits)

constant_fits : (ts : List Lexeme) (s : Scalar) (rest : List Lexeme) → ConstantValue ts s rest → ScalarFits s → AllFit rest → AllFit ts
constant_fits ts s rest (string_value us r text v) fits rest_fits = string_fits us text r v rest_fits
constant_fits ts s rest (integer_value z r) fits rest_fits = (fits, rest_fits)
constant_fits ts s rest (true_value w r k) fits rest_fits = (keyword_fits w (codes "true") k (omega arith), rest_fits)
constant_fits ts s rest (false_value w r k) fits rest_fits = (keyword_fits w (codes "false") k (omega arith), rest_fits)
constant_fits ts s rest (null_value w r k) fits rest_fits = (keyword_fits w (codes "null") k (omega arith), rest_fits)
constant_fits ts s rest (alias_identifier name r) fits rest_fits = (fits, rest_fits)

elements_fit : (ts : List Lexeme) (ss : List Scalar) (rest : List Lexeme) → Elements ts ss rest → AllByRecursion ScalarFits ss → AllFit rest → AllFit ts
elements_fit ts ss rest (closing r) fits rest_fits = (tt, rest_fits)
elements_fit ts ss rest (element us mid r s others is more) fits rest_fits = (tt, constant_fits us s mid is fits.0 (elements_fit mid others r more fits.1 rest_fits))

initializer_fits : (ts : List Lexeme) (v : Value) (rest : List Lexeme) → Initializer ts v rest → ValueFits v → AllFit rest → AllFit ts
initializer_fits ts v rest (constant us r s is) fits rest_fits = constant_fits us s r is fits rest_fits
initializer_fits ts v rest (empty_array r) fits rest_fits = (tt, (tt, rest_fits))
initializer_fits ts v rest (array us mid r s ss is more) fits rest_fits = (tt, constant_fits us s mid is fits.1.0 (elements_fit mid ss r more fits.1.1 rest_fits))

properties_fit : (ts : List Lexeme) (ps : List GivenProperty) (rest : List Lexeme) → ValueInitializers ts ps rest → AllByRecursion PropertyFits ps → AllFit rest → AllFit ts
properties_fit ts ps rest (done r) fits rest_fits = (tt, rest_fits)
properties_fit ts ps rest (value_initializer name us mid r v qs is more) fits rest_fits =
    (fits.0.name, (tt, initializer_fits us v (Semicolon ∷ mid) is fits.0.value (tt, properties_fit mid qs r more fits.1 rest_fits)))

alias_fits : (ts : List Lexeme) (a : Option (List ℕ)) (rest : List Lexeme) → AliasClause ts a rest → IfSome a IsShortName → AllFit rest → AllFit ts
alias_fits ts a rest (unnamed r) fits rest_fits = rest_fits
alias_fits ts a rest (named w name r k) fits rest_fits = (keyword_fits w (codes "as") k (omega arith), (fits, rest_fits))

instances_fit : (ts : List Lexeme) (is : List Instance) → InstanceDeclarations ts is → AllByRecursion InstanceFits is → AllFit ts
instances_fit ts is nothing fits = tt
instances_fit ts is (instance_declaration i o class a us body left ps js ki ko al pr more) fits = (
  keyword_fits i (codes "instance") ki (omega arith),
  (
    keyword_fits o (codes "of") ko (omega arith),
    (fits.0.class, alias_fits us a (LeftBrace ∷ body) al fits.0.alias (tt, properties_fit body ps (Semicolon ∷ left) pr fits.0.each (tt, instances_fit left js more fits.1))),
  ),
)

-- the tokens that spell instances within the limits fit
pub tokens_fit : (ts : List Lexeme) (is : List Instance) → InstanceDeclarations ts is → IsWithinLimits is → AllFit ts
tokens_fit ts is d limits = instances_fit ts is d limits.each

-- ---- what is begun

items_were : (ss : List Scalar) (acc : List Event) → WereWithin acc → elements_in acc + length ss ≤ elements_limit → WereWithin (items_events ss acc)
items_were [] acc were few = were
items_were (s ∷ ss) acc were few =
    let here = are_within acc were in
    items_were ss (Element ∷ acc) (record { declarations = here.declarations; properties = here.properties; elements = omega (arith, few) }, were) (omega (arith, few))

value_were : (v : Value) (acc : List Event) → WereWithin acc → elements_in acc ≡ 0 → ValueFits v → WereWithin (value_events v acc)
value_were (One s) acc were none fits = were
value_were (Many ss) acc were none fits = items_were ss acc were (omega (arith, none, fits.0))

properties_were : (ps : List GivenProperty) (acc : List Event) → WereWithin acc → properties_in acc + length ps ≤ properties_limit → AllByRecursion PropertyFits ps → WereWithin (properties_events ps acc)
properties_were [] acc were few fits = were
properties_were (p ∷ ps) acc were few fits =
    let here = are_within acc were in
    let begun : WereWithin (Property ∷ acc) = (record { declarations = here.declarations; properties = omega (arith, few); elements = omega arith }, were) in
    let one = properties_have (p ∷ []) acc in
    properties_were ps (value_events p.value (Property ∷ acc)) (value_were p.value (Property ∷ acc) begun refl fits.0.value) (omega (arith, few, one)) fits.1

instances_were : (is : List Instance) (acc : List Event) → WereWithin acc → declarations_in acc + length is ≤ instances_limit → AllByRecursion InstanceFits is → WereWithin (events_of is acc)
instances_were [] acc were few fits = were
instances_were (i ∷ is) acc were few fits =
    let begun : WereWithin (Declaration ∷ acc) = (record { declarations = omega (arith, few); properties = omega arith; elements = omega arith }, were) in
    let count = fits.0.count in
    let one = declarations_counted (i ∷ []) acc in
    instances_were is (properties_events i.properties (Declaration ∷ acc)) (properties_were i.properties (Declaration ∷ acc) begun (omega (arith, count)) fits.0.each) (omega (arith, few, one)) fits.1

pub were_within : (is : List Instance) → IsWithinLimits is → WereWithin (events_of is [])
were_within is limits = let count = limits.count in instances_were is [] tt (omega (arith, count)) limits.each

-- what is begun past its limit was not within it
pub no_excess : (e : Event) (n : Counts) (acc : List Event) → Tells n acc → WereWithin (tally e acc) → is_excess e n ≡ true → ⊥
no_excess Quiet n acc tells were excess = absurd cc
no_excess Declaration n acc tells were excess =
    let most = were.0.declarations in
    let same = tells.declarations in
    omega (arith, most, same, eqb-true n.declarations instances_limit excess)
no_excess Property n acc tells were excess =
    let most = were.0.properties in
    let same = tells.properties in
    omega (arith, most, same, eqb-true n.properties properties_limit excess)
no_excess Element n acc tells were excess =
    let most = were.0.elements in
    let same = tells.elements in
    omega (arith, most, same, eqb-true n.elements elements_limit excess)
