-- The declarations, properties, elements and identifiers that are the first past their limits.
use Rattle.std.specs.Prelude.{◌≡◌, ◌<◌, ◌+◌, ◌||◌, ℕ, true, false, ◌==◌, List, [], ◌∷◌, ◌++◌, length, take, drop, slice_index, codes}
use Rattle.std.specs.Char.{to_ascii_lowercase}
use Rattle.mof_values.specs.Ident.{is_first}
use Rattle.mof_values.specs.declared.instance.Instance.{Instance}
use Rattle.mof_values.specs.declared.instance.Property.{Property}
use Rattle.mof_values.specs.declared.value.Value.{Value}
use Rattle.mof_values.specs.declared.value.Value.TheVariants.{One, Many}
use Rattle.mof_syntax.specs.Characters.{slash, right_brace, is_blank}
use Rattle.mof_syntax.specs.Tokens.{Identifier}
use Rattle.mof_syntax.specs.Grammar.{WideSpells}
use Rattle.mof_syntax.specs.Limits.{instances_limit, properties_limit, elements_limit, identifier_limit}
use Rattle.mof_syntax.specs.Fronts.{BeginsDeclaration, BeginsScalar, BeginsIdentifier}

-- the properties of the last instance
abbrev pub last_properties : List Instance → List Property
last_properties [] = []
last_properties (i ∷ []) = i.properties
last_properties (i ∷ j ∷ is) = last_properties (j ∷ is)

-- how many elements the last property holds, if an array
abbrev pub elements_of : Value → ℕ
elements_of (One s) = 0
elements_of (Many ss) = length ss

abbrev pub last_elements : List Property → ℕ
last_elements [] = 0
last_elements (p ∷ []) = elements_of p.value
last_elements (p ∷ q ∷ ps) = last_elements (q ∷ ps)

-- the text before `at` has as many declarations as it may have, and a further one begins there with its first letter, so not
-- with the `c` of a class
pub record BeginsExcessDeclaration (text : List ℕ) (at : ℕ) : Type 0 where
  pub before : List Instance
  pub spelled : WideSpells (take at text) before
  pub full : length before ≡ instances_limit
  pub begins : BeginsDeclaration text at
  pub letter : to_ascii_lowercase (slice_index text at) ≡ 105

-- the text before `at`, closed there, has as many properties in its last instance as it may have, and a further one begins there
pub record BeginsExcessProperty (text : List ℕ) (at : ℕ) : Type 0 where
  pub before : List Instance
  pub spelled : WideSpells (take at text ++ codes "};") before
  pub full : length (last_properties before) ≡ properties_limit
  pub begins : BeginsIdentifier text at
  pub letter : is_first (slice_index text at) ≡ true

-- the text before `at`, closed there after one more element, has one more in its last array than it may have, and an
-- element begins there: neither a separator nor the brace that closes the array
pub record BeginsExcessElement (text : List ℕ) (at : ℕ) : Type 0 where
  pub before : List Instance
  pub spelled : WideSpells (take at text ++ codes "$A};};") before
  pub full : last_elements (last_properties before) ≡ elements_limit + 1
  pub begins : BeginsScalar text at
  pub element : (is_blank (slice_index text at) || slice_index text at == slash || slice_index text at == right_brace) ≡ false

-- an identifier with more characters than it may have begins at `at`
pub record BeginsLongIdentifier (text : List ℕ) (at : ℕ) : Type 0 where
  pub begins : BeginsIdentifier text at
  pub name : List ℕ
  pub rest : List ℕ
  pub stands : Identifier (drop at text) name rest
  pub long : identifier_limit < length name

-- what begins at `at`, before `end`, is the first past its limit
pub data TooMany (text : List ℕ) (end at : ℕ) : Type 0 where
  declaration : at < end → BeginsExcessDeclaration text at → TooMany text end at
  property : at < end → BeginsExcessProperty text at → TooMany text end at
  element : at < end → BeginsExcessElement text at → TooMany text end at
  identifier : at < end → BeginsLongIdentifier text at → TooMany text end at
