-- How large a document may be, and which instances are within that. The sizes are those of this profile.
use Rattle.std.specs.Prelude.{ℕ, ◌-◌, ◌^◌, ◌≤◌, ◌⊎◌, ℤ, pos, neg_ℤ, ◌≤ℤ◌, ◌<ℤ◌, List, length, IfSome, ⊤}
use Rattle.std.specs.List.{AllByRecursion}
use Rattle.mof_values.specs.declared.instance.Instance.{Instance}
use Rattle.mof_values.specs.declared.instance.Property.{Property}
use Rattle.mof_values.specs.declared.value.Scalar.{Scalar}
use Rattle.mof_values.specs.declared.value.Scalar.TheVariants as scalars
use Rattle.mof_values.specs.declared.value.Value.{Value}
use Rattle.mof_values.specs.declared.value.Value.TheVariants.{One, Many}
use Rattle.mof_values.specs.declared.limits.TheConstants.{MAX_IDENTIFIER}
use Rattle.mof_syntax.specs.declared.limits.TheConstants.{MAX_DOCUMENT, MAX_INSTANCES, MAX_PROPERTIES, MAX_ELEMENTS}
use Rattle.mof_syntax.specs.Grammar.{WideSpells}

-- bytes of a document
abbrev pub document_limit : ℕ
document_limit = MAX_DOCUMENT

-- instances of a text
abbrev pub instances_limit : ℕ
instances_limit = MAX_INSTANCES

-- properties of an instance
abbrev pub properties_limit : ℕ
properties_limit = MAX_PROPERTIES

-- elements of an array
abbrev pub elements_limit : ℕ
elements_limit = MAX_ELEMENTS

-- characters of an identifier
abbrev pub identifier_limit : ℕ
identifier_limit = MAX_IDENTIFIER

-- the least and the greatest integer: those of sint64 and uint64 (DSP0004, "Intrinsic data types")
abbrev pub least_integer : ℤ
least_integer = neg_ℤ (pos (2 ^ 63))

abbrev pub greatest_integer : ℤ
greatest_integer = pos (2 ^ 64 - 1)

abbrev pub IsInRange : ℤ → Type 0
IsInRange z = (least_integer ≤ℤ z) × (z ≤ℤ greatest_integer)

abbrev pub IsOutOfRange : ℤ → Type 0
IsOutOfRange z = (z <ℤ least_integer) ⊎ (greatest_integer <ℤ z)

abbrev pub IsShortName : List ℕ → Type 0
IsShortName name = length name ≤ identifier_limit

abbrev pub ScalarFits : Scalar → Type 0
ScalarFits (scalars.Text text) = ⊤
ScalarFits (scalars.Integer z) = IsInRange z
ScalarFits (scalars.Bool b) = ⊤
ScalarFits scalars.Null = ⊤
ScalarFits (scalars.Alias name) = IsShortName name

abbrev pub ValueFits : Value → Type 0
ValueFits (One s) = ScalarFits s
ValueFits (Many ss) = (length ss ≤ elements_limit) × AllByRecursion ScalarFits ss

pub record PropertyFits (p : Property) : Type 0 where
  pub name : IsShortName p.name
  pub value : ValueFits p.value

pub record InstanceFits (i : Instance) : Type 0 where
  pub class : IsShortName i.class
  pub alias : IfSome i.alias IsShortName
  pub count : length i.properties ≤ properties_limit
  pub each : AllByRecursion PropertyFits i.properties

-- the instances are within the limits of a text
pub record IsWithinLimits (all : List Instance) : Type 0 where
  pub count : length all ≤ instances_limit
  pub each : AllByRecursion InstanceFits all

-- the characters spell these instances, within the limits
pub record Spells (chars : List ℕ) (instances : List Instance) : Type 0 where
  pub wide : WideSpells chars instances
  pub limits : IsWithinLimits instances
