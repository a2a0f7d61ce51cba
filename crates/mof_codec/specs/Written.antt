-- What is written of instances, and what the types of their values guarantee.
use Rattle.std.specs.Prelude.{◌≡◌, ℕ, true, List, ◌++◌, ⊤, codes, IfSome}
use Rattle.std.specs.List.{AllByRecursion}
use Rattle.std.specs.Str.{all_scalars, encode_utf8_all}
use Rattle.mof_values.specs.Ident.{IsIdent}
use Rattle.mof_values.specs.declared.instance.Instance.{Instance}
use Rattle.mof_values.specs.declared.instance.Property.{Property}
use Rattle.mof_values.specs.declared.value.Scalar.{Scalar}
use Rattle.mof_values.specs.declared.value.Scalar.TheVariants as scalars
use Rattle.mof_values.specs.declared.value.Value.{Value}
use Rattle.mof_values.specs.declared.value.Value.TheVariants.{One, Many}
use Rattle.mof_syntax.specs.Canonical.{canonical_scalar}

-- the bytes after are those before and the characters
pub record Adds (before after chars : List ℕ) : Type 0 where
  pub bytes : after ≡ before ++ encode_utf8_all chars

-- an element of an array after the first
abbrev pub further_element : Scalar → List ℕ
further_element s = codes ", " ++ canonical_scalar s

-- characters are scalar values of Unicode
abbrev pub AreChars : List ℕ → Type 0
AreChars text = all_scalars text ≡ true

-- an identifier, of characters
pub record IsName (name : List ℕ) : Type 0 where
  pub ident : IsIdent name
  pub chars : AreChars name

abbrev pub ScalarIsValid : Scalar → Type 0
ScalarIsValid (scalars.Text text) = AreChars text
ScalarIsValid (scalars.Integer z) = ⊤
ScalarIsValid (scalars.Bool b) = ⊤
ScalarIsValid scalars.Null = ⊤
ScalarIsValid (scalars.Alias name) = IsName name

abbrev pub ValueIsValid : Value → Type 0
ValueIsValid (One s) = ScalarIsValid s
ValueIsValid (Many ss) = AllByRecursion ScalarIsValid ss

pub record PropertyIsValid (p : Property) : Type 0 where
  pub name : IsName p.name
  pub value : ValueIsValid p.value

pub record InstanceIsValid (i : Instance) : Type 0 where
  pub class : IsName i.class
  pub alias : IfSome i.alias IsName
  pub each : AllByRecursion PropertyIsValid i.properties
