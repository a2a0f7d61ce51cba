-- The properties of an instance that have a value. One that is Null counts as absent, and names compare by fold.
use Rattle.std.specs.Prelude.{ℕ, Bool, true, false, ◌&&◌, if◌then◌else◌, List, [], ◌∷◌, Option, Some, None, filter_map}
use Rattle.mof_values.specs.declared.instance.Property.{Property}
use Rattle.mof_values.specs.declared.value.Value.{Value}
use Rattle.mof_values.specs.declared.value.Value.TheVariants.{One}
use Rattle.mof_values.specs.declared.value.Scalar.TheVariants as scalars
use Rattle.mof_values.specs.Fold.{same_name}
use Rattle.mof_values.specs.Values.{scalars_of, text_of_scalar}

-- a value that is not Null
abbrev pub is_given : Value → Bool
is_given (One scalars.Null) = false
is_given _ = true

abbrev pub is_given_as : List ℕ → Property → Bool
is_given_as name p = same_name p.name name && is_given p.value

-- the properties from the first one of this name on that has a value
abbrev pub from_given : List ℕ → List Property → List Property
from_given name [] = []
from_given name (p ∷ ps) = if is_given_as name p then p ∷ ps else from_given name ps

abbrev pub first_value : List Property → Option Value
first_value [] = None
first_value (p ∷ ps) = Some p.value

abbrev pub first_name : List Property → Option (List ℕ)
first_name [] = None
first_name (p ∷ ps) = Some p.name

-- the first value of this name
abbrev pub given : List ℕ → List Property → Option Value
given name ps = first_value (from_given name ps)

-- the texts of a list property, which is an array of texts or one text
abbrev pub texts_of : Option Value → List (List ℕ)
texts_of None = []
texts_of (Some value) = filter_map text_of_scalar (scalars_of value)
