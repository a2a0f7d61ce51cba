-- What a value holds, and the values of an instance by name.
use Rattle.std.specs.Prelude.{ℕ, List, [], ◌∷◌, Option, Some, None, option_map, option_and_then, find}
use Rattle.mof_values.specs.declared.instance.Instance.{Instance}
use Rattle.mof_values.specs.declared.value.Scalar.{Scalar}
use Rattle.mof_values.specs.declared.value.Scalar.TheVariants as scalars
use Rattle.mof_values.specs.declared.value.Value.{Value}
use Rattle.mof_values.specs.declared.value.Value.TheVariants.{One, Many}
use Rattle.mof_values.specs.Fold.{same_name}

-- the text that a scalar is
abbrev pub text_of_scalar : Scalar → Option (List ℕ)
text_of_scalar (scalars.Text text) = Some text
text_of_scalar _ = None

-- the single text that a value is
abbrev pub text_of : Value → Option (List ℕ)
text_of (One scalar) = text_of_scalar scalar
text_of (Many _) = None

abbrev pub scalars_of : Value → List Scalar
scalars_of (One scalar) = scalar ∷ []
scalars_of (Many many) = many

-- the value of the first property of that name, by fold
abbrev pub value_named : List ℕ → Instance → Option Value
value_named name instance = option_map (λ p. p.value) (find (λ p. same_name p.name name) instance.properties)

-- its text, where it is a single text
abbrev pub text_named : List ℕ → Instance → Option (List ℕ)
text_named name instance = option_and_then text_of (value_named name instance)
