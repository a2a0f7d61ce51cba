-- The canonical text of instances: of the spellings that DSP0004, "Instance declarations", allows, the one that is written.
use Rattle.std.specs.Prelude.{ℕ, ◌/◌, ◌%◌, true, false, nat_lt, ◌==◌, if◌then◌else◌, List, [], ◌∷◌, ◌++◌, Option, Some, None, codes}
use Rattle.std.specs.List.{flat_map}
use Rattle.std.specs.Fmt.{digit_glyph}
use Rattle.std.specs.Str.{encode_utf8_all}
use Rattle.mof_values.specs.declared.instance.Instance.{Instance}
use Rattle.mof_values.specs.declared.instance.Property.{Property}
use Rattle.mof_values.specs.declared.value.Scalar.{Scalar}
use Rattle.mof_values.specs.declared.value.Scalar.TheVariants as scalars
use Rattle.mof_values.specs.declared.value.Value.{Value}
use Rattle.mof_values.specs.declared.value.Value.TheVariants.{One, Many}
use Rattle.mof_syntax.specs.Characters.{quote, dollar}
use Rattle.mof_syntax.specs.Numerals.{signed_numeral}

-- the digit in upper case
abbrev pub hex_glyph : ℕ → ℕ
hex_glyph d = digit_glyph true d

-- a character below U+0020 that has no short escape, with four digits
abbrev pub control_escape : ℕ → List ℕ
control_escape c = codes "\\x00" ++ hex_glyph (c / 16) ∷ hex_glyph (c % 16) ∷ []

-- a character of a literal
abbrev pub literal_char : ℕ → List ℕ
literal_char c =
    if c == 8 then codes "\\b"
    else if c == 9 then codes "\\t"
    else if c == 10 then codes "\\n"
    else if c == 12 then codes "\\f"
    else if c == 13 then codes "\\r"
    else if c == 34 then codes "\\\""
    else if c == 92 then codes "\\\\"
    else if nat_lt c 32 then control_escape c
    else c ∷ []

-- a text, in one literal
abbrev pub canonical_literal : List ℕ → List ℕ
canonical_literal text = quote ∷ flat_map literal_char text ++ quote ∷ []

abbrev pub canonical_scalar : Scalar → List ℕ
canonical_scalar (scalars.Text text) = canonical_literal text
canonical_scalar (scalars.Integer z) = signed_numeral z
canonical_scalar (scalars.Bool true) = codes "TRUE"
canonical_scalar (scalars.Bool false) = codes "FALSE"
canonical_scalar scalars.Null = codes "NULL"
canonical_scalar (scalars.Alias name) = dollar ∷ name

-- scalars divided by a comma and a space
abbrev pub canonical_elements : List Scalar → List ℕ
canonical_elements [] = []
canonical_elements (s ∷ []) = canonical_scalar s
canonical_elements (s ∷ t ∷ ss) = canonical_scalar s ++ codes ", " ++ canonical_elements (t ∷ ss)

abbrev pub canonical_value : Value → List ℕ
canonical_value (One s) = canonical_scalar s
canonical_value (Many ss) = codes "{" ++ canonical_elements ss ++ codes "}"

-- the line of a property
abbrev pub canonical_property : Property → List ℕ
canonical_property p = codes " " ++ p.name ++ codes " = " ++ canonical_value p.value ++ codes ";\n"

abbrev pub canonical_alias : Option (List ℕ) → List ℕ
canonical_alias None = []
canonical_alias (Some name) = codes " as $" ++ name

-- the lines of an instance
abbrev pub canonical_instance : Instance → List ℕ
canonical_instance i = codes "instance of " ++ i.class ++ canonical_alias i.alias ++ codes "\n{\n" ++ flat_map canonical_property i.properties ++ codes "};\n"

-- the characters of the canonical text, and its bytes: UTF-8 without a mark
abbrev pub canonical_text : List Instance → List ℕ
canonical_text instances = flat_map canonical_instance instances

abbrev pub canonical_bytes : List Instance → List ℕ
canonical_bytes instances = encode_utf8_all (canonical_text instances)
