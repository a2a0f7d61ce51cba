-- Canonical texts, by example.
use Rattle.std.specs.Prelude.{◌≡◌, codes, [], ◌∷◌, pos, negsuc, true, false, Some, None}
use Rattle.mof_values.specs.declared.value.Scalar.TheVariants as scalars
use Rattle.mof_values.specs.declared.value.Value.TheVariants.{One, Many}
use Rattle.mof_syntax.specs.Canonical.{canonical_text, canonical_literal, canonical_scalar}
use Rattle.mof_examples.specs.Rules.{instance_of, property_of}

pub record CanonicalExamples : Type 0 where
  pub none : canonical_text [] ≡ []
  pub bare : canonical_text (instance_of (codes "as") (Some (codes "of")) [] ∷ []) ≡ codes "instance of as as $of\n{\n};\n"
  pub texts : canonical_text (instance_of (codes "A") None (property_of (codes "X") (One (scalars.Text (codes "abc"))) ∷ property_of (codes "Y") (One (scalars.Text (codes "Ag"))) ∷ []) ∷ [])
      ≡ codes "instance of A\n{\n X = \"abc\";\n Y = \"Ag\";\n};\n"
  pub array : canonical_text (instance_of (codes "A") None (property_of (codes "X") (Many (scalars.Bool true ∷ scalars.Integer (pos 31) ∷ scalars.Integer (pos 5) ∷ [])) ∷ []) ∷ [])
      ≡ codes "instance of A\n{\n X = {TRUE, 31, 5};\n};\n"
  pub empty_array : canonical_text (instance_of (codes "A") None (property_of (codes "X") (Many []) ∷ []) ∷ []) ≡ codes "instance of A\n{\n X = {};\n};\n"
  pub two : canonical_text (instance_of (codes "A") None [] ∷ instance_of (codes "B") None [] ∷ []) ≡ codes "instance of A\n{\n};\ninstance of B\n{\n};\n"
  pub falsehood : canonical_scalar (scalars.Bool false) ≡ codes "FALSE"
  pub null : canonical_scalar scalars.Null ≡ codes "NULL"
  pub alias : canonical_scalar (scalars.Alias (codes "a")) ≡ codes "$a"
  pub zero : canonical_scalar (scalars.Integer (pos 0)) ≡ codes "0"
  pub least : canonical_scalar (scalars.Integer (negsuc 9223372036854775807)) ≡ codes "-9223372036854775808"
  pub greatest : canonical_scalar (scalars.Integer (pos 18446744073709551615)) ≡ codes "18446744073709551615"
  pub escapes : canonical_literal (8 ∷ 9 ∷ 10 ∷ 12 ∷ 13 ∷ 34 ∷ 92 ∷ []) ≡ codes "\"\\b\\t\\n\\f\\r\\\"\\\\\""
  pub apostrophe : canonical_literal (codes "'") ≡ codes "\"'\""
  pub controls : canonical_literal (0 ∷ 11 ∷ 0x1F ∷ 0x20 ∷ 0x7F ∷ []) ≡ codes "\"\\x0000\\x000B\\x001F \u{7f}\""
