-- How long the canonical text of generated instances is.
use Rattle.std.proofs.Common.{ℕ, zero, suc, ◌+◌, ◌*◌, ◌/◌, ◌<◌, ◌≤◌, List, [], ◌++◌, length, codes, refl, sym, subst, arith, append-nil}
use Rattle.std.specs.Fmt.{decimal}
use Rattle.std.specs.List.{flat_map}
use Rattle.std.proofs.lemmas.Grind.{flat_map-append}
use Rattle.mof_syntax.specs.Canonical.{literal_char, canonical_literal, canonical_property, canonical_instance, canonical_text, canonical_bytes}
use Rattle.mof_syntax.specs.Limits.{document_limit}
use Rattle.generated_document.specs.Generated.{text_property, id_of_number, dependency, generated_instances, generated_properties, generated_resource}
use Rattle.generated_document.proofs.Decimals.{decimal_digits, decimal_short, literal_digits}
use Rattle.generated_document.proofs.Fits.{Fits, fits_joined, fits_more, fits_digits, fits_word, fits_encoded}
use Rattle.dsc_document.specs.declared.limits.TheConstants.{MAX_RESOURCES}

-- a word and digits, in a literal
literal_fits : (m : ℕ) (word ds : List ℕ) → Fits m (flat_map literal_char word) → Fits 4 (flat_map literal_char ds) → Fits (1 + (m + 4) + 1) (canonical_literal (word ++ ds))
literal_fits m word ds first second =
    fits_joined (1 + (m + 4)) 1 (codes "\"" ++ flat_map literal_char (word ++ ds)) (codes "\"")
    (fits_joined 1 (m + 4) (codes "\"") (flat_map literal_char (word ++ ds)) (fits_word 1 (codes "\"") refl (omega arith))
    (subst (Fits (m + 4)) (sym (flat_map-append literal_char word ds)) (fits_joined m 4 (flat_map literal_char word) (flat_map literal_char ds) first second)))
    (fits_word 1 (codes "\"") refl (omega arith))

number_fits : (i : ℕ) → i < MAX_RESOURCES → Fits 4 (flat_map literal_char (decimal i))
number_fits i small = subst (Fits 4) (sym (literal_digits (decimal i) (decimal_digits i small))) (fits_digits 4 (decimal i) (decimal_digits i small) (decimal_short i small))

-- the line of a property with a name and a value of this length
line_fits : (m : ℕ) (name text : List ℕ) → Fits 10 name → Fits m (canonical_literal text) → Fits (1 + 10 + 3 + m + 2) (canonical_property (text_property name text))
line_fits m name text named valued =
    fits_joined (1 + 10 + 3 + m) 2 (codes " " ++ name ++ codes " = " ++ canonical_literal text) (codes ";\n")
    (fits_joined (1 + 10 + 3) m (codes " " ++ name ++ codes " = ") (canonical_literal text)
    (fits_joined (1 + 10) 3 (codes " " ++ name) (codes " = ")
    (fits_joined 1 10 (codes " ") name (fits_word 1 (codes " ") refl (omega arith)) named)
    (fits_word 3 (codes " = ") refl (omega arith)))
    valued)
    (fits_word 2 (codes ";\n") refl (omega arith))

-- the line of a property whose value ends with a number
numbered_fits : (name word : List ℕ) (i : ℕ) → i < MAX_RESOURCES → Fits 10 name → Fits 14 (flat_map literal_char word) → Fits 36 (canonical_property (text_property name (word ++ decimal i)))
numbered_fits name word i small named prefixed =
    fits_more (1 + 10 + 3 + (1 + (14 + 4) + 1) + 2) 36 (canonical_property (text_property name (word ++ decimal i))) (omega arith)
    (line_fits (1 + (14 + 4) + 1) name (word ++ decimal i) named (literal_fits 14 word (decimal i) prefixed (number_fits i small)))

dependency_is_short : (i : ℕ) → i < MAX_RESOURCES → Fits 36 (flat_map canonical_property (dependency i))
dependency_is_short zero small = fits_word 36 [] refl (omega arith)
dependency_is_short (suc i) small =
    let line = canonical_property (text_property (codes "DependsOn") (id_of_number (i / 2))) in
    subst (Fits 36) (sym (append-nil line))
    (numbered_fits (codes "DependsOn") (codes "[Environment]R") (i / 2) (omega (arith, small)) (fits_word 10 (codes "DependsOn") refl (omega arith)) (fits_word 14 (flat_map literal_char (codes "[Environment]R")) refl (omega arith)))

properties_fit : (i : ℕ) → i < MAX_RESOURCES → Fits 144 (flat_map canonical_property (generated_properties i))
properties_fit i small =
    fits_more (36 + (36 + (36 + 36))) 144 (flat_map canonical_property (generated_properties i)) (omega arith)
    (fits_joined 36 (36 + (36 + 36)) (canonical_property (text_property (codes "ResourceID") (id_of_number i)))
    (canonical_property (text_property (codes "Name") (codes "V" ++ decimal i)) ++ (canonical_property (text_property (codes "Value") (decimal i)) ++ flat_map canonical_property (dependency i)))
    (numbered_fits (codes "ResourceID") (codes "[Environment]R") i small (fits_word 10 (codes "ResourceID") refl (omega arith)) (fits_word 14 (flat_map literal_char (codes "[Environment]R")) refl (omega arith)))
    (fits_joined 36 (36 + 36) (canonical_property (text_property (codes "Name") (codes "V" ++ decimal i)))
    (canonical_property (text_property (codes "Value") (decimal i)) ++ flat_map canonical_property (dependency i))
    (numbered_fits (codes "Name") (codes "V") i small (fits_word 10 (codes "Name") refl (omega arith)) (fits_word 14 (flat_map literal_char (codes "V")) refl (omega arith)))
    (fits_joined 36 36 (canonical_property (text_property (codes "Value") (decimal i))) (flat_map canonical_property (dependency i))
    (numbered_fits (codes "Value") [] i small (fits_word 10 (codes "Value") refl (omega arith)) (fits_word 14 [] refl (omega arith)))
    (dependency_is_short i small))))

-- the lines of a resource
resource_is_short : (i : ℕ) → i < MAX_RESOURCES → Fits 200 (canonical_instance (generated_resource i))
resource_is_short i small =
    fits_more (52 + 144 + 3) 200 (canonical_instance (generated_resource i)) (omega arith)
    (fits_joined (52 + 144) 3 (codes "instance of MSFT_EnvironmentResource\n{\n" ++ flat_map canonical_property (generated_properties i)) (codes "};\n")
    (fits_joined 52 144 (codes "instance of MSFT_EnvironmentResource\n{\n") (flat_map canonical_property (generated_properties i))
    (fits_word 52 (codes "instance of MSFT_EnvironmentResource\n{\n") refl (omega arith)) (properties_fit i small))
    (fits_word 3 (codes "};\n") refl (omega arith)))

text_fits : (n : ℕ) → n ≤ MAX_RESOURCES → Fits (n * 200 + 200) (canonical_text (generated_instances n))
text_fits zero few = fits_word (0 * 200 + 200) (canonical_text (generated_instances zero)) refl (omega arith)
text_fits (suc i) few =
    fits_more (200 + (i * 200 + 200)) (suc i * 200 + 200) (canonical_text (generated_instances (suc i))) (omega arith)
    (fits_joined 200 (i * 200 + 200) (canonical_instance (generated_resource i)) (canonical_text (generated_instances i)) (resource_is_short i (omega (arith, few))) (text_fits i (omega (arith, few))))

-- the text is within the limit of a document
pub bytes_within : (n : ℕ) → n ≤ MAX_RESOURCES → length (canonical_bytes (generated_instances n)) ≤ document_limit
bytes_within n few = omega (arith, few, fits_encoded (n * 200 + 200) (canonical_text (generated_instances n)) (text_fits n few))
