-- The canonical text of generated instances is read as these.
use Rattle.std.proofs.Common.{◌≡◌, ℕ, zero, suc, ◌/◌, ◌<◌, ◌≤◌, ◌&&◌, nat_lt, true, List, [], ◌∷◌, ◌++◌, length, codes, refl, ap, arith}
use Rattle.std.specs.Char.{is_ascii}
use Rattle.std.specs.Fmt.{decimal}
use Rattle.std.specs.List.{AllByRecursion, list_all}
use Rattle.std.proofs.lemmas.Bool.{and_parts}
use Rattle.std.proofs.lemmas.Bool.Decides.{nat_tests}
use lib.Utf8.{scalar}
use Rattle.mof_values.specs.Ident.{IsIdent}
use Rattle.mof_syntax.specs.Canonical.{canonical_bytes}
use Rattle.mof_syntax.specs.Refusals.{Reads}
use Rattle.mof_codec.specs.Written.{AreChars, InstanceIsValid, PropertyIsValid}
use Rattle.mof_codec.proofs.CanonicalBytes.{canonical_reads}
use Rattle.generated_document.specs.Generated.{dependency, generated_header, generated_instances, generated_resource, id_of_number, text_property}
use Rattle.generated_document.proofs.Decimals.{decimal_digits, decimal_short}
use Rattle.generated_document.proofs.Fits.{Fits, fits_digits, fits_joined, fits_word}
use Rattle.generated_document.proofs.Lengths.{bytes_within}
use Rattle.generated_document.proofs.Within.{instances_within}
use Rattle.dsc_document.specs.declared.limits.TheConstants.{MAX_RESOURCES}

scalar_ascii : (c : ℕ) → nat_lt c 128 ≡ true → scalar c ≡ true
scalar_ascii c low = grind (arith, nat_tests)

ascii_chars : (text : List ℕ) → list_all is_ascii text ≡ true → AreChars text
ascii_chars [] all = refl
ascii_chars (c ∷ text) all =
    let parts = and_parts (nat_lt c 128) (list_all is_ascii text) all in
    let here : scalar c ≡ true = scalar_ascii c parts.0 in
    let after : AreChars text = ascii_chars text parts.1 in
    λ i. here i && after i

-- a word and a number
numbered_chars : (word : List ℕ) (i : ℕ) → i < MAX_RESOURCES → Fits 14 word → AreChars (word ++ decimal i)
numbered_chars word i small fits =
    ascii_chars (word ++ decimal i) (fits_joined 14 4 word (decimal i) fits (fits_digits 4 (decimal i) (decimal_digits i small) (decimal_short i small))).ascii

property_valid : (name text : List ℕ) → IsIdent name → AreChars name → AreChars text → PropertyIsValid (text_property name text)
property_valid name text ident chars valued = record { name = record { ident = ident; chars = chars }; value = valued }

id_chars : (i : ℕ) → i < MAX_RESOURCES → AreChars (id_of_number i)
id_chars i small = numbered_chars (codes "[Environment]R") i small (fits_word 14 (codes "[Environment]R") refl (omega arith))

dependency_valid : (i : ℕ) → i < MAX_RESOURCES → AllByRecursion PropertyIsValid (dependency i)
dependency_valid zero small = tt
dependency_valid (suc i) small = (property_valid (codes "DependsOn") (id_of_number (i / 2)) refl refl (id_chars (i / 2) (omega (arith, small))), tt)

resource_valid : (i : ℕ) → i < MAX_RESOURCES → InstanceIsValid (generated_resource i)
resource_valid i small = record {
  class = record { ident = refl; chars = refl };
  alias = tt;
  each = (
    property_valid (codes "ResourceID") (id_of_number i) refl refl (id_chars i small),
    (
      property_valid (codes "Name") (codes "V" ++ decimal i) refl refl (numbered_chars (codes "V") i small (fits_word 14 (codes "V") refl (omega arith))),
      (property_valid (codes "Value") (decimal i) refl refl (numbered_chars [] i small (fits_word 14 [] refl (omega arith))), dependency_valid i small),
    ),
  );
}

header_valid : InstanceIsValid generated_header
header_valid = record {
  class = record { ident = refl; chars = refl };
  alias = tt;
  each = (property_valid (codes "Version") (codes "2.0.0") refl refl refl, tt);
}

instances_valid : (n : ℕ) → n ≤ MAX_RESOURCES → AllByRecursion InstanceIsValid (generated_instances n)
instances_valid zero few = (header_valid, tt)
instances_valid (suc i) few = (resource_valid i (omega (arith, few)), instances_valid i (omega (arith, few)))

pub generated_reads : (n : ℕ) (bytes : List ℕ) → n ≤ MAX_RESOURCES → bytes ≡ canonical_bytes (generated_instances n) → Reads bytes (generated_instances n)
generated_reads n bytes few are =
    canonical_reads (generated_instances n) bytes are (instances_valid n few) (instances_within n few) (omega (arith, ap length are, bytes_within n few))
