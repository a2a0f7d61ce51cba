-- The bytes of parts.
use Rattle.std.specs.Prelude.{◌≤◌, ℕ, List, ◌++◌, length, encode_utf8_all}
use Rattle.store_fields.specs.Fields.{bytes_of_text, bytes_of_digest, bytes_of_blob, bytes_of_list, IsText, IsDigest, IsBlob, IsList}
use Rattle.partial_merge.specs.declared.part.Part.{Part}
use Rattle.store_fields.specs.declared.limits.TheConstants.{MAX_TEXT}

-- its name, its digest and its bytes
abbrev pub bytes_of_part : Part → List ℕ
bytes_of_part part = bytes_of_text part.name ++ (bytes_of_digest part.digest ++ bytes_of_blob part.bytes)

abbrev pub IsPart : Part → Type 0
IsPart part = IsText MAX_TEXT part.name × IsDigest part.digest × IsBlob part.bytes

-- what a writer needs to know of its lengths
abbrev pub FitsPart : Part → Type 0
FitsPart part = (length (encode_utf8_all part.name) ≤ MAX_TEXT) × IsBlob part.bytes

abbrev pub bytes_of_parts : List Part → List ℕ
bytes_of_parts parts = bytes_of_list bytes_of_part parts

abbrev pub AreParts : List Part → Type 0
AreParts parts = IsList IsPart parts
