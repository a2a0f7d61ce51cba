-- A part in two pieces: its document, and what stands before that.
use Rattle.std.specs.Prelude.{ℕ, List, ◌++◌, length}
use Rattle.std.specs.Int.{w32}
use Rattle.store_fields.specs.Fields.{bytes_of_number, bytes_of_text, bytes_of_digest}
use Rattle.partial_merge.specs.declared.part.Part.{Part}

-- a part, but for its document
abbrev pub front_of_part : Part → List ℕ
front_of_part part = bytes_of_text part.name ++ (bytes_of_digest part.digest ++ bytes_of_number w32 (length part.bytes))
