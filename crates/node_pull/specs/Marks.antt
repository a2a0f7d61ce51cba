-- Marks of parts: their names and digests.
use Rattle.std.specs.Prelude.{Bool, ◌&&◌, true, false, List, [], ◌∷◌, bytes_eq}
use Rattle.partial_merge.specs.declared.part.Part.{Part}
use Rattle.report_log.specs.declared.report.PartMark.{PartMark}

abbrev pub mark_of : Part → PartMark
mark_of part = record { name = part.name; digest = part.digest }

-- two lists of parts have the same names and bytes, in the same order, and so are the same
abbrev pub same_parts : List Part → List Part → Bool
same_parts [] [] = true
same_parts [] (part ∷ parts) = false
same_parts (other ∷ others) [] = false
same_parts (other ∷ others) (part ∷ parts) = (bytes_eq other.name part.name && bytes_eq other.bytes part.bytes) && same_parts others parts

-- two lists of parts have the same names and digests, in the same order
abbrev pub same_marks : List Part → List Part → Bool
same_marks [] [] = true
same_marks [] (part ∷ parts) = false
same_marks (other ∷ others) [] = false
same_marks (other ∷ others) (part ∷ parts) = (bytes_eq other.name part.name && bytes_eq other.digest part.digest) && same_marks others parts
