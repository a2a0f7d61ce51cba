-- What a sink holds after a write that may have failed.
use Rattle.std.specs.Prelude.{ℕ, List, ◌++◌, ◌≡◌, Option}
use Rattle.std.specs.Io.KnownBytes.{Appends}

-- it grew by a part from the front of the bytes
abbrev pub AppendsPart : Option (List ℕ) → Option (List ℕ) → List ℕ → Type 0
AppendsPart old new bytes = (part : List ℕ) × (rest : List ℕ) × (bytes ≡ part ++ rest) × Appends old new part
