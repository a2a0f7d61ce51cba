-- The hyphenated form of an identifier, character by character; for private clauses.
use Rattle.std.specs.Prelude.{◌≡◌, ◌<◌, ℕ, List, length, slice_index, Bool, true, ◌==◌, if◌then◌else◌}
use Rattle.uuid.specs.Text.{is_hyphen_place, is_hex_digit}

-- the character may stand at that place
abbrev pub is_cell : ℕ → ℕ → Bool
is_cell place c = if is_hyphen_place place then c == 45 else is_hex_digit c

abbrev pub AreCells : List ℕ → Type 0
AreCells text = (k : ℕ) → k < length text → is_cell k (slice_index text k) ≡ true

abbrev pub AreAllCells : List ℕ → Type 0
AreAllCells text = AreCells text × (length text ≡ 36)
