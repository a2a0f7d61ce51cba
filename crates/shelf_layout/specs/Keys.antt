-- The keys of a text.
use Rattle.std.specs.Prelude.{ℕ, List, [], ◌∷◌, Bool, length, if◌then◌else◌, ◌==◌}
use Rattle.std.specs.Str.Lines.{lines}

abbrev pub is_line_feed : ℕ → Bool
is_line_feed b = b == 10

-- a line is a key, unless it is empty
abbrev pub with_line : List ℕ → List (List ℕ) → List (List ℕ)
with_line line keys = if length line == 0 then keys else line ∷ keys

abbrev pub keys_of : List (List ℕ) → List (List ℕ)
keys_of [] = []
keys_of (line ∷ more) = with_line line (keys_of more)

-- the lines of the text that are not empty. A line ends with a line feed, before which one carriage return is left out, or with the text
abbrev pub keys_in : List ℕ → List (List ℕ)
keys_in text = keys_of (lines text)
