-- The lines of a head, counted by their line feeds.
use Rattle.std.specs.Prelude.{ℕ, zero, suc, Bool, false, ◌||◌, ◌+◌, not, List, [], ◌∷◌, if◌then◌else◌, ◌==◌, Option, Some, None}
use Rattle.http_frames.specs.Limits.{header_lines}

-- CR or LF
abbrev pub is_break : ℕ → Bool
is_break b = b == 13 || b == 10

-- the bytes from the first on that ends no line
unfoldable pub skip_breaks : List ℕ → List ℕ
skip_breaks [] = []
skip_breaks (b ∷ bytes) = if is_break b then skip_breaks bytes else b ∷ bytes

-- the bytes after that many line feeds
unfoldable pub skip_lines : ℕ → List ℕ → Option (List ℕ)
skip_lines zero bytes = Some bytes
skip_lines (suc n) [] = None
skip_lines (suc n) (b ∷ bytes) = if b == 10 then skip_lines n bytes else skip_lines (suc n) bytes

-- a line that is not empty has begun
abbrev pub begins_line : List ℕ → Bool
begins_line [] = false
begins_line (b ∷ bytes) = not (is_break b)

abbrev pub begins_line_there : Option (List ℕ) → Bool
begins_line_there None = false
begins_line_there (Some rest) = begins_line rest

-- after the start line and 64 header lines another has begun
unfoldable pub begins_extra_line : List ℕ → Bool
begins_extra_line head = begins_line_there (skip_lines (header_lines + 1) (skip_breaks head))
