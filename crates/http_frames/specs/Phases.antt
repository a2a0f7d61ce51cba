-- The places inside a body in chunks (RFC 9112, section 7.1), and where the next byte leads.
use Rattle.std.specs.Prelude.{ℕ, ◌+◌, ◌*◌, ◌-◌, Bool, true, false, if◌then◌else◌, nat_lt, ◌==◌, Option, Some, None}
use Rattle.std.specs.Char.{is_ascii_hexdigit, digit_value}
use Rattle.httparse.specs.Grammar.{is_ows}
use Rattle.http_frames.specs.declared.chunks.Phase.{Phase}
use Rattle.http_frames.specs.declared.chunks.Phase.TheVariants.{Line, Size, Pad, Extension, SizeReturn, Data, DataEnd, DataReturn, Trailer, TrailerReturn, TrailerText, Done}

-- after the size of a chunk: blanks, an extension, or the line's end
abbrev pub after_size : ℕ → ℕ → Option Phase
after_size size b =
    if is_ows b then Some (Pad size)
    else (if b == 59 then Some (Extension size) else (if b == 13 then Some (SizeReturn size) else None))

-- after the line of a chunk; the one of size 0 is the last
abbrev pub after_chunk_line : ℕ → Phase
after_chunk_line size = if size == 0 then Trailer else Data size

abbrev pub next_in_size : ℕ → ℕ → ℕ → Option Phase
next_in_size digits size b =
    if is_ascii_hexdigit b
    then (if nat_lt digits 16 then Some (Size (digits + 1) (size * 16 + digit_value b)) else None)
    else after_size size b

abbrev pub next_in_extension : ℕ → ℕ → Option Phase
next_in_extension size b =
    if b == 13 then Some (SizeReturn size) else (if b == 10 then None else Some (Extension size))

abbrev pub next_in_trailer : ℕ → Phase
next_in_trailer b = if b == 10 then Done else (if b == 13 then TrailerReturn else TrailerText)

-- the place after the byte b, or none where b cannot stand here
unfoldable pub next_phase : Phase → ℕ → Option Phase
next_phase Line b = if is_ascii_hexdigit b then Some (Size 1 (digit_value b)) else None
next_phase (Size digits size) b = next_in_size digits size b
next_phase (Pad size) b = after_size size b
next_phase (Extension size) b = next_in_extension size b
next_phase (SizeReturn size) b = if b == 10 then Some (after_chunk_line size) else None
next_phase (Data left) b = Some (if left == 1 then DataEnd else Data (left - 1))
next_phase DataEnd b = if b == 13 then Some DataReturn else None
next_phase DataReturn b = if b == 10 then Some Line else None
next_phase Trailer b = Some (next_in_trailer b)
next_phase TrailerReturn b = Some (if b == 10 then Done else TrailerText)
next_phase TrailerText b = Some (if b == 10 then Trailer else TrailerText)
next_phase Done b = None

-- the byte at this place is one of the content
abbrev pub is_data : Phase → Bool
is_data (Data left) = true
is_data Line = false
is_data (Size digits size) = false
is_data (Pad size) = false
is_data (Extension size) = false
is_data (SizeReturn size) = false
is_data DataEnd = false
is_data DataReturn = false
is_data Trailer = false
is_data TrailerReturn = false
is_data TrailerText = false
is_data Done = false

abbrev pub is_done : Phase → Bool
is_done Done = true
is_done (Data left) = false
is_done Line = false
is_done (Size digits size) = false
is_done (Pad size) = false
is_done (Extension size) = false
is_done (SizeReturn size) = false
is_done DataEnd = false
is_done DataReturn = false
is_done Trailer = false
is_done TrailerReturn = false
is_done TrailerText = false

-- the content that has to come in the chunk that has begun
unfoldable pub begun_content : Phase → ℕ
begun_content (Size digits size) = size
begun_content (Pad size) = size
begun_content (Extension size) = size
begun_content (SizeReturn size) = size
begun_content (Data left) = left
begun_content Line = 0
begun_content DataEnd = 0
begun_content DataReturn = 0
begun_content Trailer = 0
begun_content TrailerReturn = 0
begun_content TrailerText = 0
begun_content Done = 0

-- the shortest rest after a size, from the line's end on
abbrev pub least_after : ℕ → ℕ
least_after size = if size == 0 then 1 else size + 6

-- the length of the shortest rest of the body
unfoldable pub least_rest : Phase → ℕ
least_rest Line = 4
least_rest (Size digits size) = 2 + least_after size
least_rest (Pad size) = 2 + least_after size
least_rest (Extension size) = 2 + least_after size
least_rest (SizeReturn size) = 1 + least_after size
least_rest (Data left) = left + 6
least_rest DataEnd = 6
least_rest DataReturn = 5
least_rest Trailer = 1
least_rest TrailerReturn = 1
least_rest TrailerText = 2
least_rest Done = 0
