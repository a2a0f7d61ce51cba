-- The places inside a request's head (RFC 9112, sections 2 to 5), and where the next byte leads.
use Rattle.std.specs.Prelude.{ℕ, ◌+◌, ◌-◌, Bool, true, false, ◌||◌, if◌then◌else◌, nat_lt, ◌==◌, List, [], ◌∷◌, codes, slice_index, Option, Some, None, option_and_then}
use Rattle.httparse.specs.Grammar.{is_token_byte, is_uri_byte, is_value_byte}
use Rattle.http_frames.specs.declared.head_places.Place.{Place}
use Rattle.http_frames.specs.declared.head_places.Place.TheVariants.{Front, FrontReturn, Method, TargetFront, Target, Version, VersionEnd, StartReturn, Line, LastReturn, Name, Value, ValueReturn, Whole}
use Rattle.http_frames.specs.Limits.{header_lines}

abbrev pub when_byte : ℕ → ℕ → Place → Option Place
when_byte wanted b place = if b == wanted then Some place else None

-- the end of a line, by CR LF or by LF alone
abbrev pub next_at_end : Place → Place → ℕ → Option Place
next_at_end returned ended b = if b == 13 then Some returned else when_byte 10 b ended

-- after n bytes of "HTTP/1.", and after all of them 0 or 1
abbrev pub next_in_version : ℕ → ℕ → Option Place
next_in_version n b =
    if nat_lt n 7 then when_byte (slice_index (codes "HTTP/1.") n) b (Version (n + 1))
    else (if b == 48 || b == 49 then Some VersionEnd else None)

-- a header line begins, where one more may stand
abbrev pub named : ℕ → Option Place
named left = if nat_lt 0 left then Some (Name (left - 1)) else None

-- the place after the byte b, or none where b cannot stand here
unfoldable pub next_place : Place → ℕ → Option Place
next_place Front b = if is_token_byte b then Some Method else next_at_end FrontReturn Front b
next_place FrontReturn b = when_byte 10 b Front
next_place Method b = if is_token_byte b then Some Method else when_byte 32 b TargetFront
next_place TargetFront b = if is_uri_byte b then Some Target else None
next_place Target b = if is_uri_byte b then Some Target else when_byte 32 b (Version 0)
next_place (Version n) b = next_in_version n b
next_place VersionEnd b = next_at_end StartReturn (Line header_lines) b
next_place StartReturn b = when_byte 10 b (Line header_lines)
next_place (Line left) b = if is_token_byte b then named left else next_at_end LastReturn Whole b
next_place LastReturn b = when_byte 10 b Whole
next_place (Name left) b = if is_token_byte b then Some (Name left) else when_byte 58 b (Value left)
next_place (Value left) b = if is_value_byte b then Some (Value left) else next_at_end (ValueReturn left) (Line left) b
next_place (ValueReturn left) b = when_byte 10 b (Line left)
next_place Whole b = None

-- the place is after the start line
abbrev pub is_in_lines : Place → Bool
is_in_lines (Line left) = true
is_in_lines LastReturn = true
is_in_lines (Name left) = true
is_in_lines (Value left) = true
is_in_lines (ValueReturn left) = true
is_in_lines Whole = true
is_in_lines Front = false
is_in_lines FrontReturn = false
is_in_lines Method = false
is_in_lines TargetFront = false
is_in_lines Target = false
is_in_lines (Version n) = false
is_in_lines VersionEnd = false
is_in_lines StartReturn = false

-- the head is at its end
abbrev pub is_whole : Place → Bool
is_whole Whole = true
is_whole Front = false
is_whole FrontReturn = false
is_whole Method = false
is_whole TargetFront = false
is_whole Target = false
is_whole (Version n) = false
is_whole VersionEnd = false
is_whole StartReturn = false
is_whole (Line left) = false
is_whole LastReturn = false
is_whole (Name left) = false
is_whole (Value left) = false
is_whole (ValueReturn left) = false

-- the target, and the space after it, are at their end
abbrev pub ends_target : Place → Bool
ends_target (Version n) = n == 0
ends_target Front = false
ends_target FrontReturn = false
ends_target Method = false
ends_target TargetFront = false
ends_target Target = false
ends_target VersionEnd = false
ends_target StartReturn = false
ends_target (Line left) = false
ends_target LastReturn = false
ends_target (Name left) = false
ends_target (Value left) = false
ends_target (ValueReturn left) = false
ends_target Whole = false

-- the place after the bytes, or after a whole head at their front
unfoldable pub place_after : Place → List ℕ → Option Place
place_after place [] = Some place
place_after place (b ∷ bytes) =
    if is_whole place then Some place else option_and_then (λ next. place_after next bytes) (next_place place b)
