-- Where a head says that its body ends (RFC 9112, section 6.3), and which heads say it wrongly.
use Rattle.std.specs.Prelude.{ℕ, Bool, ◌&&◌, ◌||◌, not, List, length, codes, if◌then◌else◌, nat_le, bytes_eq, ◌==◌, Option, Some, None, Result, Ok, Err}
use Rattle.std.specs.List.{list_all, find}
use Rattle.std.specs.Char.{is_ascii_digit}
use Rattle.std.specs.Str.Parse.{digits_value}
use Rattle.http_frames.specs.declared.message.Header.{Header}
use Rattle.http_frames.specs.declared.frame_error.FrameError.{FrameError}
use Rattle.http_frames.specs.declared.frame_error.FrameError.TheVariants.{Coding, Length, NoLength, BodyTooLong}
use Rattle.http_frames.specs.declared.framing.Framing.{Framing}
use Rattle.http_frames.specs.declared.framing.Framing.TheVariants.{Sized, Chunked, ToEnd}
use Rattle.http_frames.specs.Headers.{is_same, is_named, has_named, count_named, all_named}
use Rattle.http_frames.specs.Limits.{answer_limits, request_limits}

-- Transfer-Encoding is `chunked`, alone and once, and Content-Encoding is `identity`, where they are there
unfoldable pub are_codings_known : List Header → Bool
are_codings_known headers =
    nat_le (count_named (codes "transfer-encoding") headers) 1
    && all_named (codes "transfer-encoding") (λ value. is_same value (codes "chunked")) headers
    && all_named (codes "content-encoding") (λ value. is_same value (codes "identity")) headers

-- 1 to 10 digits
abbrev pub is_length : List ℕ → Bool
is_length value = nat_le 1 (length value) && nat_le (length value) 10 && list_all is_ascii_digit value

-- Content-Length stands once at most, not beside a Transfer-Encoding, and is a length
unfoldable pub are_lengths_sound : List Header → Bool
are_lengths_sound headers =
    nat_le (count_named (codes "content-length") headers) 1
    && not (has_named (codes "content-length") headers && has_named (codes "transfer-encoding") headers)
    && all_named (codes "content-length") is_length headers

-- a PUT and a POST say how long their body is
abbrev pub needs_length : List ℕ → Bool
needs_length method = bytes_eq method (codes "PUT") || bytes_eq method (codes "POST")

-- 204 and 304 have no body
abbrev pub has_no_body : ℕ → Bool
has_no_body code = code == 204 || code == 304

-- a body of the length that the header gives
abbrev pub sized_framing : ℕ → Header → Result Framing FrameError
sized_framing limit header =
    if nat_le (digits_value 10 header.value) limit then Ok (Sized (digits_value 10 header.value)) else Err BodyTooLong

-- the framing by a Content-Length, or without one
abbrev pub length_framing : ℕ → Result Framing FrameError → Option Header → Result Framing FrameError
length_framing limit without None = without
length_framing limit without (Some header) = sized_framing limit header

-- a message whose codings and lengths can stand, else the first of the two rules that is broken
abbrev pub sound_framing : List Header → Result Framing FrameError → Result Framing FrameError
sound_framing headers framing =
    if not (are_codings_known headers) then Err Coding
    else (if not (are_lengths_sound headers) then Err Length else framing)

-- in chunks, or by a length
abbrev pub stated_framing : ℕ → Result Framing FrameError → List Header → Result Framing FrameError
stated_framing limit without headers =
    if has_named (codes "transfer-encoding") headers then Ok Chunked
    else length_framing limit without (find (is_named (codes "content-length")) headers)

-- the body of a request, within its limit of content
unfoldable pub request_framing : List ℕ → List Header → Result Framing FrameError
request_framing method headers =
    sound_framing headers
    (stated_framing request_limits.content (if needs_length method then Err NoLength else Ok (Sized 0)) headers)

-- the body of an answer, within its limit of content
unfoldable pub answer_framing : ℕ → List Header → Result Framing FrameError
answer_framing code headers =
    sound_framing headers
    (if has_no_body code then Ok (Sized 0) else stated_framing answer_limits.content (Ok ToEnd) headers)
