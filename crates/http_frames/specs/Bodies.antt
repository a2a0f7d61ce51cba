-- The body at the front of bytes, by its framing.
use Rattle.std.specs.Prelude.{◌≡◌, ℕ, ◌≤◌, ◌⊎◌, List, length, take, if◌then◌else◌, nat_le, Option, Some, None, Result, Ok, Err, IsTrue}
use Rattle.http_frames.specs.declared.framing.Framing.{Framing}
use Rattle.http_frames.specs.declared.framing.Framing.TheVariants.{Sized, Chunked, ToEnd}
use Rattle.http_frames.specs.declared.limits.Limits.{Limits}
use Rattle.http_frames.specs.declared.chunks.Walk.{Walk}
use Rattle.http_frames.specs.declared.body.Progress.{Progress}
use Rattle.http_frames.specs.declared.body.Progress.TheVariants.{More, Front, Joined}
use Rattle.http_frames.specs.declared.frame_error.FrameError.{FrameError}
use Rattle.http_frames.specs.declared.frame_error.FrameError.TheVariants.{BodyTooLong, Memory}
use Rattle.http_frames.specs.Phases.{is_done}
use Rattle.http_frames.specs.Walks.{can_fit, walk_over, content_over, start}

abbrev pub chunked_reading : Result Walk FrameError → List ℕ → Result (Option (List ℕ)) FrameError
chunked_reading (Err e) content = Err e
chunked_reading (Ok walk) content = if is_done walk.phase then Ok (Some content) else Ok None

-- the content of the body at the front of the bytes, none where more bytes are wanted, or what is wrong
unfoldable pub body_reading : Limits → ℕ → Framing → List ℕ → Result (Option (List ℕ)) FrameError
body_reading limits front (Sized n) bytes = if nat_le n (length bytes) then Ok (Some (take n bytes)) else Ok None
body_reading limits front Chunked bytes =
    chunked_reading (walk_over limits front start bytes) (content_over limits front start bytes)
body_reading limits front ToEnd bytes =
    if nat_le (length bytes) limits.content then Ok (Some bytes) else Err BodyTooLong

-- the walk is over the first of the bytes
pub record HasWalked (limits : Limits) (front : ℕ) (bytes : List ℕ) (walk : Walk) : Type 0 where
  pub length : walk.length ≤ length bytes
  pub over : walk_over limits front start (take walk.length bytes) ≡ Ok walk
  pub fits : IsTrue (can_fit limits walk)
  pub line : walk.line ≤ walk.length

-- what was read is the reading, unless it ran out of memory
abbrev pub IsProgress : Limits → ℕ → Framing → List ℕ → Result Progress FrameError → Type 0
IsProgress limits front framing bytes (Ok (More walk)) =
    (body_reading limits front framing bytes ≡ Ok None) × HasWalked limits front bytes walk
IsProgress limits front framing bytes (Ok (Front n)) =
    (n ≤ length bytes) × (body_reading limits front framing bytes ≡ Ok (Some (take n bytes)))
IsProgress limits front framing bytes (Ok (Joined content)) =
    body_reading limits front framing bytes ≡ Ok (Some content.items)
IsProgress limits front framing bytes (Err e) = (e ≡ Memory) ⊎ (body_reading limits front framing bytes ≡ Err e)
