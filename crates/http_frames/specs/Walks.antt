-- A walk over a body in chunks, byte by byte.
use Rattle.std.specs.Prelude.{ℕ, ◌+◌, ◌^◌, ◌<◌, Bool, ◌&&◌, List, [], ◌∷◌, if◌then◌else◌, nat_le, Option, Some, None, Result, Ok, Err}
use Rattle.http_frames.specs.declared.chunks.Phase.{Phase}
use Rattle.http_frames.specs.declared.chunks.Phase.TheVariants.{Line, Size, Pad, Extension, SizeReturn, Data, DataEnd, DataReturn, Trailer, TrailerReturn, TrailerText, Done}
use Rattle.http_frames.specs.declared.chunks.Walk.{Walk}
use Rattle.http_frames.specs.declared.limits.Limits.{Limits}
use Rattle.http_frames.specs.declared.frame_error.FrameError.{FrameError}
use Rattle.http_frames.specs.declared.frame_error.FrameError.TheVariants.{BodyTooLong, Chunk}
use Rattle.http_frames.specs.Phases.{next_phase, is_data, is_done, begun_content, least_rest}

-- limits under which the numbers fit 64 bits
abbrev pub AreSmall : Limits → Type 0
AreSmall limits = (limits.content < 2 ^ 32) × (limits.chunked < 2 ^ 32)

-- the front of a body
unfoldable pub start : Walk
start = record { phase = Line; line = 0; length = 0; content = 0 }

-- some rest leaves the content and the whole body within the limits
unfoldable pub can_fit : Limits → Walk → Bool
can_fit limits walk =
    nat_le (walk.content + begun_content walk.phase) limits.content
    && nat_le (walk.length + least_rest walk.phase) limits.chunked

-- where the line, or the line end after a chunk, begins in which a phase stands after n bytes
abbrev pub line_start : Phase → ℕ → ℕ → ℕ
line_start Line n begun = n
line_start DataEnd n begun = n
line_start (Size digits size) n begun = begun
line_start (Pad size) n begun = begun
line_start (Extension size) n begun = begun
line_start (SizeReturn size) n begun = begun
line_start (Data left) n begun = begun
line_start DataReturn n begun = begun
line_start Trailer n begun = begun
line_start TrailerReturn n begun = begun
line_start TrailerText n begun = begun
line_start Done n begun = begun

abbrev pub content_byte : Phase → ℕ
content_byte phase = if is_data phase then 1 else 0

-- one byte on, to that phase
unfoldable pub stepped : Walk → Phase → Walk
stepped walk phase = record {
  phase = phase;
  line = line_start phase (walk.length + 1) walk.line;
  length = walk.length + 1;
  content = walk.content + content_byte walk.phase;
}

-- a walk goes on where it can fit
abbrev pub within : Limits → Walk → Result Walk FrameError
within limits walk = if can_fit limits walk then Ok walk else Err BodyTooLong

abbrev pub step_to : Limits → ℕ → Walk → Option Phase → Result Walk FrameError
step_to limits front walk None = Err (Chunk (front + walk.line))
step_to limits front walk (Some phase) = within limits (stepped walk phase)

-- one byte on, in a message of which front bytes stand before the body
abbrev pub step : Limits → ℕ → Walk → ℕ → Result Walk FrameError
step limits front walk b = step_to limits front walk (next_phase walk.phase b)

abbrev pub and_then_walk : Result Walk FrameError → (Walk → Result Walk FrameError) → Result Walk FrameError
and_then_walk (Ok walk) next = next walk
and_then_walk (Err e) next = Err e

-- the walk over the bytes, up to the end of the body or to the first fault
unfoldable pub walk_over : Limits → ℕ → Walk → List ℕ → Result Walk FrameError
walk_over limits front walk [] = Ok walk
walk_over limits front walk (b ∷ bytes) =
    if is_done walk.phase then Ok walk
    else and_then_walk (step limits front walk b) (λ next. walk_over limits front next bytes)

abbrev pub when_ok : Result Walk FrameError → (Walk → List ℕ) → List ℕ
when_ok (Ok walk) rest = rest walk
when_ok (Err e) rest = []

-- the content among the bytes that are walked over
unfoldable pub content_over : Limits → ℕ → Walk → List ℕ → List ℕ
content_over limits front walk [] = []
content_over limits front walk (b ∷ bytes) =
    when_ok (step limits front walk b) (λ next.
    if is_data walk.phase then b ∷ content_over limits front next bytes else content_over limits front next bytes)
