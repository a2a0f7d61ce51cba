-- What a connection gives and takes.
use Rattle.std.specs.Prelude.{◌≡◌, ◌≢◌, ◌⊎◌, ◌≤◌, ℕ, List, [], ◌++◌, length, codes, Option, Some, None, ⊤}
use Rattle.std.specs.Fmt.{decimal}
use Rattle.std.specs.Io.KnownBytes.{Appends}
use Rattle.dsc_terms.specs.Counts.{Rose}
use Rattle.dsc_outside.specs.Streams.{AppendsPart}
use Rattle.http_frames.specs.declared.frame_error.FrameError.{FrameError}
use Rattle.http_frames.specs.declared.frame_error.FrameError.TheVariants as frames
use Rattle.http_frames.specs.declared.message.Reply.{Reply}
use Rattle.http_frames.specs.Frames.{AwaitsRest, BeginsWithRequest, RefusesRequest}
use Rattle.http_frames.specs.Limits.{request_limits}
use Rattle.http_frames.specs.Replies.{saying}
use Rattle.pull_exchange.specs.declared.exchange.Received.{Received}
use Rattle.pull_exchange.specs.declared.exchange.Received.TheVariants as received
use Rattle.pull_exchange.specs.declared.exchange.SendEnd.{SendEnd}
use Rattle.pull_exchange.specs.declared.exchange.SendEnd.TheVariants as ends

-- ---- refusals

-- bytes that end inside a request are not refused, and out of memory nothing is
abbrev pub IsRefusal : FrameError → Type 0
IsRefusal (frames.Torn at) = ⊥
IsRefusal frames.Memory = ⊥
IsRefusal frames.Head = ⊤
IsRefusal frames.HeadTooLong = ⊤
IsRefusal frames.Coding = ⊤
IsRefusal frames.Length = ⊤
IsRefusal frames.NoLength = ⊤
IsRefusal frames.BodyTooLong = ⊤
IsRefusal (frames.Chunk at) = ⊤

-- the rows of the answer table for bytes that are no request
abbrev pub refusal_of : FrameError → Reply
refusal_of frames.Head = saying 400 (codes "head")
refusal_of frames.HeadTooLong = saying 400 (codes "head")
refusal_of frames.Coding = saying 501 []
refusal_of frames.Length = saying 400 (codes "length")
refusal_of frames.NoLength = saying 411 []
refusal_of frames.BodyTooLong = saying 413 []
refusal_of (frames.Chunk at) = saying 400 (codes "chunk " ++ decimal at)
refusal_of (frames.Torn at) = saying 400 []
refusal_of frames.Memory = saying 400 []

-- ---- one request

-- some front of the bytes is refused so
abbrev pub IsRefused : List ℕ → FrameError → Type 0
IsRefused bytes e = (front : List ℕ) × (rest : List ℕ) × (bytes ≡ front ++ rest) × RefusesRequest front e

-- what all bytes of a connection give
abbrev pub IsReceived : List ℕ → Received → Type 0
IsReceived bytes (received.Request request) = BeginsWithRequest bytes request
IsReceived bytes (received.Refused e) = IsRefused bytes e
IsReceived bytes (received.Torn at) = AwaitsRest bytes × (at ≡ length bytes)
IsReceived bytes received.ReadFault = ⊤
IsReceived bytes received.Memory = ⊤

-- what is received where the reader answers an error
abbrev pub received_of : FrameError → Received
received_of frames.Memory = received.Memory
received_of e = received.Refused e

-- what is received whatever the connection shows
abbrev pub IsSized : Received → Type 0
IsSized (received.Request request) = length request.body ≤ request_limits.content
IsSized (received.Refused e) = IsRefusal e
IsSized (received.Torn at) = ⊤
IsSized received.ReadFault = ⊤
IsSized received.Memory = ⊤

abbrev pub IsReadCause : ℕ → ℕ → Received → Type 0
IsReadCause before now (received.Request request) = ⊤
IsReadCause before now (received.Refused e) = ⊤
IsReadCause before now (received.Torn at) = ⊤
IsReadCause before now received.ReadFault = Rose before now
IsReadCause before now received.Memory = ⊤

-- ---- one reply

-- the whole text was written, or the sink failed and a part from its front was
abbrev pub Writes : Option (List ℕ) → Option (List ℕ) → List ℕ → ℕ → ℕ → Type 0
Writes old new text before now = Appends old new text ⊎ (Rose before now × AppendsPart old new text)

-- what was written of a text, and why not all of it
abbrev pub IsSent : Option (List ℕ) → Option (List ℕ) → List ℕ → ℕ → ℕ → SendEnd → Type 0
IsSent old new text before now ends.Sent = Appends old new text
IsSent old new text before now ends.WriteFault = AppendsPart old new text × Rose before now
IsSent old new text before now ends.Memory = new ≡ old
