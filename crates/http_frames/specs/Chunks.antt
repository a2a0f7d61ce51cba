-- Bodies in chunks (RFC 9112, section 7.1). Chunk extensions and the lines of the trailer are dropped.
use Rattle.std.specs.Prelude.{◌≡◌, ◌≢◌, ◌⊎◌, ℕ, ◌<◌, ◌≤◌, List, [], ◌∷◌, ◌++◌, length}
use Rattle.std.specs.List.{AllPass}
use Rattle.std.specs.Prelude.{Bool, not, ◌==◌}
use Rattle.http_frames.specs.declared.limits.Limits.{Limits}
use Rattle.httparse.specs.Ascii.{crlf_bytes, line_feed, carriage_return}
use Rattle.httparse.specs.Grammar.{ChunkLine, IsChunkLine, print_chunk_line, chunk_size, LineEnd, print_end}

-- any byte but LF
abbrev pub is_trailer_byte : ℕ → Bool
is_trailer_byte b = not (b == line_feed)

-- a line of the trailer without its LF: not an empty line
pub record IsTrailerLine (line : List ℕ) : Type 0 where
  pub bytes : AllPass is_trailer_byte line
  pub some : line ≢ []
  pub more : line ≢ carriage_return ∷ []

-- the lines of the trailer, and the empty line that ends them
pub data Trailer : List ℕ → Type 0 where
  ended : (bytes : List ℕ) (last : LineEnd) → bytes ≡ print_end last → Trailer bytes
  lined : (bytes line rest : List ℕ) → IsTrailerLine line → bytes ≡ line ++ line_feed ∷ rest → Trailer rest → Trailer bytes

-- the bytes are a body in chunks, and this is its content
pub data Chunked : List ℕ → List ℕ → Type 0 where
  last_chunk : (bytes : List ℕ) (line : ChunkLine) (rest : List ℕ) → IsChunkLine line → chunk_size line ≡ 0
      → bytes ≡ print_chunk_line line ++ rest → Trailer rest → Chunked bytes []
  chunk : (bytes content : List ℕ) (line : ChunkLine) (part rest more : List ℕ) → IsChunkLine line
      → chunk_size line ≡ length part → 0 < length part → bytes ≡ print_chunk_line line ++ (part ++ (crlf_bytes ++ rest))
      → content ≡ part ++ more → Chunked rest more → Chunked bytes content

-- such a body within the limits
pub record IsBodyWithin (limits : Limits) (bytes content : List ℕ) : Type 0 where
  pub chunked : Chunked bytes content
  pub content_fits : length content ≤ limits.content
  pub length_fits : length bytes ≤ limits.chunked

-- some continuation of the bytes is a body within the limits
abbrev pub CanBeBody : Limits → List ℕ → Type 0
CanBeBody limits bytes = (more : List ℕ) × (content : List ℕ) × IsBodyWithin limits (bytes ++ more) content

-- no body is at the front of the bytes
abbrev pub LacksBody : List ℕ → Type 0
LacksBody bytes = (whole rest content : List ℕ) → bytes ≡ whole ++ rest → ¬ (Chunked whole content)

-- whole chunks: after them any body makes a body
abbrev pub AreChunks : List ℕ → Type 0
AreChunks bytes = (body content : List ℕ) → Chunked body content → (joined : List ℕ) × Chunked (bytes ++ body) joined

-- after the bytes begins a chunk line, or the line end of a chunk
abbrev pub LineBegins : List ℕ → Type 0
LineBegins bytes = AreChunks bytes ⊎ AreChunks (bytes ++ crlf_bytes)

-- the line in which the bytes end begins at this place
pub record IsLineStart (bytes : List ℕ) (place : ℕ) : Type 0 where
  pub front : List ℕ
  pub begun : List ℕ
  pub split : bytes ≡ front ++ begun
  pub place_is : place ≡ length front
  pub begins : LineBegins front
  pub inside : AllPass is_trailer_byte begun

-- up to the byte that is wrong, in the line that begins at this place, the bytes could become a body within the limits, and with it they are the beginning of none
pub record StopsWrong (limits : Limits) (bytes : List ℕ) (place : ℕ) : Type 0 where
  pub before : List ℕ
  pub wrong : ℕ
  pub rest : List ℕ
  pub split : bytes ≡ before ++ wrong ∷ rest
  pub could_be : CanBeBody limits before
  pub line : IsLineStart before place
  pub never : (more content : List ℕ) → ¬ (Chunked (before ++ wrong ∷ more) content)

-- up to that byte they could, and with it they are the beginning of a body, but of none within the limits
pub record StopsLong (limits : Limits) (bytes : List ℕ) : Type 0 where
  pub before : List ℕ
  pub last : ℕ
  pub rest : List ℕ
  pub split : bytes ≡ before ++ last ∷ rest
  pub could_be : CanBeBody limits before
  pub begins : (more : List ℕ) × (content : List ℕ) × Chunked (before ++ last ∷ more) content
  pub never : (more content : List ℕ) → ¬ (IsBodyWithin limits (before ++ last ∷ more) content)
