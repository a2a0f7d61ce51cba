-- The forms of replies.
use Rattle.std.specs.Prelude.{ℕ, List, [], ◌∷◌, codes}
use Rattle.sha2.specs.Sha256.{sha256}
use Rattle.shared_key.specs.Checksum.{checksum_of}
use Rattle.http_frames.specs.declared.message.Reply.{Reply}
use Rattle.http_frames.specs.Headers.{header}
use Rattle.http_frames.specs.Replies.{saying}

-- without a body
abbrev pub plain : ℕ → Reply
plain code = saying code []

-- a message
unfoldable pub message_reply : List ℕ → Reply
message_reply body = record {
  code = 200;
  headers = header (codes "Content-Type") (codes "application/json") ∷ [];
  body = body;
}

-- a content under its checksum
unfoldable pub content_reply : List ℕ → Reply
content_reply bytes = record {
  code = 200;
  headers =
      header (codes "Content-Type") (codes "application/octet-stream")
      ∷ header (codes "Checksum") (checksum_of (sha256 bytes))
      ∷ header (codes "ChecksumAlgorithm") (codes "SHA-256")
      ∷ [];
  body = bytes;
}
