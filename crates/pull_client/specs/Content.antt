-- Contents, which are accepted only under their announced digest.
use Rattle.std.specs.Prelude.{◌≡◌, ℕ, Bool, not, ◌||◌, nat_le, List, [], ◌∷◌, length, if◌then◌else◌, bytes_eq, codes, Option, Some, None, Result, Ok, Err}
use Rattle.std.specs.List.{list_all}
use Rattle.sha2.specs.Sha256.{sha256}
use Rattle.shared_key.specs.Checksum.{spelled_digest}
use Rattle.mof_syntax.specs.declared.limits.TheConstants.{MAX_DOCUMENT}
use Rattle.http_frames.specs.declared.message.Header.{Header}
use Rattle.http_frames.specs.declared.message.Reply.{Reply}
use Rattle.http_frames.specs.Headers.{is_named, is_same}
use Rattle.partial_merge.specs.declared.part.Part.{Part}
use Rattle.pull_client.specs.declared.error.PeerError.{PeerError}
use Rattle.pull_client.specs.declared.error.PeerError.TheVariants.{TooLong, NoChecksum, Mismatch}

-- the digest that a header announces
abbrev pub checksum_in : Header → Option (List ℕ)
checksum_in header = if is_named (codes "Checksum") header then spelled_digest header.value else None

-- this one, or else the next
abbrev pub or_next : Option (List ℕ) → Option (List ℕ) → Option (List ℕ)
or_next (Some digest) next = Some digest
or_next None next = next

-- the digest of the first Checksum header of 64 hexadecimal digits
abbrev pub announced : List Header → Option (List ℕ)
announced [] = None
announced (header ∷ headers) = or_next (checksum_in header) (announced headers)

-- the header is no ChecksumAlgorithm, or its value is SHA-256 by fold
abbrev pub is_sha256_if_named : Header → Bool
is_sha256_if_named header = not (is_named (codes "ChecksumAlgorithm") header) || is_same header.value (codes "SHA-256")

abbrev pub is_sha256 : List Header → Bool
is_sha256 headers = list_all is_sha256_if_named headers

-- a body under the digest that was announced for it
abbrev pub under_digest : Option (List ℕ) → List ℕ → Result (List ℕ) PeerError
under_digest None body = Err NoChecksum
under_digest (Some digest) body = if bytes_eq digest (sha256 body) then Ok body else Err (Mismatch digest (sha256 body))

-- the body of a reply, where its digest is that which its headers announce
abbrev pub checked_body : Reply → Result (List ℕ) PeerError
checked_body reply = if is_sha256 reply.headers then under_digest (announced reply.headers) reply.body else Err NoChecksum

-- a document has at most 8,388,608 bytes
abbrev pub within_document : Result (List ℕ) PeerError → Result (List ℕ) PeerError
within_document (Ok body) = if nat_le (length body) MAX_DOCUMENT then Ok body else Err TooLong
within_document (Err e) = Err e

-- the content that a reply is
abbrev pub content_of : Reply → Result (List ℕ) PeerError
content_of reply = within_document (checked_body reply)

-- the part of that name and content; that its digest is the digest of its bytes is a fact of every part
abbrev pub IsPartOf : List ℕ → Result (List ℕ) PeerError → Result Part PeerError → Type 0
IsPartOf name (Ok content) (Ok part) = (part.name ≡ name) × (part.bytes ≡ content)
IsPartOf name (Ok content) (Err e) = ⊥
IsPartOf name (Err e) result = result ≡ Err e

abbrev pub GivesPart : List ℕ → Reply → Result Part PeerError → Type 0
GivesPart name reply result = IsPartOf name (content_of reply) result

-- what was given, seen as a list
abbrev pub items_in : {T A : Type 0} → Result T PeerError → (T → List A) → Result (List A) PeerError
items_in (Ok items) view = Ok (view items)
items_in (Err e) view = Err e

abbrev pub GivesBody : Reply → Result (List ℕ) PeerError → Type 0
GivesBody reply result = result ≡ checked_body reply
