-- What was seen of contents within one request.
use Rattle.std.specs.Prelude.{◌≡◌, ℕ, Bool, List, Option, Some, IfSome}
use Rattle.sha2.specs.Sha256.{sha256}
use Rattle.pull_outside.specs.Shelf.{Contents}
use Rattle.pull_server.specs.declared.seen.Seen.{Seen}
use Rattle.pull_server.specs.Actions.{is_digest}
use Rattle.pull_server.specs.Contents.{content_for}

-- the agent may have a content of that name, and the digest, where there is one, is the content's
abbrev pub IsSeen : Contents → List (List ℕ) → Seen → Type 0
IsSeen shelf names seen = (content : List ℕ) × (content_for shelf names seen.name ≡ Some content) × IfSome seen.digest (λ digest. digest ≡ sha256 content)

-- the agent may have a content of that name, and whether it is of the digest that is held
abbrev pub IsKnown : Contents → List (List ℕ) → List ℕ → Option (List ℕ) → Bool → Type 0
IsKnown shelf names name held same = (content : List ℕ) × (content_for shelf names name ≡ Some content) × (same ≡ is_digest held content)
