-- What comes of a request means one answer.
use Rattle.std.specs.Prelude.{◌≡◌, ◌≢◌, ℕ, List, Result, Ok, Err}
use Rattle.dsc_outside.specs.declared.exchange.ExchangeOutcome.{ExchangeOutcome}
use Rattle.http_frames.specs.declared.message.Reply.{Reply}
use Rattle.partial_merge.specs.declared.part.Part.{Part}
use Rattle.report_log.specs.declared.report.PartMark.{PartMark}
use Rattle.pull_client.specs.declared.error.PeerError.{PeerError}
use Rattle.pull_client.specs.declared.error.PeerError.TheVariants.{Memory}
use Rattle.pull_client.specs.Content.{GivesBody, GivesPart}
use Rattle.pull_client.specs.Heard.{Heard, IsDone}
use Rattle.pull_client.specs.Queries.{Tells}

-- of the same outcome two answers are the same, where memory ran out in neither
abbrev pub MeansOne : {T : Type 0} → (Reply → Result T PeerError → Type 0) → (Result T PeerError → Result T PeerError → Type 0) → Type 0
MeansOne {T} Says Same =
    (outcome : ExchangeOutcome) (a b : Result T PeerError) → a ≢ Err Memory → b ≢ Err Memory
    → Heard Says outcome a → Heard Says outcome b → Same a b

-- parts of one name and the same bytes, or one error; that a part's digest is the digest of its bytes is a fact of every part
abbrev pub SamePart : Result Part PeerError → Result Part PeerError → Type 0
SamePart (Ok a) (Ok b) = (a.name ≡ b.name) × (a.bytes ≡ b.bytes)
SamePart (Ok a) (Err e) = ⊥
SamePart (Err e) result = result ≡ Err e

-- of each call
pub record OneMeaning : Type 0 where
  pub done : MeansOne IsDone (λ a b. a ≡ b)
  pub part : (name : List ℕ) → MeansOne (GivesPart name) SamePart
  pub body : MeansOne GivesBody (λ a b. a ≡ b)
  pub queried : (held : List PartMark) (names : List (List ℕ)) → MeansOne (Tells held names) (λ a b. a ≡ b)
