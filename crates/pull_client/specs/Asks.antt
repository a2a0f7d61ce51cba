-- A call that asks a server: what it sends, and what it answers.
use Rattle.std.specs.Prelude.{◌≡◌, ◌≢◌, ◌⊎◌, ℕ, ◌≤◌, true, false, List, [], ◌∷◌, ◌++◌, Option, Some, None, Result, Err, IsErrOf}
use Rattle.dsc_terms.specs.Counts.{Rose}
use Rattle.dsc_outside.specs.declared.link.Peer.{Peer}
use Rattle.dsc_outside.specs.declared.exchange.Exchange.{Exchange}
use Rattle.dsc_outside.specs.declared.exchange.ExchangeOutcome.{ExchangeOutcome}
use Rattle.dsc_outside.specs.Link.{LinkView}
use Rattle.meta_config.specs.declared.server.Server.{Server}
use Rattle.http_frames.specs.declared.message.Reply.{Reply}
use Rattle.pull_client.specs.declared.error.PeerError.{PeerError}
use Rattle.pull_client.specs.declared.error.PeerError.TheVariants.{NotServed, Link, Memory}
use Rattle.pull_client.specs.Heard.{Heard}

-- one exchange was added, the request to the peer, and its outcome means the answer; out of memory, at most it was
abbrev pub Exchanged : {T : Type 0} → Peer → List ℕ → (Reply → Result T PeerError → Type 0) → List Exchange → Option (List Exchange) → Result T PeerError → Type 0
Exchanged peer request Says before after result =
    ((outcome : ExchangeOutcome) × Heard Says outcome result
    × (after ≡ Some (before ++ record { peer = peer; request = request; outcome = outcome } ∷ [])))
    ⊎ ((result ≡ Err Memory) × (after ≡ Some before))

-- what the link shows before and after a call with that answer: a server that wants https is not asked. Any other is
-- sent the one request, where the link shows its exchanges
pub record Asks {T : Type 0} (server : Server) (request : List ℕ) (Says : Reply → Result T PeerError → Type 0)
    (before after : LinkView) (result : Result T PeerError) : Type 0 where
  pub unserved : server.https ≡ true → (result ≡ Err NotServed) × (after.shown ≡ before.shown)
  pub served : server.https ≡ false → result ≢ Err NotServed
  pub unshown : before.shown ≡ None → after.shown ≡ None
  pub exchanged : server.https ≡ false → (exchanges : List Exchange) → before.shown ≡ Some exchanges
      → Exchanged server.peer request Says exchanges after.shown result
  pub later : before.faults ≤ after.faults
  pub link : IsErrOf result Link → Rose before.faults after.faults
