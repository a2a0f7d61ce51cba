-- Requests over a link.
use Rattle.std.specs.Prelude.{◌≡◌, ℕ, List, ◌++◌, Any, Some, Result, Ok}
use Rattle.dsc_outside.specs.Link.{LinkView}
use Rattle.dsc_outside.specs.declared.exchange.Exchange.{Exchange}
use Rattle.meta_config.specs.declared.server.Server.{Server}
use Rattle.http_frames.specs.declared.message.Reply.{Reply}
use Rattle.pull_client.specs.declared.error.PeerError.{PeerError}
use Rattle.pull_client.specs.Heard.{Heard}

-- the exchange sent the server this request, and its answer was accepted as the value
pub record Accepts {T : Type 0} (server : Server) (sent : List ℕ) (Says : Reply → Result T PeerError → Type 0) (value : T) (exchange : Exchange) : Type 0 where
  pub peer : exchange.peer ≡ server.peer
  pub request : exchange.request ≡ sent
  pub answer : Heard Says exchange.outcome (Ok value)

-- where the exchanges are shown, such a one was made since
abbrev pub MadeSince : (Exchange → Type 0) → LinkView → LinkView → Type 0
MadeSince Such before after = (old : List Exchange) → before.shown ≡ Some old → (new : List Exchange) × (after.shown ≡ Some (old ++ new)) × Any Such new
