-- A registration.
use Rattle.std.specs.Prelude.{◌≡◌, ◌⊎◌, ℕ, List, Some, Result, Err}
use Rattle.meta_config.specs.declared.meta.Meta.{Meta}
use Rattle.meta_config.specs.declared.server.Server.{Server}
use Rattle.pull_client.specs.Asks.{Asks}
use Rattle.pull_client.specs.declared.error.PeerError.{PeerError}
use Rattle.pull_client.specs.Heard.{IsDone}
use Rattle.pull_client.specs.Moments.{IsMomentText}
use Rattle.pull_client.specs.Requests.{registration_of, registration_request}
use Rattle.node_pull.specs.declared.error.PullFault.{PullFault}
use Rattle.node_pull.specs.declared.error.PullFault.TheVariants.{Memory}
use Rattle.node_pull.specs.Errors.{told_as}
use Rattle.node_pull.specs.Names.{registered_names}
use Rattle.dsc_outside.specs.Link.{LinkView}

-- the server was asked to register the agent under that name of the node, with the names of its meta-configuration, at that moment in seconds
-- since 1970-01-01T00:00:00Z
pub record SendsRegistration (meta : Meta) (server : Server) (agent : ℕ) (node_name : List ℕ) (moment : ℕ) (before after : LinkView) (result : Result (Unit {0}) PullFault) : Type 0 where
  pub date : List ℕ
  pub is_date : IsMomentText (Some 7) moment date
  pub answer : Result (Unit {0}) PeerError
  pub asks : Asks server (registration_request server agent (registration_of node_name (registered_names meta)) date) IsDone before after answer
  pub is : result ≡ told_as answer

-- so it was, or memory ran out for the names
abbrev pub Registers : Meta → Server → ℕ → List ℕ → ℕ → LinkView → LinkView → Result (Unit {0}) PullFault → Type 0
Registers meta server agent node_name moment before after result =
    SendsRegistration meta server agent node_name moment before after result ⊎ ((result ≡ Err Memory) × (after ≡ before))
