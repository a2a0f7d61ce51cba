-- A server that gives a node what it asks for.
use Rattle.std.specs.Prelude.{◌≡◌, ℕ, ◌≤◌, false, List, ◌++◌, map, All, IsSome, Option, Some, Result, Ok, Err}
use Rattle.dsc_terms.specs.Counts.{Rose}
use Rattle.dsc_outside.specs.Link.{GoesOn, LinkView}
use Rattle.dsc_outside.specs.declared.entries.Package.{Package}
use Rattle.dsc_outside.specs.declared.exchange.Exchange.{Exchange}
use Rattle.http_frames.specs.declared.message.Reply.{Reply}
use Rattle.meta_config.specs.declared.meta.Meta.{Meta}
use Rattle.meta_config.specs.declared.server.Server.{Server}
use Rattle.partial_merge.specs.declared.part.Part.{Part}
use Rattle.node_state.specs.declared.limits.TheConstants.{MAX_BYTES}
use Rattle.node_state.specs.Lists.{bytes_of}
use Rattle.node_state.specs.Staging.{AreFitting}
use Rattle.pull_client.specs.declared.error.PeerError.{PeerError}
use Rattle.pull_client.specs.Content.{GivesBody, GivesPart}
use Rattle.pull_client.specs.Heard.{Heard, IsDone}
use Rattle.pull_client.specs.Queries.{Tells, query_of}
use Rattle.pull_client.specs.Requests.{content_request, module_request, query_request, registration_of, registration_request}
use Rattle.node_pull.specs.declared.error.PullFault.{PullFault}
use Rattle.node_pull.specs.declared.error.PullFault.TheVariants.{Memory}
use Rattle.node_pull.specs.declared.modules.Module.{Module}
use Rattle.node_pull.specs.Listing.{Listed}
use Rattle.node_pull.specs.Marks.{mark_of}
use Rattle.node_pull.specs.Names.{ArePartNames, asked_of, registered_names}
use Rattle.node_pull.specs.Pulling.{Pulled}
use Rattle.node_pull.specs.Registering.{Registers}

-- ---- answers

-- if the exchange sent the server this request, its answer was accepted as some value
abbrev pub AcceptsIfSent : {T : Type 0} → Server → List ℕ → (Reply → Result T PeerError → Type 0) → Exchange → Type 0
AcceptsIfSent {T} server sent Says exchange = exchange.peer ≡ server.peer → exchange.request ≡ sent → (value : T) × Heard Says exchange.outcome (Ok value)

-- so it is with each exchange that was made since: the server accepts the request, whenever it is sent
abbrev pub AlwaysAccepts : {T : Type 0} → Server → List ℕ → (Reply → Result T PeerError → Type 0) → LinkView → LinkView → Type 0
AlwaysAccepts server sent Says before after =
    (old new : List Exchange) → before.shown ≡ Some old → after.shown ≡ Some (old ++ new) → All (AcceptsIfSent server sent Says) new

-- the server is one of http, and the link shows its exchanges
pub record IsHeard (server : Server) (before : LinkView) : Type 0 where
  pub http : server.https ≡ false
  pub shown : IsSome before.shown

-- ---- servers

-- it accepts the registration of the agent under that name of the node
pub record AcceptsRegistration (meta : Meta) (server : Server) (agent : ℕ) (name : List ℕ) (before after : LinkView) : Type 0 where
  pub heard : IsHeard server before
  pub accepts : (date : List ℕ) → AlwaysAccepts server (registration_request server agent (registration_of name (registered_names meta)) date) IsDone before after

-- the parts are merged to a document that fits, and are not too long together
abbrev pub MayBeStaged : Meta → List Part → Type 0
MayBeStaged meta parts = AreFitting meta parts × (bytes_of parts ≤ MAX_BYTES)

-- It says of each name that is asked about whether its content is to be fetched, and gives each content and each package that it is asked for
-- under the digest that it announces; and the parts that its answers come to may be staged.
pub record Serves (meta : Meta) (server : Server) (agent : ℕ) (held : List Part) (before after : LinkView) : Type 0 where
  pub heard : IsHeard server before
  pub tells : (names : List (List ℕ)) → ArePartNames meta names
      → AlwaysAccepts server (query_request server agent (query_of (map mark_of held) (asked_of meta names))) (Tells (map mark_of held) (asked_of meta names)) before after
  pub contents : (name : List ℕ) → AlwaysAccepts server (content_request server agent name) (GivesPart name) before after
  pub staged : (mid : LinkView) (parts : List Part) → Listed meta server agent held before mid (Ok parts) → GoesOn mid after → MayBeStaged meta parts
  pub packages : (wanted : Module) → AlwaysAccepts server (module_request server wanted.name wanted.version) GivesBody before after

-- ---- what comes of them

-- a registration at such a server fails for memory alone
abbrev pub RegistrationsSucceed : Type 0
RegistrationsSucceed =
    (meta : Meta) (server : Server) (agent : ℕ) (name : List ℕ) (start : ℕ) (before after : LinkView) (error : PullFault) → AcceptsRegistration meta server agent name before after
    → Registers meta server agent name start before after (Err error) → error ≡ Memory

-- and a pull, where the machine's count of faults did not rise
abbrev pub PullsSucceed : {S : Type 0} → (S → Option (List Package)) → (S → ℕ) → Type 0
PullsSucceed {S} packages faults =
    (meta : Meta) (server : Server) (agent : ℕ) (held : List Part) (before after : LinkView) (old new : S) (error : PullFault) → Serves meta server agent held before after
    → (Rose (faults old) (faults new) → ⊥) → Pulled packages faults meta server agent held before after old new (Err error) → error ≡ Memory
