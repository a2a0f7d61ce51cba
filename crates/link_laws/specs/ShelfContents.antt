-- What a node takes of a pull server in memory: items of its shelf.
use Rattle.std.specs.Prelude.{◌≡◌, ◌⊎◌, ℕ, ◌<◌, ◌≤◌, ◌^◌, true, List, length, Contains, Some, Ok, codes, encode_utf8_all}
use Rattle.std.specs.List.{list_all}
use Rattle.dsc_outside.specs.declared.disk.Disk as disks
use Rattle.dsc_outside.specs.declared.exchange.Exchange.{Exchange}
use Rattle.dsc_outside.specs.declared.exchange.ExchangeOutcome.TheVariants.{Answered}
use Rattle.http_frames.specs.Writing.{answer_text}
use Rattle.meta_config.specs.declared.limits.TheConstants.{MAX_URL}
use Rattle.meta_config.specs.declared.server.Server.{Server}
use Rattle.meta_config.specs.Urls.{is_host_char}
use Rattle.partial_merge.specs.declared.part.Part.{Part}
use Rattle.pull_messages.specs.declared.target_kinds.Target.{Target}
use Rattle.pull_messages.specs.declared.target_kinds.Target.TheVariants.{Content, Module}
use Rattle.pull_messages.specs.Targets.{HasValues}
use Rattle.pull_messages.specs.TargetText.{HasRanges}
use Rattle.pull_client.specs.Content.{GivesBody, GivesPart}
use Rattle.pull_client.specs.Heard.{Heard}
use Rattle.pull_client.specs.Requests.{got}
use Rattle.pull_outside.specs.Shelf.{Contents, configuration_of, package_of}
use Rattle.pull_outside.specs.declared.shelf.Shelf as shelves
use Rattle.pull_server.specs.Replies.{content_reply}
use Rattle.pull_serving.specs.ServerLink.{Becomes, ServerInMemory}

-- a configuration on the shelf has these bytes, or a package
abbrev pub IsItem : Contents → List ℕ → Type 0
IsItem shelf bytes =
    ((name : List ℕ) × (configuration_of name shelf ≡ Some bytes)) ⊎ ((name version : List ℕ) × (package_of name version shelf ≡ Some bytes))

-- the exchange asks for what the target names, below the path of a pull server, at a host as a meta-configuration names one
pub record AsksFor (server : Server) (target : Target) (exchange : Exchange) : Type 0 where
  pub request : exchange.request ≡ got server target
  pub path : server.prefix ≡ codes "/PSDSCPullServer.svc"
  pub host : list_all is_host_char server.peer.host ≡ true
  pub short : length server.peer.host ≤ MAX_URL
  pub port : server.peer.port < 2 ^ 16
  pub ranges : HasRanges target
  pub values : HasValues target

-- the content of that name
abbrev pub AsksForContent : Server → ℕ → List ℕ → Exchange → Type 0
AsksForContent server agent name = AsksFor server (Content agent name)

-- the package of the module of that name and version
abbrev pub AsksForPackage : Server → List ℕ → List ℕ → Exchange → Type 0
AsksForPackage server name version = AsksFor server (Module name version)

-- They are an item of the shelf, and the exchange was answered with them under their checksum. Where it asked for the content of a name, they are
-- the configuration of that name; where it asked for the package of a module, they are the package of that name and version.
pub record IsGivenIn (shelf : Contents) (exchange : Exchange) (bytes : List ℕ) : Type 0 where
  pub item : IsItem shelf bytes
  pub given : exchange.outcome ≡ Answered (answer_text (content_reply bytes))
  pub named : (server : Server) (agent : ℕ) (name : List ℕ) → AsksForContent server agent name exchange → configuration_of (encode_utf8_all name) shelf ≡ Some bytes
  pub packaged : (server : Server) (name version : List ℕ) → AsksForPackage server name version exchange
      → package_of (encode_utf8_all name) (encode_utf8_all version) shelf ≡ Some bytes

-- so it is with each part, and each package, that is taken of one of the exchanges that a link to a server adds
pub record AreOfShelf (shelf : Contents) (exchange : Exchange) : Type 0 where
  pub parts : (name : List ℕ) (part : Part) → Heard (GivesPart name) exchange.outcome (Ok part) → IsGivenIn shelf exchange part.bytes
  pub packages : (bytes : List ℕ) → Heard GivesBody exchange.outcome (Ok bytes) → IsGivenIn shelf exchange bytes

abbrev pub ContentsAreOfTheShelf : {D F : Type 0} → disks.Ghosts D → shelves.Ghosts F → Type 0
ContentsAreOfTheShelf {D} {F} d f =
    (old new : ServerInMemory D F) (shelf : Contents) (becomes : Becomes d f old new) → f.holds old.shelf ≡ Some shelf
    → (exchange : Exchange) → Contains becomes.more exchange → AreOfShelf shelf exchange
