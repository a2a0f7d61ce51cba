-- The parts that a node pulls of a server in memory: contents of its shelf.
use Rattle.std.specs.Prelude.{◌≡◌, ℕ, ◌≤◌, List, length, Contains, Some, codes, encode_utf8_all}
use Rattle.dsc_outside.specs.declared.disk.Disk as disks
use Rattle.dsc_outside.specs.declared.exchange.Exchange.{Exchange}
use Rattle.dsc_outside.specs.declared.exchange.ExchangeOutcome.TheVariants.{Answered}
use Rattle.dsc_outside.specs.Link.{LinkView}
use Rattle.http_frames.specs.Writing.{answer_text}
use Rattle.meta_config.specs.declared.server.Server.{Server}
use Rattle.partial_merge.specs.declared.part.Part.{Part}
use Rattle.node_state.specs.declared.node.Node.{Node}
use Rattle.node_state.specs.Slots.{IsSlot}
use Rattle.node_store.specs.Stands.{Stands}
use Rattle.node_pull.specs.Contents.{WasAccepted}
use Rattle.pull_outside.specs.Shelf.{Contents, configuration_of}
use Rattle.pull_outside.specs.declared.shelf.Shelf as shelves
use Rattle.pull_server.specs.Replies.{content_reply}
use Rattle.pull_serving.specs.ServerLink.{Becomes, ServerInMemory}
use Rattle.link_laws.specs.ShelfContents.{IsItem}

-- The bytes of the part are an item of the shelf, and one of the exchanges was answered with them under their checksum. Where the URL of the node's server
-- has the path of a pull server, and the part has a name, they are the configuration of that name.
pub record IsGivenOf (shelf : Contents) (exchanges : List Exchange) (server : Server) (part : Part) : Type 0 where
  pub exchange : Exchange
  pub made : Contains exchanges exchange
  pub item : IsItem shelf part.bytes
  pub given : exchange.outcome ≡ Answered (answer_text (content_reply part.bytes))
  pub named : server.prefix ≡ codes "/PSDSCPullServer.svc" → 1 ≤ length part.name → configuration_of (encode_utf8_all part.name) shelf ≡ Some part.bytes

-- some image stands for the node
abbrev pub IsKept : Node → Type 0
IsKept node = (image : List ℕ) × Stands image node

-- so it is with each part of a node that was pulled by the node before it over a link to a server
abbrev pub PulledPartsAreOfTheShelf : {D F : Type 0} → disks.Ghosts D → shelves.Ghosts F → Type 0
PulledPartsAreOfTheShelf {D} {F} d f =
    (old new : ServerInMemory D F) (shelf : Contents) (becomes : Becomes d f old new) → f.holds old.shelf ≡ Some shelf
    → (asked heard : LinkView) → asked.shown ≡ Some old.exchanges → heard.shown ≡ Some new.exchanges
    → (node later : Node) (part : Part) → IsKept node → IsKept later → IsSlot later part
    → (server : Server) (agent : ℕ) → node.meta.server ≡ Some server → node.agent ≡ Some agent → WasAccepted server agent asked heard part
    → IsGivenOf shelf becomes.more server part
