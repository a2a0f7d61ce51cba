-- The list of parts that the server's answers come to.
use Rattle.std.specs.Prelude.{ℕ, Bool, List, map, Result, Ok, Err}
use Rattle.meta_config.specs.declared.meta.Meta.{Meta}
use Rattle.meta_config.specs.declared.server.Server.{Server}
use Rattle.partial_merge.specs.declared.part.Part.{Part}
use Rattle.pull_client.specs.Asks.{Asks}
use Rattle.pull_client.specs.declared.error.PeerError.{PeerError}
use Rattle.pull_client.specs.declared.error.PeerError.TheVariants.{Memory}
use Rattle.pull_client.specs.Queries.{Tells, query_of}
use Rattle.pull_client.specs.Requests.{query_request}
use Rattle.node_pull.specs.Contents.{Contents, to_fetch}
use Rattle.node_pull.specs.Laying.{laid_over}
use Rattle.node_pull.specs.Marks.{mark_of}
use Rattle.node_pull.specs.Names.{ArePartNames, asked_of}
use Rattle.dsc_outside.specs.Link.{LinkView}

-- the server is asked once about all these names
abbrev pub Queries : Server → ℕ → List Part → List (List ℕ) → LinkView → LinkView → Result (List Bool) PeerError → Type 0
Queries server agent held names before after result =
    Asks server (query_request server agent (query_of (map mark_of held) names)) (Tells (map mark_of held) names) before after result

-- the contents of the wanted names are fetched, and laid over the parts that are held
pub data Fetched (server : Server) (agent : ℕ) (held : List Part) (names wanted : List (List ℕ)) : LinkView → LinkView → Result (List Part) PeerError → Type 0 where
  not_given : (error : PeerError) (before after : LinkView) → Contents server agent wanted before after (Err error)
      → Fetched server agent held names wanted before after (Err error)
  laid : (fetched : List Part) (before after : LinkView) → Contents server agent wanted before after (Ok fetched)
      → Fetched server agent held names wanted before after (Ok (laid_over names fetched held))
  no_memory_to_lay : (fetched : List Part) (before after : LinkView) → Contents server agent wanted before after (Ok fetched)
      → Fetched server agent held names wanted before after (Err Memory)

-- The server is asked once about the names of the meta-configuration whose parts are pulled, and then for each content that is to be fetched. The list
-- has the fetched parts, and for each other name the part that is held, where there is one.
pub data Listed (meta : Meta) (server : Server) (agent : ℕ) (held : List Part) : LinkView → LinkView → Result (List Part) PeerError → Type 0 where
  not_told : (names : List (List ℕ)) (error : PeerError) (before after : LinkView) → ArePartNames meta names
      → Queries server agent held (asked_of meta names) before after (Err error) → Listed meta server agent held before after (Err error)
  answered : (names : List (List ℕ)) (fetches : List Bool) (before mid after : LinkView) (result : Result (List Part) PeerError) → ArePartNames meta names
      → Queries server agent held (asked_of meta names) before mid (Ok fetches)
      → Fetched server agent held names (to_fetch (asked_of meta names) fetches) mid after result
      → Listed meta server agent held before after result
  no_memory : (view : LinkView) → Listed meta server agent held view view (Err Memory)
