-- The contents that are fetched.
use Rattle.std.specs.Prelude.{◌≡◌, ◌⊎◌, ℕ, Bool, true, false, List, [], ◌∷◌, ◌++◌, All, Contains, Result, Ok, Err}
use Rattle.meta_config.specs.declared.server.Server.{Server}
use Rattle.partial_merge.specs.declared.part.Part.{Part}
use Rattle.pull_client.specs.Asks.{Asks}
use Rattle.pull_client.specs.declared.error.PeerError.{PeerError}
use Rattle.pull_client.specs.declared.error.PeerError.TheVariants.{Memory}
use Rattle.pull_client.specs.Content.{GivesPart}
use Rattle.pull_client.specs.Requests.{content_request}
use Rattle.dsc_outside.specs.Link.{LinkView}
use Rattle.node_pull.specs.Views.{Accepts, MadeSince}

-- those of the names whose content is to be fetched, by what the server says of each
abbrev pub to_fetch : List (List ℕ) → List Bool → List (List ℕ)
to_fetch [] fetches = []
to_fetch (name ∷ names) [] = []
to_fetch (name ∷ names) (true ∷ fetches) = name ∷ to_fetch names fetches
to_fetch (name ∷ names) (false ∷ fetches) = to_fetch names fetches

-- the server is asked for the content of the name
abbrev pub AsksContent : Server → ℕ → List ℕ → LinkView → LinkView → Result Part PeerError → Type 0
AsksContent server agent name before after result = Asks server (content_request server agent name) (GivesPart name) before after result

-- the content of each name as a part, in their order, up to the first that is not given. Memory may have been refused at any name
pub data Contents (server : Server) (agent : ℕ) : List (List ℕ) → LinkView → LinkView → Result (List Part) PeerError → Type 0 where
  no_more : (view : LinkView) → Contents server agent [] view view (Ok [])
  one_more : (name : List ℕ) (names : List (List ℕ)) (part : Part) (parts : List Part) (before mid after : LinkView)
      → AsksContent server agent name before mid (Ok part) → part.name ≡ name → Contents server agent names mid after (Ok parts)
      → Contents server agent (name ∷ names) before after (Ok (part ∷ parts))
  ended : (name : List ℕ) (names : List (List ℕ)) (error : PeerError) (before after : LinkView)
      → AsksContent server agent name before after (Err error)
      → Contents server agent (name ∷ names) before after (Err error)
  ended_later : (name : List ℕ) (names : List (List ℕ)) (part : Part) (error : PeerError) (before mid after : LinkView)
      → AsksContent server agent name before mid (Ok part) → Contents server agent names mid after (Err error)
      → Contents server agent (name ∷ names) before after (Err error)
  no_memory : (names : List (List ℕ)) (view : LinkView) → Contents server agent names view view (Err Memory)

-- ---- what was accepted

-- the server was asked since for the content of the part's name, and gave the part, accepted under the digest that was announced for it
abbrev pub WasAccepted : Server → ℕ → LinkView → LinkView → Part → Type 0
WasAccepted server agent before after part = MadeSince (Accepts server (content_request server agent part.name) (GivesPart part.name) part) before after

-- the part is held, or was accepted since
abbrev pub IsHeldOrAccepted : Server → ℕ → List Part → LinkView → LinkView → Part → Type 0
IsHeldOrAccepted server agent held before after part = Contains held part ⊎ WasAccepted server agent before after part

-- so is each of the parts
abbrev pub AreHeldOrAccepted : Server → ℕ → List Part → LinkView → LinkView → List Part → Type 0
AreHeldOrAccepted server agent held before after parts = All (IsHeldOrAccepted server agent held before after) parts

-- ---- for private clauses

-- the parts of earlier names before those of the others
abbrev pub after_earlier : List Part → Result (List Part) PeerError → Result (List Part) PeerError
after_earlier earlier (Ok others) = Ok (earlier ++ others)
after_earlier earlier (Err error) = Err error

-- the contents of these names, after those of earlier ones
pub record ContentsAfter (server : Server) (agent : ℕ) (names : List (List ℕ)) (earlier : List Part) (before after : LinkView)
    (result : Result (List Part) PeerError) : Type 0 where
  pub others : Result (List Part) PeerError
  pub contents : Contents server agent names before after others
  pub is : result ≡ after_earlier earlier others
