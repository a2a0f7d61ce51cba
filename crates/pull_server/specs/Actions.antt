-- What agents are to do.
use Rattle.std.specs.Prelude.{ℕ, Bool, true, false, ◌==◌, if◌then◌else◌, List, [], ◌∷◌, map, length, codes, bytes_eq, encode_utf8_all, Option, Some, None}
use Rattle.std.specs.List.{list_any}
use Rattle.sha2.specs.Sha256.{sha256}
use Rattle.shared_key.specs.Checksum.{spelled_digest}
use Rattle.pull_messages.specs.declared.query.ActionQuery.{ActionQuery}
use Rattle.pull_messages.specs.declared.query.Client.{Client}
use Rattle.pull_messages.specs.declared.action.ActionAnswer.{ActionAnswer}
use Rattle.pull_messages.specs.declared.action.Detail.{Detail}
use Rattle.pull_outside.specs.Shelf.{Contents}
use Rattle.pull_server.specs.Contents.{content_for}

abbrev pub is_nothing : {X : Type 0} → List X → Bool
is_nothing [] = true
is_nothing (x ∷ xs) = false

-- ---- the clients of a query

abbrev pub is_unnamed : Client → Bool
is_unnamed client = is_nothing client.name

-- a client has an empty name, and the agent's names are not one
abbrev pub asks_unnamed : List (List ℕ) → ActionQuery → Bool
asks_unnamed names query = if length names == 1 then false else list_any is_unnamed query.clients

abbrev pub first_name : List (List ℕ) → List ℕ
first_name [] = []
first_name (name ∷ names) = name

-- an empty name stands for the agent's one name
abbrev pub with_name : List (List ℕ) → Client → Client
with_name names client = if is_unnamed client then record client { name = first_name names } else client

-- nothing is held of that name
abbrev pub without_checksum : List ℕ → Client
without_checksum name = record { checksum = []; name = name }

-- no clients stand for one of each name that holds nothing
abbrev pub clients_of : List (List ℕ) → List Client → List Client
clients_of names [] = map without_checksum names
clients_of names (client ∷ clients) = map (with_name names) (client ∷ clients)

-- ---- the answer

-- the checksum is that of this content
abbrev pub is_digest : Option (List ℕ) → List ℕ → Bool
is_digest None content = false
is_digest (Some digest) content = bytes_eq digest (sha256 content)

-- a content that the agent may have, or none, and the checksum of what it holds
abbrev pub status_with : List ℕ → Option (List ℕ) → List ℕ
status_with checksum None = codes "RETRY"
status_with checksum (Some content) =
    if is_digest (spelled_digest (encode_utf8_all checksum)) content then codes "Ok" else codes "GetConfiguration"

abbrev pub detail_for : Contents → List (List ℕ) → Client → Detail
detail_for shelf names client = record { name = client.name; status = status_with client.checksum (content_for shelf names client.name) }

abbrev pub has_status : List ℕ → List Detail → Bool
has_status status details = list_any (λ detail. bytes_eq detail.status status) details

-- what the agent is to do as a whole
abbrev pub node_status : List Detail → List ℕ
node_status details =
    if has_status (codes "GetConfiguration") details then codes "GetConfiguration"
    else (if has_status (codes "RETRY") details then codes "RETRY" else codes "Ok")

abbrev pub action_with : List Detail → ActionAnswer
action_with details = record { node = node_status details; details = details }

-- one detail for each client
abbrev pub action_for : Contents → List (List ℕ) → ActionQuery → ActionAnswer
action_for shelf names query = action_with (map (detail_for shelf names) (clients_of names query.clients))
