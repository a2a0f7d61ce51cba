-- Queries of a node, and what the answers say.
use Rattle.std.specs.Prelude.{◌≡◌, ℕ, Bool, true, false, ◌&&◌, ◌||◌, ◌==◌, List, [], ◌∷◌, ◌++◌, map, length, nat_le, bytes_eq, codes, if◌then◌else◌, Option, Some, None, is_some, IsTrue, Result, Ok, Err}
use Rattle.std.specs.List.{AllZip}
use Rattle.mof_values.specs.Fold.{same_name}
use Rattle.shared_key.specs.Checksum.{checksum_of}
use Rattle.report_log.specs.declared.report.PartMark.{PartMark}
use Rattle.http_frames.specs.declared.message.Reply.{Reply}
use Rattle.pull_messages.specs.declared.error.MessageError.{MessageError}
use Rattle.pull_messages.specs.declared.error.MessageError.TheVariants as messages
use Rattle.pull_messages.specs.declared.query.ActionQuery.{ActionQuery}
use Rattle.pull_messages.specs.declared.query.Client.{Client}
use Rattle.pull_messages.specs.declared.action.ActionAnswer.{ActionAnswer}
use Rattle.pull_messages.specs.declared.action.Detail.{Detail}
use Rattle.pull_messages.specs.Bodies.{ReadsBy}
use Rattle.pull_messages.specs.Tables.{action_of}
use Rattle.pull_client.specs.declared.error.PeerError.{PeerError}
use Rattle.pull_client.specs.declared.error.PeerError.TheVariants.{TooLong, Message, Retry, Uncovered, Memory}
use Rattle.pull_client.specs.declared.limits.TheConstants.{MAX_ACTION_ANSWER}
use Rattle.pull_client.specs.declared.statuses.Status.{Status}
use Rattle.pull_client.specs.declared.statuses.Status.TheVariants.{UpToDate, ToFetch, NotReady, Unknown}

-- ---- what is asked

-- the digest of the first part that is held under the name; names of parts compare by fold
abbrev pub held_under : List PartMark → List ℕ → Option (List ℕ)
held_under [] name = None
held_under (part ∷ parts) name = if same_name part.name name then Some part.digest else held_under parts name

-- its checksum, and nothing where no part is held
abbrev pub checksum_or_empty : Option (List ℕ) → List ℕ
checksum_or_empty None = []
checksum_or_empty (Some digest) = checksum_of digest

abbrev pub client_of : List PartMark → List ℕ → Client
client_of held name = record { checksum = checksum_or_empty (held_under held name); name = name }

-- one client for each name, in their order
abbrev pub query_of : List PartMark → List (List ℕ) → ActionQuery
query_of held names = record { clients = map (client_of held) names }

-- ---- statuses

-- the status that a text spells, in any case of ASCII letters
abbrev pub spelled_status : List ℕ → Status
spelled_status text =
    if same_name text (codes "Ok") then UpToDate
    else if same_name text (codes "GetConfiguration") then ToFetch
    else if same_name text (codes "RETRY") then NotReady
    else Unknown

-- the detail has the name; one without a name is about the only name that was asked
abbrev pub is_about : Bool → List ℕ → Detail → Bool
is_about only name detail = bytes_eq detail.name name || (only && bytes_eq detail.name [])

-- the status in the first detail about the name; where there is none, that of the whole for the only name that was asked
abbrev pub status_in : Bool → List ℕ → List ℕ → List Detail → Status
status_in only node name [] = if only then spelled_status node else Unknown
status_in only node name (detail ∷ details) =
    if is_about only name detail then spelled_status detail.status else status_in only node name details

-- ---- what is to be fetched

-- whether the content of the name, under which something is held or not, is to be fetched
abbrev pub fetch_of : List ℕ → Bool → Status → Result Bool PeerError
fetch_of name holds ToFetch = Ok true
fetch_of name true UpToDate = Ok false
fetch_of name false UpToDate = Err (Uncovered name)
fetch_of name holds NotReady = Err (Retry name)
fetch_of name holds Unknown = Err (Uncovered name)

-- this answer before the others; the first error is that of all
abbrev pub before_others : Result Bool PeerError → Result (List Bool) PeerError → Result (List Bool) PeerError
before_others (Ok fetch) (Ok others) = Ok (fetch ∷ others)
before_others (Ok fetch) (Err e) = Err e
before_others (Err e) others = Err e

-- the same for each name, in their order
abbrev pub fetches : Bool → ActionAnswer → List PartMark → List (List ℕ) → Result (List Bool) PeerError
fetches only answer held [] = Ok []
fetches only answer held (name ∷ names) =
    before_others (fetch_of name (is_some (held_under held name)) (status_in only answer.node name answer.details)) (fetches only answer held names)

-- what a message says, or why it is none
abbrev pub told_by : List PartMark → List (List ℕ) → Result ActionAnswer MessageError → Result (List Bool) PeerError
told_by held names (Ok answer) = fetches (length names == 1) answer held names
told_by held names (Err messages.Memory) = Err Memory
told_by held names (Err e) = Err (Message e)

-- what a body says, which is that message or none, where it is within the limit
abbrev pub BodyTells : Bool → List PartMark → List (List ℕ) → List ℕ → Result (List Bool) PeerError → Type 0
BodyTells true held names body result =
    (message : Result ActionAnswer MessageError) × ReadsBy action_of body message × (result ≡ told_by held names message)
BodyTells false held names body result = result ≡ Err TooLong

-- what a reply says
abbrev pub Tells : List PartMark → List (List ℕ) → Reply → Result (List Bool) PeerError → Type 0
Tells held names reply result = BodyTells (nat_le (length reply.body) MAX_ACTION_ANSWER) held names reply.body result

-- an answer for each of the names; where the content is not to be fetched, something is held under the name
abbrev pub AreAnswers : List PartMark → List (List ℕ) → List Bool → Type 0
AreAnswers held names fetches = AllZip (λ name fetch. fetch ≡ false → IsTrue (is_some (held_under held name))) names fetches

-- ---- for private clauses

-- answers of earlier names before the answer of the others
abbrev pub after_earlier : List Bool → Result (List Bool) PeerError → Result (List Bool) PeerError
after_earlier earlier (Ok others) = Ok (earlier ++ others)
after_earlier earlier (Err e) = Err e

-- the error of a reader of messages
abbrev pub message_fault : MessageError → PeerError
message_fault messages.Memory = Memory
message_fault e = Message e
