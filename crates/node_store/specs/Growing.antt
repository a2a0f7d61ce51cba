-- The texts that a store keeps in memory: in format 2 the Blobs of its bank. They grow by those of a Stage's parts that they lack, and
-- those of a node are chosen from them.
use Rattle.std.specs.Prelude.{◌≡◌, ◌⊎◌, ℕ, ◌+◌, ◌<◌, ◌≤◌, Bool, true, false, List, [], ◌∷◌, ◌++◌, length, map, take, get_or, Result, Ok, Err}
use Rattle.std.specs.List.{AllByRecursion}
use Rattle.sha2.specs.Sha256.{sha256}
use Rattle.partial_merge.specs.declared.part.Part.{Part}
use Rattle.gate_log.specs.Text.{cells}
use Rattle.node_state.specs.declared.event.Event.{Event}
use Rattle.node_state.specs.declared.event.Event.TheVariants as events
use Rattle.node_state.specs.StagedParts.{parts_of}
use Rattle.node_store.specs.declared.blob.Blob.{Blob}
use Rattle.node_store.specs.Bodies.{body_of_event}
use Rattle.node_store.specs.Digests.{Blobs, HaveOneDigest, IsAmong, IsNew, Lack, blob_body, format_body, mark_of, stage_body, texts_of}
use Rattle.node_store.specs.Reports.{bytes_of_mark}

abbrev pub bytes_in : List Blob → Blobs
bytes_in list = map (λ (blob : Blob). blob.bytes) list

-- no digest of these texts is that of a Blob before
abbrev pub AreNew : Blobs → List (List ℕ) → Type 0
AreNew blobs [] = Unit {0}
AreNew blobs (text ∷ texts) = IsNew blobs text × AreNew (blobs ++ text ∷ []) texts

-- each of the texts is one of these Blobs
abbrev pub AllAmong : Blobs → List (List ℕ) → Type 0
AllAmong blobs texts = AllByRecursion (λ text. IsAmong blobs text) texts

-- the text is none of these, and other bytes of them have its digest
pub record Collides (blobs : Blobs) (text : List ℕ) : Type 0 where
  pub other : List ℕ
  pub among : IsAmong blobs other
  pub same : sha256 other ≡ sha256 text
  pub absent : IsAmong blobs text → ⊥

-- a text has the digest of other bytes, of a Blob or of a text before it: so no Blobs are those that are lacking
abbrev pub AreColliding : Blobs → List (List ℕ) → Type 0
AreColliding blobs texts = (lacking : Blobs) → Lack blobs texts lacking → ⊥

-- ---- one text, and several

-- the text is one of them once, and other bytes have its digest exactly where the answer is no
abbrev pub AddsText : Blobs → List ℕ → Bool → Blobs → Type 0
AddsText old text true new = (IsAmong old text × (new ≡ old)) ⊎ (IsNew old text × (new ≡ old ++ text ∷ []))
AddsText old text false new = Collides old text × (new ≡ old ++ text ∷ [])

-- the Blobs have those after them that they lacked
pub record HasLacking (old : Blobs) (texts : List (List ℕ)) (new : Blobs) : Type 0 where
  pub lacking : Blobs
  pub lack : Lack old texts lacking
  pub is : new ≡ old ++ lacking

-- the texts are there all the same, although two have one digest
pub record HasColliding (old : Blobs) (texts : List (List ℕ)) (new : Blobs) : Type 0 where
  pub more : Blobs
  pub is : new ≡ old ++ more
  pub all : AllAmong new texts
  pub never : AreColliding old texts
  pub pair : HaveOneDigest (old ++ texts)

abbrev pub AddsTexts : Blobs → List (List ℕ) → Bool → Blobs → Type 0
AddsTexts old texts true new = HasLacking old texts new
AddsTexts old texts false new = HasColliding old texts new

-- the same, or memory ran out
abbrev pub TriedText : {E : Type 0} → Blobs → List ℕ → Result Bool E → Blobs → Type 0
TriedText old text (Ok apart) new = AddsText old text apart new
TriedText old text (Err e) new = new ≡ old

abbrev pub TriedTexts : {E : Type 0} → Blobs → List (List ℕ) → Result Bool E → Blobs → Type 0
TriedTexts old texts (Ok apart) new = AddsTexts old texts apart new
TriedTexts old texts (Err e) new = (more : Blobs) × (new ≡ old ++ more)

abbrev pub GrewTexts : {E : Type 0} → Blobs → List (List ℕ) → Result Bool E → Blobs → Type 0
GrewTexts old texts (Ok apart) new = AddsTexts old texts apart new
GrewTexts old texts (Err e) new = new ≡ old

-- ---- those of a node, chosen in place

-- the first of the list whose bytes these are
pub record StandsFirst (list : List Blob) (text : List ℕ) (place : ℕ) : Type 0 where
  pub below : place < length list
  pub blob : Blob
  pub there : blob ≡ get_or list place blob
  pub is : blob.bytes ≡ text
  pub first : IsAmong (bytes_in (take place list)) text → ⊥

-- no text is lost
abbrev pub KeepsAll : Blobs → Blobs → Type 0
KeepsAll old new = (text : List ℕ) → IsAmong old text → IsAmong new text

-- behind so many chosen ones comes a text, where it is none of them; the answer is how many are chosen then, and whether no other of
-- these has its digest
pub record ChoosesText (old : Blobs) (front : ℕ) (text : List ℕ) (new : Blobs) (answer : ℕ × Bool) : Type 0 where
  pub within : answer.0 ≤ length new
  pub adds : AddsText (take front old) text answer.1 (take answer.0 new)
  pub keeps : KeepsAll old new

pub record Chooses (old : Blobs) (front : ℕ) (texts : List (List ℕ)) (new : Blobs) (answer : ℕ × Bool) : Type 0 where
  pub within : answer.0 ≤ length new
  pub adds : AddsTexts (take front old) texts answer.1 (take answer.0 new)
  pub keeps : KeepsAll old new

-- ---- bodies

-- the body of an event in a bank of format 2, and of every event but a Stage in one of format 1
abbrev pub event_body : Event → List ℕ
event_body (events.Stage staged) = stage_body (parts_of staged)
event_body event = body_of_event event

-- the texts that an event brings
abbrev pub texts_of_event : Event → List (List ℕ)
texts_of_event (events.Stage staged) = texts_of (parts_of staged)
texts_of_event event = []

abbrev pub is_stage : Event → Bool
is_stage (events.Stage staged) = true
is_stage event = false

abbrev pub bodies_of_format : Bool → List (List ℕ)
bodies_of_format true = format_body ∷ []
bodies_of_format false = []

-- what is added to a bank: a Format first where it is empty, the Blobs that it lacks, and the event
abbrev pub added_bodies : Bool → Blobs → Event → List (List ℕ)
added_bodies empty lacking event = bodies_of_format empty ++ (map blob_body lacking ++ event_body event ∷ [])

-- the texts after it: none, where the bank was empty
abbrev pub cleared : Bool → Blobs → Blobs
cleared true texts = []
cleared false texts = texts

-- four bytes before a body, into which the log writes its length
abbrev pub after_length : List ℕ → List ℕ
after_length body = 0 ∷ 0 ∷ 0 ∷ 0 ∷ body

-- the kind and the digest of a Blob
abbrev pub blob_head : List ℕ → List ℕ
blob_head text = 16 ∷ sha256 text

-- the names and the digests of parts
abbrev pub marks_of : List Part → List ℕ
marks_of [] = []
marks_of (part ∷ parts) = bytes_of_mark (mark_of part) ++ marks_of parts

-- the bytes of the cells of a Format, where the bank is empty, of these Blobs, and of one more body of this length
abbrev pub need_to_add : Bool → Blobs → ℕ → ℕ
need_to_add empty blobs last = length (cells (bodies_of_format empty)) + (length (cells (map blob_body blobs)) + (5 + last))
