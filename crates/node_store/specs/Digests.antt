-- The bodies of format 2, in which the bytes of equal parts stand once, and what they say in full.
use Rattle.std.specs.Prelude.{◌≡◌, ◌≢◌, ◌⊎◌, ℕ, Bool, true, not, ◌&&◌, ◌==◌, List, [], ◌∷◌, ◌++◌, map, Option, Some, None}
use Rattle.std.specs.List.{AllByRecursion}
use Rattle.sha2.specs.Sha256.{sha256}
use Rattle.store_fields.specs.Fields.{bytes_of_list, IsBlob}
use Rattle.partial_merge.specs.declared.part.Part.{Part}
use Rattle.report_log.specs.declared.report.PartMark.{PartMark}
use Rattle.node_state.specs.declared.event.Stage.{Stage}
use Rattle.node_state.specs.declared.node.Node.{Node}
use Rattle.node_store.specs.Bodies.{bytes_of_stage}
use Rattle.node_store.specs.Parts.{bytes_of_parts, AreParts}
use Rattle.node_store.specs.Reports.{bytes_of_mark}

-- the first body of a bank of format 2
abbrev pub format_body : List ℕ
format_body = 15 ∷ 2 ∷ []

-- a Blob: the digest of some bytes, and the bytes to the end
abbrev pub blob_body : List ℕ → List ℕ
blob_body bytes = 16 ∷ (sha256 bytes ++ bytes)

-- a part's name and digest
abbrev pub mark_of : Part → PartMark
mark_of part = record { name = part.name; digest = part.digest }

abbrev pub bytes_of_marks : List PartMark → List ℕ
bytes_of_marks marks = bytes_of_list bytes_of_mark marks

-- the bytes of the Blobs so far
abbrev pub Blobs : Type 0
Blobs = List (List ℕ)

-- the bytes are those of one of these Blobs
abbrev pub IsAmong : Blobs → List ℕ → Type 0
IsAmong [] bytes = ⊥
IsAmong (first ∷ others) bytes = (bytes ≡ first) ⊎ IsAmong others bytes

-- none of these Blobs has the digest of the bytes
abbrev pub IsNew : Blobs → List ℕ → Type 0
IsNew blobs bytes = (other : List ℕ) → IsAmong blobs other → sha256 other ≢ sha256 bytes

-- `lacking` are the texts that are no Blob yet, each once, in order; no list is that, not even the empty one, where a text has the digest of
-- other bytes
abbrev pub Lack : Blobs → List (List ℕ) → Blobs → Type 0
Lack blobs [] lacking = lacking ≡ []
Lack blobs (text ∷ texts) lacking =
    (IsAmong blobs text × Lack blobs texts lacking)
    ⊎ ((others : Blobs) × IsNew blobs text × (lacking ≡ text ∷ others) × Lack (blobs ++ text ∷ []) texts others)

abbrev pub texts_of : List Part → List (List ℕ)
texts_of parts = map (λ part. part.bytes) parts

abbrev pub texts_in : Option (List Part) → List (List ℕ)
texts_in None = []
texts_in (Some parts) = texts_of parts

-- the texts of the parts of a node
abbrev pub texts_of_node : Node → List (List ℕ)
texts_of_node node = texts_in node.pending ++ (texts_in node.current ++ texts_in node.previous)

-- two of these texts have one digest, and are different
pub record HaveOneDigest (texts : List (List ℕ)) : Type 0 where
  pub one : List ℕ
  pub other : List ℕ
  pub first : IsAmong texts one
  pub second : IsAmong texts other
  pub same : sha256 one ≡ sha256 other
  pub differ : one ≢ other

-- the body of a Stage by digests
abbrev pub stage_body : List Part → List ℕ
stage_body parts = 17 ∷ bytes_of_marks (map mark_of parts)

-- the body of a Slot by digests
abbrev pub slot_body : Stage → List Part → List ℕ
slot_body stage parts = 18 ∷ (bytes_of_stage stage ++ bytes_of_marks (map mark_of parts))

-- the bodies of a Stage by digests and of the Blobs before it that a bank lacks
abbrev pub staged_bodies : Blobs → List Part → List (List ℕ)
staged_bodies lacking parts = map blob_body lacking ++ stage_body parts ∷ []

-- ---- what a body says in full after these Blobs

-- marks of parts whose bytes are those of Blobs, and the same parts in full
pub record Resolves (blobs : Blobs) (marks full : List ℕ) : Type 0 where
  pub parts : List Part
  pub ranges : AreParts parts
  pub among : AllByRecursion (λ part. IsAmong blobs part.bytes) parts
  pub is : marks ≡ bytes_of_marks (map mark_of parts)
  pub says : full ≡ bytes_of_parts parts

-- a Stage by digests: the marks of its parts
pub record SaysStage (blobs : Blobs) (body full : List ℕ) : Type 0 where
  pub marks : List ℕ
  pub parts : List ℕ
  pub is : body ≡ 17 ∷ marks
  pub resolves : Resolves blobs marks parts
  pub says : full ≡ 4 ∷ parts

-- a Slot by digests: the stage, and the marks of its parts
pub record SaysSlot (blobs : Blobs) (body full : List ℕ) : Type 0 where
  pub stage : Stage
  pub marks : List ℕ
  pub parts : List ℕ
  pub is : body ≡ 18 ∷ (bytes_of_stage stage ++ marks)
  pub resolves : Resolves blobs marks parts
  pub says : full ≡ 13 ∷ (bytes_of_stage stage ++ parts)

-- the first byte of a body
abbrev pub kind_of : List ℕ → ℕ
kind_of [] = 0
kind_of (kind ∷ rest) = kind

-- another kind than Stage, Slot, Format, Blob, Stage by digests and Slot by digests
abbrev pub is_plain : ℕ → Bool
is_plain kind = not (kind == 4) && not (kind == 13) && not (kind == 15) && not (kind == 16) && not (kind == 17) && not (kind == 18)

-- says itself
pub record SaysItself (body full : List ℕ) : Type 0 where
  pub plain : is_plain (kind_of body) ≡ true
  pub says : full ≡ body

abbrev pub Says : Blobs → List ℕ → List ℕ → Type 0
Says blobs body full = SaysStage blobs body full ⊎ SaysSlot blobs body full ⊎ SaysItself body full

-- a Blob whose digest is new: one more after it
pub record AddsBlob (blobs : Blobs) (body : List ℕ) (after : Blobs) : Type 0 where
  pub bytes : List ℕ
  pub is : body ≡ blob_body bytes
  pub range : IsBlob bytes
  pub new : IsNew blobs bytes
  pub adds : after ≡ blobs ++ bytes ∷ []

-- ---- bodies after a Format, one after the other

-- the Blobs so far, and the bodies in full
pub record Told : Type 0 where
  pub blobs : Blobs
  pub said : List (List ℕ)

abbrev pub nothing_told : Told
nothing_told = record { blobs = []; said = [] }

-- a Blob says nothing, and is known to the bodies after it
pub record TellsBlob (old : Told) (body : List ℕ) (new : Told) : Type 0 where
  pub blob : AddsBlob old.blobs body new.blobs
  pub same : new.said ≡ old.said

-- every other body says one in full
pub record TellsMore (old : Told) (body : List ℕ) (new : Told) : Type 0 where
  pub full : List ℕ
  pub says : Says old.blobs body full
  pub same : new.blobs ≡ old.blobs
  pub more : new.said ≡ old.said ++ full ∷ []

abbrev pub Tells : Told → List ℕ → Told → Type 0
Tells old body new = TellsBlob old body new ⊎ TellsMore old body new

abbrev pub Unfolds : Told → List (List ℕ) → Told → Type 0
Unfolds old [] new = new ≡ old
Unfolds old (body ∷ bodies) new = (mid : Told) × Tells old body mid × Unfolds mid bodies new
