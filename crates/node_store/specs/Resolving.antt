-- Marks are resolved to parts, whose bytes are those of Blobs.
use Rattle.std.specs.Prelude.{◌≡◌, ℕ, List, [], ◌∷◌, map}
use Rattle.std.specs.List.{AllByRecursion}
use Rattle.partial_merge.specs.declared.part.Part.{Part}
use Rattle.report_log.specs.declared.report.PartMark.{PartMark}
use Rattle.node_store.specs.declared.body.Body.{Body}
use Rattle.node_store.specs.Bodies.{IsBody}
use Rattle.node_store.specs.Digests.{Blobs, IsAmong, Says, bytes_of_marks, mark_of}
use Rattle.node_store.specs.Parts.{AreParts, IsPart}

-- what stands after the first
abbrev pub after_kind : {X : Type 0} → List X → List X
after_kind [] = []
after_kind (x ∷ xs) = xs

-- the bytes of each part are those of one of the Blobs
abbrev pub AreAmong : Blobs → List Part → Type 0
AreAmong blobs parts = AllByRecursion (λ part. IsAmong blobs part.bytes) parts

-- the part has this mark and the bytes of a Blob
pub record NamesPart (blobs : Blobs) (mark : PartMark) (part : Part) : Type 0 where
  pub marked : mark_of part ≡ mark
  pub range : IsPart part
  pub among : IsAmong blobs part.bytes

-- no part of this mark has the bytes of a Blob
abbrev pub HasNone : Blobs → PartMark → Type 0
HasNone blobs mark = (part : Part) → mark_of part ≡ mark → IsAmong blobs part.bytes → ⊥

-- the parts have these marks and the bytes of Blobs
pub record NamesParts (blobs : Blobs) (marks : List PartMark) (parts : List Part) : Type 0 where
  pub marked : map mark_of parts ≡ marks
  pub ranges : AllByRecursion IsPart parts
  pub among : AreAmong blobs parts

-- not all parts of these marks have the bytes of Blobs
abbrev pub HaveNone : Blobs → List PartMark → Type 0
HaveNone blobs marks = (parts : List Part) → map mark_of parts ≡ marks → AreAmong blobs parts → ⊥

-- the bytes are the marks of these parts, which have the bytes of Blobs
pub record AreNamedBy (blobs : Blobs) (marks : List ℕ) (parts : List Part) : Type 0 where
  pub ranges : AreParts parts
  pub among : AreAmong blobs parts
  pub is : marks ≡ bytes_of_marks (map mark_of parts)

-- the body says one in full which is that of this event or piece
pub record SaysBody (blobs : Blobs) (body : List ℕ) (of : Body) : Type 0 where
  pub full : List ℕ
  pub says : Says blobs body full
  pub is : IsBody full of
