-- Which resources of a document are apart: what one asks for is no matter of the other.
use Rattle.std.specs.Prelude.{◌≡◌, ◌⊎◌, ◌<◌, ℕ, List, Option, Some, None, option_and_then, slice_get}
use Rattle.std.specs.Result.{result_ok}
use Rattle.dsc_outside.specs.Paths.{IsBelow}
use Rattle.dsc_document.specs.declared.document.Document.{Document}
use Rattle.resource_kinds.specs.declared.wanted.Wanted.{Wanted}
use Rattle.resource_kinds.specs.declared.wanted.Wanted.TheVariants as wants
use Rattle.resource_kinds.specs.Wanted.{wanted_of}

-- what a resource is about
pub data Target : Type 0 where
  Path : List ℕ → Target
  Variable : List ℕ → Target
  -- of an id, with a message
  LogEntry : List ℕ → List ℕ → Target

abbrev pub target_of : Wanted → Target
target_of (wants.File path contents) = Path path
target_of (wants.Folder path) = Path path
target_of (wants.NoFile path) = Path path
target_of (wants.NoFolder path forced) = Path path
target_of (wants.Variable name value) = Variable name
target_of (wants.Entries name value) = Variable name
target_of (wants.NoVariable name) = Variable name
target_of (wants.NoEntries name value) = Variable name
target_of (wants.Logged id message) = LogEntry id message

-- the path at which no folder is asked for, where it is about one
abbrev pub closed_path : Wanted → Option (List ℕ)
closed_path (wants.File path contents) = Some path
closed_path (wants.Folder path) = None
closed_path (wants.NoFile path) = Some path
closed_path (wants.NoFolder path forced) = Some path
closed_path _ = None

-- what matters of a resource where it meets others: what it is about, and the path at which it asks for no folder
pub record Matter : Type 0 where
  pub target : Target
  pub closed : Option (List ℕ)

abbrev pub matter_of : Wanted → Matter
matter_of wanted = record { target = target_of wanted; closed = closed_path wanted }

-- the second is about a path below that of the first, at which no folder is asked for
abbrev pub IsAround : Matter → Matter → Type 0
IsAround outer inner =
    (path : List ℕ) × (below : List ℕ) × (outer.closed ≡ Some path) × (inner.target ≡ Path below) × IsBelow path below

-- one target, or one is around the other
abbrev pub MattersMeet : Matter → Matter → Type 0
MattersMeet a b = (a.target ≡ b.target) ⊎ (IsAround a b ⊎ IsAround b a)

abbrev pub Meet : Wanted → Wanted → Type 0
Meet a b = MattersMeet (matter_of a) (matter_of b)

abbrev pub AreApart : Wanted → Wanted → Type 0
AreApart a b = Meet a b → ⊥

-- what the resource at a place asks for; one with a fault asks for nothing
abbrev pub wanted_at : Document → ℕ → Option Wanted
wanted_at document place = option_and_then (λ resource. result_ok (wanted_of resource)) (slice_get document.resources place)

-- each two resources are apart
abbrev pub Apart : Document → Type 0
Apart document =
    (first second : ℕ) (a b : Wanted) → first < second → wanted_at document first ≡ Some a → wanted_at document second ≡ Some b → AreApart a b

-- the resource at a place meets an earlier one
pub record MeetsEarlier (document : Document) (second : ℕ) : Type 0 where
  pub first : ℕ
  pub before : first < second
  pub a : Wanted
  pub b : Wanted
  pub asks_first : wanted_at document first ≡ Some a
  pub asks_second : wanted_at document second ≡ Some b
  pub meet : Meet a b

-- some resource meets an earlier one
abbrev pub Overlap : Document → Type 0
Overlap document = (second : ℕ) × MeetsEarlier document second
