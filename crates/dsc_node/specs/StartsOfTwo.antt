-- Starts of one node in a row, over objects of two kinds, as over a disk and a machine with a stop and over some without: what a start leaves, the
-- next one finds, over whichever objects.
use Rattle.std.specs.Prelude.{◌⊎◌, List, [], ◌∷◌, ℕ, ⊤}
use Rattle.std.specs.List.{AllByRecursion}
use Rattle.dsc_outside.specs.Disk.{Each, Within}
use Rattle.gate_log.specs.Standing.{Any, StandsFor}
use Rattle.partial_merge.specs.declared.part.Part.{Part}
use Rattle.node_state.specs.declared.node.Node.{Node}
use Rattle.node_state.specs.Slots.{IsSlot}
use Rattle.node_state.specs.Table.{new_node}
use Rattle.node_store.specs.Stands.{Stands}
use Rattle.dsc_node.specs.Starts.{Brings, IsExposed, IsLeftAnywhere, IsLeftAtTheEnd, LeavesImage, OneStart}
use Rattle.dsc_node.specs.Work.{Known}

-- ---- one start

-- a start over objects of the one kind, or of the other
pub data StartOfTwo {D S C E T K : Type 0} (o : Known D S C) (p : Known E T K) : Type 0 where
  over_these : OneStart o → StartOfTwo o p
  over_those : OneStart p → StartOfTwo o p

-- what the starts before it and after it see of a start
pub record Seen : Type 1 where
  -- the disk shows what it holds
  pub exposed : Type 0
  -- the images at its beginning, those that a crash at some moment of it or after its end might leave, and those at its end
  pub begins : List ℕ → Type 0
  pub leaves : List ℕ → Type 0
  pub ends : List ℕ → Type 0
  -- the nodes that it may leave where it is stopped at any moment, and those that it leaves at its end
  pub left_anywhere : Node → Type 0
  pub left_at_the_end : Node → Type 0
  -- the parts that it brings
  pub brings : Part → Type 0

abbrev pub seen : {D S C : Type 0} (o : Known D S C) → OneStart o → Seen
seen o one = record {
  exposed = IsExposed o one;
  begins = o.disk.images one.before.disk;
  leaves = LeavesImage o one;
  ends = o.disk.images one.after.disk;
  left_anywhere = IsLeftAnywhere o one;
  left_at_the_end = IsLeftAtTheEnd o one;
  brings = Brings o one;
}

abbrev pub seen_of : {D S C E T K : Type 0} (o : Known D S C) (p : Known E T K) → StartOfTwo o p → Seen
seen_of o p (over_these one) = seen o one
seen_of o p (over_those one) = seen p one

-- ---- two starts

-- each image at its beginning stands for a node
abbrev pub IsWhole : Seen → Type 0
IsWhole s = Each s.begins (StandsFor Stands Any)

-- an image at its beginning stands for the node
abbrev pub MayFind : Seen → Node → Type 0
MayFind s node = (image : List ℕ) × s.begins image × Stands image node

-- the next start begins where this one was stopped or ended
abbrev pub Precedes : Seen → Seen → Type 0
Precedes s next = Within s.leaves next.begins

-- the next start begins where this one ended
abbrev pub EndsInto : Seen → Seen → Type 0
EndsInto s next = Within s.ends next.begins

-- a start finds a node that the start before it may have left, wherever that was stopped
abbrev pub StartsOfTwoGoOn : {D S C E T K : Type 0} → Known D S C → Known E T K → Type 0
StartsOfTwoGoOn o p =
    (one next : StartOfTwo o p) → IsWhole (seen_of o p one) → Precedes (seen_of o p one) (seen_of o p next)
    → IsWhole (seen_of o p next) × ((node : Node) → MayFind (seen_of o p next) node → (seen_of o p one).left_anywhere node)

-- and where that came to its end, one that it left then
abbrev pub StartsOfTwoJoin : {D S C E T K : Type 0} → Known D S C → Known E T K → Type 0
StartsOfTwoJoin o p =
    (one next : StartOfTwo o p) → IsWhole (seen_of o p one) → EndsInto (seen_of o p one) (seen_of o p next)
    → (node : Node) → MayFind (seen_of o p next) node → (seen_of o p one).left_at_the_end node

-- ---- a list of starts

abbrev pub AreExposed : {D S C E T K : Type 0} (o : Known D S C) (p : Known E T K) → List (StartOfTwo o p) → Type 0
AreExposed o p starts = AllByRecursion (λ one. (seen_of o p one).exposed) starts

-- each precedes the next
abbrev pub ArePreceding : {D S C E T K : Type 0} (o : Known D S C) (p : Known E T K) → StartOfTwo o p → List (StartOfTwo o p) → Type 0
ArePreceding o p one [] = ⊤
ArePreceding o p one (next ∷ starts) = Precedes (seen_of o p one) (seen_of o p next) × ArePreceding o p next starts

abbrev pub last_of_two : {D S C E T K : Type 0} (o : Known D S C) (p : Known E T K) → StartOfTwo o p → List (StartOfTwo o p) → StartOfTwo o p
last_of_two o p one [] = one
last_of_two o p one (next ∷ starts) = last_of_two o p next starts

-- one of the starts brings the part
abbrev pub OneBrings : {D S C E T K : Type 0} (o : Known D S C) (p : Known E T K) → StartOfTwo o p → List (StartOfTwo o p) → Part → Type 0
OneBrings o p one [] part = (seen_of o p one).brings part
OneBrings o p one (next ∷ starts) part = (seen_of o p one).brings part ⊎ OneBrings o p next starts part

-- the part was in a slot of a node that the start may find
abbrev pub MayFindPart : Seen → Part → Type 0
MayFindPart s part = (node : Node) × MayFind s node × IsSlot node part

-- Each part of a node that is left at any moment of the last start, or at its end, was in a slot of a node that the first one found, or one
-- of the starts brought it.
abbrev pub PartsOfTwoAreBrought : {D S C E T K : Type 0} → Known D S C → Known E T K → Type 0
PartsOfTwoAreBrought o p =
    (first : StartOfTwo o p) (starts : List (StartOfTwo o p)) → AreExposed o p (first ∷ starts) → IsWhole (seen_of o p first) → ArePreceding o p first starts
    → (image : List ℕ) (node : Node) (part : Part) → (seen_of o p (last_of_two o p first starts)).leaves image → Stands image node → IsSlot node part
    → MayFindPart (seen_of o p first) part ⊎ OneBrings o p first starts part

-- the store is new: each image at the beginning stands for the node that nothing has happened to
abbrev pub IsNew : Seen → Type 0
IsNew s = Each s.begins (λ image. Stands image new_node)

-- so from a new store on each was brought by one of the starts
abbrev pub PartsOfNewAreBrought : {D S C E T K : Type 0} → Known D S C → Known E T K → Type 0
PartsOfNewAreBrought o p =
    (first : StartOfTwo o p) (starts : List (StartOfTwo o p)) → AreExposed o p (first ∷ starts) → IsNew (seen_of o p first) → ArePreceding o p first starts
    → (image : List ℕ) (node : Node) (part : Part) → (seen_of o p (last_of_two o p first starts)).leaves image → Stands image node → IsSlot node part
    → OneBrings o p first starts part
