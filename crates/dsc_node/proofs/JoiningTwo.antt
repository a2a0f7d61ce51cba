-- Starts of one node in a row, over objects of two kinds.
use Rattle.std.proofs.Common.{◌≡◌, ◌⊎◌, inl, inr, ⊎_elim, ℕ, ◌≤◌, List, [], ◌∷◌, Some, subst}
use Rattle.gate_log.specs.Standing.{StandsFor}
use Rattle.partial_merge.specs.declared.part.Part.{Part}
use Rattle.node_state.specs.declared.node.Node.{Node}
use Rattle.node_state.specs.Slots.{IsSlot}
use Rattle.node_state.specs.Table.{new_node}
use Rattle.node_store.specs.Stands.{Stands}
use Rattle.node_store.proofs.Meaning.{one_node}
use Rattle.dsc_node.specs.Starts.{Brings, FindsPart, OneStart}
use Rattle.dsc_node.specs.StartsOfTwo.{EndsInto, IsNew, IsWhole, MayFind, MayFindPart, OneBrings, PartsOfNewAreBrought, PartsOfTwoAreBrought, Precedes, Seen, StartOfTwo, StartsOfTwoGoOn, StartsOfTwoJoin, over_these, over_those, seen, seen_of}
use Rattle.dsc_node.specs.Work.{Known}
use Rattle.dsc_node.proofs.Joining.{has_it, leaves, left_anywhere, of_image, or_later}

-- what holds of what is seen of a start
pub record IsSeen (s : Seen) : Type 0 where
  pub anywhere : IsWhole s → (image : List ℕ) → s.leaves image → StandsFor Stands s.left_anywhere image
  pub at_the_end : IsWhole s → (image : List ℕ) → s.ends image → StandsFor Stands s.left_at_the_end image
  pub parts : s.exposed → IsWhole s → (image : List ℕ) (node : Node) (part : Part) → s.leaves image → Stands image node → IsSlot node part → MayFindPart s part ⊎ s.brings part

-- the laws of a disk by which its images are those of its moments
pub record HasLaws {D S C : Type 0} (o : Known D S C) : Type 0 where
  pub counts_now : (disk : D) (t : ℕ) (c : List ℕ) → t ≤ o.disk.moment disk → o.disk.images disk c → o.disk.left_since disk t c
  pub only_now : (disk : D) (c : List ℕ) → o.disk.left_since disk (o.disk.moment disk) c → o.disk.images disk c
  pub honest : (disk : D) (held : List ℕ) → o.disk.shown disk ≡ Some held → o.disk.images disk held

-- ---- one start

module _ {D S C : Type 0} (o : Known D S C) (laws : HasLaws o) where
  found_or_brought : (one : OneStart o) (part : Part) → FindsPart o one part ⊎ Brings o one part → MayFindPart (seen o one) part ⊎ Brings o one part
  found_or_brought one part (inl (node, found, slot)) = inl (node, (found.image, found.there, found.stands), slot)
  found_or_brought one part (inr brought) = inr brought

  is_seen : (one : OneStart o) → IsSeen (seen o one)
  is_seen one = record {
    anywhere = left_anywhere o laws.counts_now laws.only_now laws.honest one;
    at_the_end = leaves o laws.counts_now laws.only_now laws.honest one.command one.before one.after one.status one.lines one.start;
    parts = λ exposed whole image node part left stands slot.
        found_or_brought one part (of_image o laws.counts_now laws.only_now laws.honest one exposed whole image node part left stands slot);
  }

-- ---- two starts

module _ (s next : Seen) (is : IsSeen s) (whole : IsWhole s) where
  next_whole : Precedes s next → IsWhole next
  next_whole goes image there = (let left = is.anywhere whole image (goes image there) in record { value = left.value; stands = left.stands; has = tt })

  next_finds : Precedes s next → (node : Node) → MayFind next node → s.left_anywhere node
  next_finds goes node (image, there, stands) = has_it s.left_anywhere image node (is.anywhere whole image (goes image there)) stands

  next_joins : EndsInto s next → (node : Node) → MayFind next node → s.left_at_the_end node
  next_joins ends node (image, there, stands) = has_it s.left_at_the_end image node (is.at_the_end whole image (ends image there)) stands

-- a new store has no part
new_whole : (s : Seen) → IsNew s → IsWhole s
new_whole s new image there = record { value = new_node; stands = new image there; has = tt }

no_slot : (part : Part) → IsSlot new_node part → ⊥
no_slot part (inl pending) = pending
no_slot part (inr (inl current)) = current
no_slot part (inr (inr previous)) = previous

new_finds_none : (s : Seen) (part : Part) → IsNew s → MayFindPart s part → ⊥
new_finds_none s part new (node, (image, there, stands), slot) =
    no_slot part (subst (λ (n : Node). IsSlot n part) (one_node image node new_node stands (new image there)) slot)

-- ---- a list of starts

module _ {D S C E T K : Type 0} (o : Known D S C) (p : Known E T K) (these : HasLaws o) (those : HasLaws p) where
  is_seen_of : (one : StartOfTwo o p) → IsSeen (seen_of o p one)
  is_seen_of (over_these one) = is_seen o these one
  is_seen_of (over_those one) = is_seen p those one

  pub go_on : StartsOfTwoGoOn o p
  go_on one next whole goes =
      let is = is_seen_of one in
      (next_whole (seen_of o p one) (seen_of o p next) is whole goes, next_finds (seen_of o p one) (seen_of o p next) is whole goes)

  pub join : StartsOfTwoJoin o p
  join one next whole ends = next_joins (seen_of o p one) (seen_of o p next) (is_seen_of one) whole ends

  -- what the next start finds, this one found or brought
  of_next : (one next : StartOfTwo o p) (starts : List (StartOfTwo o p)) (part : Part) → (seen_of o p one).exposed → IsWhole (seen_of o p one) → Precedes (seen_of o p one) (seen_of o p next)
      → MayFindPart (seen_of o p next) part ⊎ OneBrings o p next starts part → MayFindPart (seen_of o p one) part ⊎ OneBrings o p one (next ∷ starts) part
  of_next one next starts part exposed whole goes (inl (node, (image, there, stands), slot)) =
      or_later ((is_seen_of one).parts exposed whole image node part (goes image there) stands slot)
  of_next one next starts part exposed whole goes (inr some) = inr (inr some)

  pub parts_of_two : PartsOfTwoAreBrought o p
  parts_of_two one [] exposed whole row image node part left stands slot = (is_seen_of one).parts exposed.0 whole image node part left stands slot
  parts_of_two one (next ∷ starts) exposed whole row image node part left stands slot =
      of_next one next starts part exposed.0 whole row.0
      (parts_of_two next starts exposed.1 (next_whole (seen_of o p one) (seen_of o p next) (is_seen_of one) whole row.0) row.1 image node part left stands slot)

  pub parts_of_new : PartsOfNewAreBrought o p
  parts_of_new first starts exposed new row image node part left stands slot =
      ⊎_elim (λ found. absurd (new_finds_none (seen_of o p first) part new found)) (λ brought. brought)
      (parts_of_two first starts exposed (new_whole (seen_of o p first) new) row image node part left stands slot)
