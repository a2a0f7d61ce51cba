-- The nodes that a start may leave: sound, and of parts that were there or were pushed.
use Rattle.std.proofs.Common.{◌⊎◌, inl, inr, ⊎_elim, List, [], ◌∷◌, sym, subst}
use Rattle.dsc_outside.specs.declared.disk.Disk as disks
use Rattle.partial_merge.specs.declared.part.Part.{Part}
use Rattle.node_state.specs.declared.node.Node.{Node}
use Rattle.node_state.specs.declared.event.Event.{Event}
use Rattle.node_state.specs.Slots.{IsSlot, Stages}
use Rattle.node_state.specs.Sound.{Sound}
use Rattle.node_state.specs.Table.{Steps}
use Rattle.node_state.proofs.SlotSteps.{parts_come_from_stages}
use Rattle.node_state.proofs.SoundSteps.{steps_are_sound}
use Rattle.node_store.specs.Store.{IsKept, StoreTerm}
use Rattle.node_store.proofs.Formats.{leads_in}
use Rattle.node_store.proofs.Ranges.{leads_sound}
use Rattle.dsc_node.specs.Headline.{AreSound}
use Rattle.dsc_node.specs.Path.{IsOnTheWay}
use Rattle.dsc_node.proofs.Found.{WasSlot}
use Rattle.dsc_node.proofs.WorkEvents.{stages-front}

pub steps_sound : (old new : Node) (work : List Event) → Steps old work new → Sound old → Sound new
steps_sound old new [] is sound = subst (λ (n : Node). Sound n) (sym is) sound
steps_sound old new (event ∷ work) (mid, step, more) sound = steps_sound mid new work more (steps_are_sound old event mid sound step)

-- the node of a store is sound
pub kept_sound : {D : Type 0} (d : disks.Ghosts D) (disk : D) (store : StoreTerm) → IsKept d disk store → Sound store.node
kept_sound d disk store kept = leads_sound kept.bodies store.node (leads_in store.blobs kept.bodies store.node kept.leads)

pub are_sound : {D : Type 0} (d : disks.Ghosts D) (begin : D) (from : Node) (work : List Event) → Sound from → AreSound d begin from work
are_sound d begin from work sound node (inl stood) = leads_sound stood.stands.bodies node stood.stands.leads
are_sound d begin from work sound node (inr prefix) = steps_sound from node prefix.front prefix.steps sound

-- ---- where the parts come from

pub parts_there : {D : Type 0} (d : disks.Ghosts D) (begin : D) (from : Node) (work : List Event) (node : Node) (part : Part) → IsOnTheWay d begin from work node → IsSlot node part
    → WasSlot d begin from part ⊎ Stages work part
parts_there d begin from work node part (inl stood) slot = inl (inr (node, stood, slot))
parts_there d begin from work node part (inr prefix) slot =
    ⊎_elim (λ here. inl (inl here)) (λ staged. inr (stages-front part prefix.front prefix.rest work prefix.is staged))
    (parts_come_from_stages from node prefix.front part prefix.steps slot)
