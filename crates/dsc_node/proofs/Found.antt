-- The nodes that a start finds, and the parts in them.
use Rattle.std.proofs.Common.{◌≡◌, ◌⊎◌, inl, inr, ℕ, List, Option, Some, None, refl}
use Rattle.std.specs.Prelude.{IfSome}
use Rattle.dsc_outside.specs.declared.disk.Disk as disks
use Rattle.gate_log.specs.Standing.{ReadsAs, StoodFor}
use Rattle.partial_merge.specs.declared.part.Part.{Part}
use Rattle.node_state.specs.declared.node.Node.{Node}
use Rattle.node_state.specs.Slots.{IsSlot}
use Rattle.node_store.specs.Stands.{Stands}
use Rattle.dsc_node.specs.Headline.{WasFound, WasThere}

-- the part stood in the node that was opened, or in one for which an image at the beginning stood
abbrev pub WasSlot : {D : Type 0} → disks.Ghosts D → D → Node → Part → Type 0
WasSlot d begin from part = IsSlot from part ⊎ ((node : Node) × StoodFor d begin Stands node × IsSlot node part)

-- the node that was opened is one that was found, since the disk reads as one of its images
pub was_found : {D : Type 0} (d : disks.Ghosts D) (begin : D) (from : Node) → ((held : List ℕ) → d.shown begin ≡ Some held → d.images begin held) → ReadsAs d begin Stands from → WasFound d begin from from
was_found d begin from honest reads = by (d.shown begin) refl reads where
  by : (shown : Option (List ℕ)) → d.shown begin ≡ shown → IfSome shown (λ held. Stands held from) → WasFound d begin from from
  by None is stands = inr (is, refl)
  by (Some held) is stands = inl (record { image = held; there = honest held is; stands = stands })

pub was_there : {B : Type 0} {D : Type 0} (d : disks.Ghosts D) (begin : D) (from : Node) (part : Part) → WasFound d begin from from → WasSlot d begin from part ⊎ B → WasThere d begin from part ⊎ B
was_there d begin from part found (inl (inl slot)) = inl (from, found, slot)
was_there d begin from part found (inl (inr (node, stood, slot))) = inl (node, inl stood, slot)
was_there d begin from part found (inr brought) = inr brought
