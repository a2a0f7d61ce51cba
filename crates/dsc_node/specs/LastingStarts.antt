-- Convergence over any machine: within how many starts what is Pending becomes Current, where no answer is a fault and what Sets make lasts.
use Rattle.std.specs.Prelude.{◌≡◌, ◌≢◌, ◌⊎◌, ℕ, ◌<◌, ◌≤◌, List, [], ◌∷◌, length, map, Some, ⊤}
use Rattle.std.specs.List.{AllByRecursion}
use Rattle.dsc_terms.specs.Counts.{Rose}
use Rattle.dsc_document.specs.declared.document.Document.{Document}
use Rattle.gate_log.specs.Standing.{AllStand, ReadsAs}
use Rattle.meta_config.specs.declared.modes.AfterReboot.TheVariants.{ContinueConfiguration}
use Rattle.meta_config.specs.declared.modes.RefreshMode.TheVariants as refreshes
use Rattle.partial_merge.specs.declared.part.Part.{Part}
use Rattle.partial_merge.specs.Merged.{Merged}
use Rattle.resource_kinds.specs.declared.entry.Entry.{Entry}
use Rattle.resource_kinds.specs.Trace.{Compliant}
use Rattle.lcm_core.specs.LastingRuns.{IsFaultless, IsRepairToReboot, Lasts}
use Rattle.node_state.specs.declared.node.Node.{Node}
use Rattle.node_store.specs.Stands.{Stands}
use Rattle.dsc_node.specs.declared.status.Status.TheVariants as statuses
use Rattle.dsc_node.specs.RepairStarts.{HasNumber, IsPromotedTo, IsRepair, WaitsForBoot}
use Rattle.dsc_node.specs.Starts.{EndsBefore, IsExposed, OneStart}
use Rattle.dsc_node.specs.Work.{Known}

module _ {D S C : Type 0} (o : Known D S C) where
  -- the entries of its run
  abbrev pub entries_of : OneStart o → List Entry
  entries_of one = o.resources.trace one.after.beside.machine

  -- ---- the premises

  -- no count of faults of the disk or the clock rose, memory did not run out, and no Test or Set answered a fault
  pub record IsFaultlessStart (one : OneStart o) : Type 0 where
    pub disk : Rose (o.disk.faults one.before.disk) (o.disk.faults one.after.disk) → ⊥
    pub clock : Rose (o.clock.faults one.before.beside.clock) (o.clock.faults one.after.beside.clock) → ⊥
    pub memory : one.status ≢ statuses.Memory
    pub entries : IsFaultless (entries_of one)

  -- nobody else changed the store between two of the starts
  abbrev pub KeepStore : OneStart o → List (OneStart o) → Type 0
  KeepStore one [] = ⊤
  KeepStore one (next ∷ starts) = EndsBefore o one next × KeepStore next starts

  -- All that is asked of a list of starts that begins with this node, with these parts as Pending.
  pub record LastingPremises (parts : List Part) (document : Document) (node : Node) (first : OneStart o) (starts : List (OneStart o)) : Type 0 where
    -- the document of the parts
    pub merged : Merged parts document
    -- the disk shows what it holds at the beginning of each of the starts; before the first it reads as the node
    pub disk_tells : AllByRecursion (IsExposed o) (first ∷ starts)
    pub reads : ReadsAs o.disk first.before.disk Stands node
    pub pending : node.pending ≡ Some parts
    -- the node goes on after a reboot, and is not switched off
    pub continues : node.meta.after ≡ ContinueConfiguration
    pub enabled : node.meta.refresh ≢ refreshes.Disabled
    -- each is a boot, or a consistency that waits for no reboot; it has a number for its report, and is without a fault
    pub repairs : AllByRecursion (IsRepair o) (first ∷ starts)
    pub numbers : AllByRecursion (HasNumber o) (first ∷ starts)
    pub faultless : AllByRecursion IsFaultlessStart (first ∷ starts)
    -- what a Set made lasts: no later Test of its resource in these starts answers no
    pub lasts : (r : ℕ) → r < length document.resources → Lasts r (map entries_of (first ∷ starts))
    -- and nobody else changes the store between two of them
    pub unchanged : KeepStore first starts

  -- ---- one start

  -- the start made Pending Current, on each image of the disk, and each resource's last Test answered yes
  pub record Promotes (parts : List Part) (document : Document) (one : OneStart o) : Type 0 where
    pub done : one.status ≡ statuses.Done
    pub promoted : AllStand o.disk one.after.disk Stands (IsPromotedTo parts)
    pub compliant : Compliant document (entries_of one)

  -- the start ended with a request for a reboot, and waits for a boot
  pub record Reboots (document : Document) (before : Node) (one : OneStart o) : Type 0 where
    pub repair : IsRepairToReboot document (entries_of one)
    pub asked : one.status ≡ statuses.RebootAsked repair.place before.meta.reboot_if_needed
    pub waits : AllStand o.disk one.after.disk Stands (WaitsForBoot before)

  -- each such start does the one or the other
  abbrev pub LastingStartsGoOn : Type 0
  LastingStartsGoOn =
      (parts : List Part) (document : Document) (node : Node) (one : OneStart o) → LastingPremises parts document node one [] → Promotes parts document one ⊎ Reboots document node one

  -- ---- a list of starts

  abbrev pub SomePromotes : List Part → Document → OneStart o → List (OneStart o) → Type 0
  SomePromotes parts document one [] = Promotes parts document one
  SomePromotes parts document one (next ∷ starts) = Promotes parts document one ⊎ SomePromotes parts document next starts

  -- one of the starts makes Pending Current, where there is one more of them than resources
  abbrev pub LastingStartsConverge : Type 0
  LastingStartsConverge =
      (parts : List Part) (document : Document) (node : Node) (first : OneStart o) (starts : List (OneStart o))
      → LastingPremises parts document node first starts → length document.resources ≤ length starts → SomePromotes parts document first starts
