-- Convergence: within how many starts what is Pending becomes Current, on a host that shows what it holds and that nobody else changes.
use Rattle.std.specs.Prelude.{◌≡◌, ◌≢◌, ◌⊎◌, ℕ, ◌≤◌, List, [], ◌∷◌, length, Some, ⊤}
use Rattle.std.specs.List.{AllByRecursion}
use Rattle.dsc_terms.specs.Counts.{Rose}
use Rattle.dsc_outside.specs.declared.disk.Disk as disks
use Rattle.dsc_outside.specs.declared.host.Host as hosts
use Rattle.dsc_outside.specs.declared.clock.Clock as clocks
use Rattle.dsc_outside.specs.Host.{HostState}
use Rattle.dsc_document.specs.declared.document.Document.{Document}
use Rattle.gate_log.specs.Standing.{AllStand, ReadsAs}
use Rattle.meta_config.specs.declared.modes.AfterReboot.TheVariants.{ContinueConfiguration}
use Rattle.meta_config.specs.declared.modes.RefreshMode.TheVariants as refreshes
use Rattle.partial_merge.specs.declared.part.Part.{Part}
use Rattle.partial_merge.specs.Merged.{Merged}
use Rattle.resource_kinds.specs.declared.kinds.Kinds.{Kinds}
use Rattle.resource_kinds.specs.Apart.{Apart}
use Rattle.resource_kinds.specs.Documents.{AllHold, Clear}
use Rattle.resource_kinds.specs.Holding.{unheld}
use Rattle.resource_kinds.specs.Kinds.{host_of}
use Rattle.lcm_core.specs.Bounds.{IsBounded}
use Rattle.lcm_core.specs.RebootLaws.{AllKnown, ComesNearer}
use Rattle.node_state.specs.declared.node.Node.{Node}
use Rattle.node_store.specs.Stands.{Stands}
use Rattle.dsc_node.specs.declared.status.Status.TheVariants as statuses
use Rattle.dsc_node.specs.HostHeadline.{known_on_host}
use Rattle.dsc_node.specs.RepairStarts.{HasNumber, IsPromotedTo, IsRepair, WaitsForBoot}
use Rattle.dsc_node.specs.Start.{Outside}
use Rattle.dsc_node.specs.Starts.{EndsBefore, IsExposed, OneStart}
use Rattle.dsc_node.specs.Work.{Known}

-- ---- how often a resource is called

-- a start makes at most two Tests of each resource, and one Set, over any machine
abbrev pub RunsAreBounded : {D S C : Type 0} → Known D S C → Type 0
RunsAreBounded o = (one : OneStart o) → o.resources.trace one.before.beside.machine ≡ [] → IsBounded (o.resources.trace one.after.beside.machine)

module _ {D H C : Type 0} (d : disks.Ghosts D) (h : hosts.Ghosts H) (c : clocks.Ghosts C) where
  -- a start over the kinds of resources of a host
  abbrev pub HostStart : Type 0
  HostStart = OneStart (known_on_host d h c)

  -- ---- the premises

  -- the state that the host shows
  abbrev pub Shows : Outside D (Kinds H) C → HostState → Type 0
  Shows outside state = h.shown (host_of outside.beside.machine) ≡ Some state

  -- no count of faults rose, and memory did not run out
  pub record IsUndisturbed (one : HostStart) : Type 0 where
    pub disk : Rose (d.faults one.before.disk) (d.faults one.after.disk) → ⊥
    pub host : Rose (h.faults (host_of one.before.beside.machine)) (h.faults (host_of one.after.beside.machine)) → ⊥
    pub clock : Rose (c.faults one.before.beside.clock) (c.faults one.after.beside.clock) → ⊥
    pub memory : one.status ≢ statuses.Memory

  -- Nobody else changed the store or the host between two starts. Which resources want a reboot may be otherwise, as a boot may make it.
  pub record IsUnchanged (one next : HostStart) : Type 0 where
    pub store : EndsBefore (known_on_host d h c) one next
    pub host : (state : HostState) → Shows one.after state → (wanting : List (List ℕ)) × Shows next.before (record state { wanting = wanting })

  abbrev pub AreUnchanged : HostStart → List HostStart → Type 0
  AreUnchanged one [] = ⊤
  AreUnchanged one (next ∷ starts) = IsUnchanged one next × AreUnchanged next starts

  -- All that is asked of a list of starts that begins with this node, with these parts as Pending, and this state of the host.
  pub record Premises (parts : List Part) (document : Document) (node : Node) (state : HostState) (first : HostStart) (starts : List HostStart) : Type 0 where
    -- the document of the parts; its resources are apart, and none has a fault of its own
    pub merged : Merged parts document
    pub apart : Apart document
    pub known : AllKnown document
    -- the disk shows what it holds at the beginning of each of the starts; before the first it reads as the node
    pub disk_tells : AllByRecursion (IsExposed (known_on_host d h c)) (first ∷ starts)
    pub reads : ReadsAs d first.before.disk Stands node
    pub pending : node.pending ≡ Some parts
    -- the host shows what it holds, and nothing is in the way of the document's resources at the first of the starts
    pub host_tells : Shows first.before state
    pub clear : Clear state document
    -- the node goes on after a reboot, and is not switched off
    pub continues : node.meta.after ≡ ContinueConfiguration
    pub enabled : node.meta.refresh ≢ refreshes.Disabled
    -- each is a boot, or a consistency that waits for no reboot; it has a number for its report, and is undisturbed
    pub repairs : AllByRecursion (IsRepair (known_on_host d h c)) (first ∷ starts)
    pub numbers : AllByRecursion (HasNumber (known_on_host d h c)) (first ∷ starts)
    pub undisturbed : AllByRecursion IsUndisturbed (first ∷ starts)
    -- and nobody else changes the store or the host between two of them
    pub unchanged : AreUnchanged first starts

  -- ---- one start

  -- the start made Pending Current, on each image of the disk, and all that the document asks for holds
  pub record MakesCurrent (parts : List Part) (document : Document) (one : HostStart) : Type 0 where
    pub done : one.status ≡ statuses.Done
    pub promoted : AllStand d one.after.disk Stands (IsPromotedTo parts)
    pub state : HostState
    pub shows : Shows one.after state
    pub hold : AllHold state document

  -- the start asked for a reboot; fewer resources are left that do not hold, and nothing is in the way
  pub record AsksForReboot (document : Document) (before : Node) (state : HostState) (one : HostStart) : Type 0 where
    pub place : ℕ
    pub asked : one.status ≡ statuses.RebootAsked place before.meta.reboot_if_needed
    pub waits : AllStand d one.after.disk Stands (WaitsForBoot before)
    pub left : HostState
    pub shows : Shows one.after left
    pub nearer : ComesNearer document state left

  abbrev pub StartsComeNearer : Type 0
  StartsComeNearer =
      (parts : List Part) (document : Document) (node : Node) (state : HostState) (one : HostStart) → Premises parts document node state one []
      → MakesCurrent parts document one ⊎ AsksForReboot document node state one

  -- ---- a list of starts

  -- one of the starts made Pending Current
  abbrev pub SomeMakesCurrent : List Part → Document → HostStart → List HostStart → Type 0
  SomeMakesCurrent parts document one [] = MakesCurrent parts document one
  SomeMakesCurrent parts document one (next ∷ starts) = MakesCurrent parts document one ⊎ SomeMakesCurrent parts document next starts

  -- one of the starts does, where there is one more of them than resources that do not hold
  abbrev pub StartsConverge : Type 0
  StartsConverge =
      (parts : List Part) (document : Document) (node : Node) (state : HostState) (first : HostStart) (starts : List HostStart)
      → Premises parts document node state first starts → unheld state document ≤ length starts → SomeMakesCurrent parts document first starts

  -- and so where there is one more than resources
  abbrev pub StartsConvergeInTime : Type 0
  StartsConvergeInTime =
      (parts : List Part) (document : Document) (node : Node) (state : HostState) (first : HostStart) (starts : List HostStart)
      → Premises parts document node state first starts → length document.resources ≤ length starts → SomeMakesCurrent parts document first starts
