-- Convergence with programs on: within how many starts what is Pending becomes Current, where its resources are commands and those of a host that
-- shows what it holds, and nobody else changes either.
use Rattle.std.specs.Prelude.{◌≡◌, ◌≢◌, ◌⊎◌, ℕ, ◌<◌, ◌≤◌, true, List, [], ◌∷◌, length, map, Some, None, slice_get, ⊤}
use Rattle.std.specs.List.{AllByRecursion}
use Rattle.std.specs.Option.{IsSomeAnd}
use Rattle.dsc_terms.specs.Counts.{Rose}
use Rattle.dsc_outside.specs.declared.clock.Clock as clocks
use Rattle.dsc_outside.specs.declared.disk.Disk as disks
use Rattle.dsc_outside.specs.declared.host.Host as hosts
use Rattle.dsc_outside.specs.Host.{HostState}
use Rattle.mof_values.specs.declared.instance.Instance.{Instance}
use Rattle.dsc_document.specs.declared.document.Document.{Document}
use Rattle.dsc_document.specs.declared.document.Resource.{Resource}
use Rattle.gate_log.specs.Standing.{ReadsAs}
use Rattle.meta_config.specs.declared.modes.AfterReboot.TheVariants.{ContinueConfiguration}
use Rattle.meta_config.specs.declared.modes.RefreshMode.TheVariants as refreshes
use Rattle.partial_merge.specs.declared.part.Part.{Part}
use Rattle.partial_merge.specs.Merged.{Merged}
use Rattle.resource_kinds.specs.declared.kinds.Kinds.{Kinds}
use Rattle.resource_kinds.specs.Apart.{Apart}
use Rattle.resource_kinds.specs.Documents.{Clear}
use Rattle.lcm_core.specs.LastingRuns.{Lasts}
use Rattle.lcm_core.specs.RepairLaws.{IsKnown}
use Rattle.node_state.specs.declared.node.Node.{Node}
use Rattle.node_store.specs.Stands.{Stands}
use Rattle.dsc_node.specs.declared.status.Status.TheVariants as statuses
use Rattle.dsc_node.specs.LastingStarts.{SomePromotes, entries_of}
use Rattle.dsc_node.specs.RepairStarts.{HasNumber, IsRepair}
use Rattle.dsc_node.specs.Start.{Outside}
use Rattle.dsc_node.specs.Starts.{EndsBefore, IsExposed, OneStart}
use Rattle.dsc_node.specs.Work.{Known}
use Rattle.command_kind.specs.declared.commands.Commands.{Commands}
use Rattle.command_kind.specs.declared.spawner.Spawner as spawners
use Rattle.command_kind.specs.Tables.{first_missing, first_wrong_of_command, is_command}
use Rattle.lcm_program.specs.FurtherCommands.{commands_of, known_with_commands, shown_by}

-- ---- resources

-- a command that has its name and both of its programs, and no property that may not stand there
pub record IsWholeCommand (instance : Instance) : Type 0 where
  pub is : is_command instance ≡ true
  pub right : first_wrong_of_command instance ≡ None
  pub whole : first_missing instance ≡ None

abbrev pub HasWholeCommand : Document → ℕ → Type 0
HasWholeCommand document r = IsSomeAnd (slice_get document.resources r) (λ (resource : Resource). IsWholeCommand resource.instance)

module _ {D H P C : Type 0} (d : disks.Ghosts D) (h : hosts.Ghosts H) (s : spawners.Ghosts P) (c : clocks.Ghosts C) where
  abbrev pub with_commands : Known D (Commands (Kinds H) P) C
  with_commands = known_with_commands d h s c

  -- a start over commands beside the kinds of resources of a host
  abbrev pub CommandStart : Type 0
  CommandStart = OneStart with_commands

  -- ---- the premises

  -- the state that the host shows
  abbrev pub Shows : Outside D (Commands (Kinds H) P) C → HostState → Type 0
  Shows outside state = shown_by h outside.beside.machine ≡ Some state

  -- no count of faults rose, that of the programs neither, and memory did not run out
  pub record IsUndisturbed (one : CommandStart) : Type 0 where
    pub disk : Rose (d.faults one.before.disk) (d.faults one.after.disk) → ⊥
    pub machine : Rose ((commands_of h s).faults one.before.beside.machine) ((commands_of h s).faults one.after.beside.machine) → ⊥
    pub clock : Rose (c.faults one.before.beside.clock) (c.faults one.after.beside.clock) → ⊥
    pub memory : one.status ≢ statuses.Memory

  -- Nobody else changed the store or the host between two starts. Which resources want a reboot may be otherwise, as a boot may make it.
  pub record IsUnchanged (one next : CommandStart) : Type 0 where
    pub store : EndsBefore with_commands one next
    pub host : (state : HostState) → Shows one.after state → (wanting : List (List ℕ)) × Shows next.before (record state { wanting = wanting })

  abbrev pub AreUnchanged : CommandStart → List CommandStart → Type 0
  AreUnchanged one [] = ⊤
  AreUnchanged one (next ∷ starts) = IsUnchanged one next × AreUnchanged next starts

  -- All that is asked of a list of starts that begins with this node, with these parts as Pending, and this state of the host.
  pub record Premises (parts : List Part) (document : Document) (node : Node) (state : HostState) (first : CommandStart) (starts : List CommandStart) : Type 0 where
    -- the document of the parts; what is asked of the host is apart, and each resource is of the host without a fault of its own, or a whole command
    pub merged : Merged parts document
    pub apart : Apart document
    pub known : (r : ℕ) → r < length document.resources → IsKnown document r ⊎ HasWholeCommand document r
    -- the disk shows what it holds at the beginning of each of the starts; before the first it reads as the node
    pub disk_tells : AllByRecursion (IsExposed with_commands) (first ∷ starts)
    pub reads : ReadsAs d first.before.disk Stands node
    pub pending : node.pending ≡ Some parts
    -- the host shows what it holds, so no program changes that, and nothing is in the way of its resources at the first of the starts
    pub host_tells : Shows first.before state
    pub clear : Clear state document
    -- the node goes on after a reboot, and is not switched off
    pub continues : node.meta.after ≡ ContinueConfiguration
    pub enabled : node.meta.refresh ≢ refreshes.Disabled
    -- each is a boot, or a consistency that waits for no reboot; it has a number for its report, and is undisturbed
    pub repairs : AllByRecursion (IsRepair with_commands) (first ∷ starts)
    pub numbers : AllByRecursion (HasNumber with_commands) (first ∷ starts)
    pub undisturbed : AllByRecursion IsUndisturbed (first ∷ starts)
    -- what a Set of a command made lasts: after it the program for its Test never ends with another status than 0 in these starts
    pub commands_last : (r : ℕ) → HasWholeCommand document r → Lasts r (map (entries_of with_commands) (first ∷ starts))
    -- and nobody else changes the store or the host between two of them
    pub unchanged : AreUnchanged first starts

  -- one of the starts makes Pending Current, where there is one more of them than resources
  abbrev pub StartsWithCommandsConverge : Type 0
  StartsWithCommandsConverge =
      (parts : List Part) (document : Document) (node : Node) (state : HostState) (first : CommandStart) (starts : List CommandStart)
      → Premises parts document node state first starts → length document.resources ≤ length starts → SomePromotes with_commands parts document first starts
