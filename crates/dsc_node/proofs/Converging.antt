-- An undisturbed start that repairs Pending makes it Current, or asks for a reboot and comes nearer to that; so a list of them comes to its end.
use Rattle.std.proofs.Common.{◌≡◌, ◌⊎◌, inl, inr, ℕ, ◌≤◌, List, [], ◌∷◌, length, Option, Some, None, refl, sym, ◌∙◌, ap, subst, arith}
use Rattle.std.specs.Prelude.{IfSome}
use Rattle.dsc_terms.specs.Counts.{Rose}
use Rattle.dsc_outside.specs.declared.disk.Disk as disks
use Rattle.dsc_outside.specs.declared.host.Host as hosts
use Rattle.dsc_outside.specs.declared.clock.Clock as clocks
use Rattle.dsc_outside.specs.Host.{HostState}
use Rattle.dsc_document.specs.declared.document.Document.{Document}
use Rattle.gate_log.specs.Standing.{StandsFor}
use Rattle.meta_config.specs.declared.meta.Meta.{Meta}
use Rattle.partial_merge.specs.declared.part.Part.{Part}
use Rattle.partial_merge.specs.Merged.{Merged}
use Rattle.resource_kinds.specs.declared.entry.Entry.{Entry}
use Rattle.resource_kinds.specs.declared.kinds.Kinds.{Kinds}
use Rattle.resource_kinds.specs.Apart.{Apart}
use Rattle.resource_kinds.specs.Documents.{AllHold, Clear}
use Rattle.resource_kinds.specs.Holding.{UnheldIsBounded, unheld}
use Rattle.resource_kinds.specs.Kinds.{calls_of, host_of}
use Rattle.resource_kinds.specs.Trace.{Compliant, host_failures}
use Rattle.resource_kinds.specs.True.{TellsTrue, True}
use Rattle.lcm_core.specs.declared.modes.RunEnd.{RunEnd}
use Rattle.lcm_core.specs.declared.modes.RunEnd.TheVariants as ends
use Rattle.lcm_core.specs.declared.modes.RunMode.TheVariants.{Repair}
use Rattle.lcm_core.specs.Bounds.{IsBounded, LegalIsBounded}
use Rattle.lcm_core.specs.Legal.{Legal}
use Rattle.lcm_core.specs.RebootLaws.{AllKnown, ClearRepairsComply, ComesNearer, IsClearRepair, RebootsComeNearer}
use Rattle.lcm_core.specs.RunLaws.{CompliantHold}
use Rattle.node_state.specs.declared.node.Node.{Node}
use Rattle.node_state.specs.declared.event.Event.{Event}
use Rattle.node_state.specs.Table.{Steps}
use Rattle.node_store.specs.Stands.{Stands}
use Rattle.dsc_node.specs.declared.command.Command.{Command}
use Rattle.dsc_node.specs.declared.status.Status.{Status}
use Rattle.dsc_node.specs.declared.status.Status.TheVariants as statuses
use Rattle.dsc_node.specs.Complete.{ValidStartsComplete}
use Rattle.dsc_node.specs.Converging.{AsksForReboot, HostStart, MakesCurrent, Premises, RunsAreBounded, Shows, StartsComeNearer, StartsConverge, StartsConvergeInTime}
use Rattle.dsc_node.specs.Headline.{HasHeadline, IsRun}
use Rattle.dsc_node.specs.HostHeadline.{known_on_host}
use Rattle.dsc_node.specs.Ran.{EndsAs}
use Rattle.dsc_node.specs.RepairStarts.{IsPromotedTo, WaitsForBoot}
use Rattle.dsc_node.specs.Runs.{Run}
use Rattle.dsc_node.specs.Start.{Outside, Start, opened, refused, unopened}
use Rattle.dsc_node.specs.Work.{Beside, Known}
use Rattle.dsc_node.proofs.HeadlineRuns.{is_true}
use Rattle.dsc_node.proofs.RepairStarts.{PendingRan, RanPending, all_stand, document_is, is_asked, is_done, legal, next_node, no_failure, promoted_to, ran_pending, waits_on, whole}
use Rattle.dsc_node.proofs.SameHost.{still_clear, same_unheld}

-- ---- how often a resource is called

never_called : IsBounded []
never_called r = (omega arith, omega arith)

module _ {D S C : Type 0} (o : Known D S C) (bounded : LegalIsBounded) where
  bounded_run : (run : Option Run) (ready after : S) → IsRun o.resources run ready after → o.resources.trace ready ≡ [] → IsBounded (o.resources.trace after)
  bounded_run None ready after same none = subst IsBounded (sym (ap o.resources.trace same ∙ none)) never_called
  bounded_run (Some run) ready after ran none = bounded run.document run.choice.mode run.order (o.resources.trace after) ran.legal

  bounded_start : (command : Command) (before after : Outside D S C) (status : Status) (lines : List ℕ) → HasHeadline o command before after status lines
      → o.resources.trace before.beside.machine ≡ [] → Start o command before after status lines → IsBounded (o.resources.trace after.beside.machine)
  bounded_start command before after status lines headline none (refused error unmerged same ends) =
      subst IsBounded (sym (ap (λ (s : Outside D S C). o.resources.trace s.beside.machine) same ∙ none)) never_called
  bounded_start command before after status lines headline none (unopened plan error is count cause quiet moments ends) =
      subst IsBounded (sym (ap (λ (s : Beside S C). o.resources.trace s.machine) quiet ∙ none)) never_called
  bounded_start command before after status lines headline none (opened s) =
      let runs = (headline s).sets_follow_tests in
      bounded_run s.run s.ready after.beside.machine runs.runs (runs.untested ∙ none)

  pub runs_are_bounded : RunsAreBounded o
  runs_are_bounded one none = bounded_start one.command one.before one.after one.status one.lines one.headline none one.start

-- ---- what it comes to

module _ {D H C : Type 0} (d : disks.Ghosts D) (host : hosts.Ghosts H) (clock : clocks.Ghosts C) where
  -- Pending is Current and all hold, or a reboot was asked for and fewer are left that do not hold
  data Outcome (parts : List Part) (document : Document) (state : HostState) (from : Node) (after : Kinds H) (status : Status) (committed : List Event) : Type 0 where
    made_current : status ≡ statuses.Done → ((end : Node) → Steps from committed end → IsPromotedTo parts end) → (left : HostState) → host.shown (host_of after) ≡ Some left → AllHold left document
        → Outcome parts document state from after status committed
    asked_reboot : (place : ℕ) → status ≡ statuses.RebootAsked place from.meta.reboot_if_needed → ((end : Node) → Steps from committed end → WaitsForBoot from end)
        → (left : HostState) → host.shown (host_of after) ≡ Some left → ComesNearer document state left → Outcome parts document state from after status committed

  module _ (nearer : RebootsComeNearer) (comply : ClearRepairsComply) (together : CompliantHold) (from : Node) (parts : List Part) (document : Document) (merged : Merged parts document)
      (apart : Apart document) (known : AllKnown document) (state : HostState) (clear : Clear state document) (pending : from.pending ≡ Some parts)
      (before after : Kinds H) (shows : host.shown (host_of before) ≡ Some state) (still : Rose (host.faults (host_of before)) (host.faults (host_of after)) → ⊥)
      (status : Status) (committed : List Event) (r : RanPending (known_on_host d host clock) from parts before after status committed) where
    abbrev trace : List Entry
    trace = calls_of after

    is_its : document ≡ r.run.document
    is_its = document_is (known_on_host d host clock) from parts pending before after status committed r document merged

    -- the run is true of the host, which shows what it holds at the end too
    told : (left : HostState) × (host.shown (host_of after) ≡ Some left) × True r.run.document state trace left
    told = subst (λ (o : Option HostState). TellsTrue r.run.document o trace (host.shown (host_of after))) shows (is_true host before after r.run r.ran)

    is_legal : Legal r.run.document Repair r.run.order trace
    is_legal = legal (known_on_host d host clock) from parts pending before after status committed r

    clear_repair : IsClearRepair r.run.document r.run.order state trace told.0
    clear_repair = record {
      legal = is_legal;
      is_true = told.2;
      apart = subst Apart is_its apart;
      known = subst AllKnown is_its known;
      clear = subst (Clear state) is_its clear;
      unfailed = no_failure (host_failures trace) (host.faults (host_of before)) (host.faults (host_of after)) r.ran.failures still;
    }

    -- a run that came to its last resource
    compliant : r.run.end ≡ ends.Finished → Compliant r.run.document trace
    compliant finished_it =
        comply r.run.document r.run.order state told.0 trace clear_repair r.ran.is_order (whole (known_on_host d host clock) from parts pending before after status committed r)
        (subst (λ (e : RunEnd). EndsAs e trace) finished_it r.ran.ended)

    all_hold : r.run.end ≡ ends.Finished → AllHold told.0 document
    all_hold finished_it =
        subst (AllHold told.0) (sym is_its) (together r.run.document Repair r.run.order state told.0 trace is_legal told.2 (subst Apart is_its apart) (compliant finished_it))

    -- a run that ended with a reboot
    come_nearer : (place : ℕ) → r.run.end ≡ ends.RebootAsked place → ComesNearer document state told.0
    come_nearer place asked = subst (λ (x : Document). ComesNearer x state told.0) (sym is_its)
        (nearer r.run.document r.run.order state told.0 trace clear_repair (place, subst (λ (e : RunEnd). EndsAs e trace) asked r.ran.ended))

    outcome : Outcome parts document state from after status committed
    outcome = by r.run.end refl where
      by : (end : RunEnd) → r.run.end ≡ end → Outcome parts document state from after status committed
      by ends.Finished is =
          made_current (is_done (known_on_host d host clock) from parts pending before after status committed r is (compliant is))
          (promoted_to (known_on_host d host clock) from parts pending before after status committed r is (compliant is)) told.0 told.1 (all_hold is)
      by (ends.RebootAsked place) is =
          asked_reboot place (is_asked (known_on_host d host clock) from parts pending before after status committed r place is)
          (waits_on (known_on_host d host clock) from parts pending before after status committed r place is) told.0 told.1 (come_nearer place is)
      by ends.Memory is = absurd (r.goes_on is)

-- ---- one start

module _ {D H C : Type 0} (d : disks.Ghosts D) (host : hosts.Ghosts H) (clock : clocks.Ghosts C) (nearer : RebootsComeNearer) (comply : ClearRepairsComply) (together : CompliantHold)
    (complete : ValidStartsComplete (known_on_host d host clock)) where
  -- what is asked of one start, whichever follow
  module _ (parts : List Part) (document : Document) (node : Node) (state : HostState) where
    first_alone : (first : HostStart d host clock) (starts : List (HostStart d host clock)) → Premises d host clock parts document node state first starts
        → Premises d host clock parts document node state first []
    first_alone first starts p = record {
      merged = p.merged;
      apart = p.apart;
      known = p.known;
      disk_tells = (p.disk_tells.0, tt);
      reads = p.reads;
      pending = p.pending;
      host_tells = p.host_tells;
      clear = p.clear;
      continues = p.continues;
      enabled = p.enabled;
      repairs = (p.repairs.0, tt);
      numbers = (p.numbers.0, tt);
      undisturbed = (p.undisturbed.0, tt);
      unchanged = tt;
    }

    module _ (one : HostStart d host clock) (p : Premises d host clock parts document node state one []) where
      ran : PendingRan (known_on_host d host clock) parts node one
      ran = ran_pending (known_on_host d host clock) complete parts node one (record {
        tells = p.disk_tells.0;
        reads = p.reads;
        pending = p.pending;
        continues = p.continues;
        enabled = p.enabled;
        repairs = p.repairs.0;
        number = p.numbers.0;
        disk = p.undisturbed.0.disk;
        clock = p.undisturbed.0.clock;
        memory = p.undisturbed.0.memory;
      })

      found : Outcome d host clock parts document state node one.after.beside.machine one.status ran.committed
      found = outcome d host clock nearer comply together node parts document p.merged p.apart p.known state p.clear p.pending one.before.beside.machine one.after.beside.machine p.host_tells
          p.undisturbed.0.host one.status ran.committed ran.ran

      as_told : Outcome d host clock parts document state node one.after.beside.machine one.status ran.committed
          → MakesCurrent d host clock parts document one ⊎ AsksForReboot d host clock document node state one
      as_told (made_current done promoted left shows hold) =
          inl (record { done = done; promoted = all_stand (known_on_host d host clock) parts node one ran (IsPromotedTo parts) promoted; state = left; shows = shows; hold = hold })
      as_told (asked_reboot place asked waits left shows near) =
          inr (record { place = place; asked = asked; waits = all_stand (known_on_host d host clock) parts node one ran (WaitsForBoot node) waits; left = left; shows = shows; nearer = near })

    pub starts_come_nearer_to : (one : HostStart d host clock) → Premises d host clock parts document node state one []
        → MakesCurrent d host clock parts document one ⊎ AsksForReboot d host clock document node state one
    starts_come_nearer_to one p = as_told one p (found one p)

  pub starts_come_nearer : StartsComeNearer d host clock
  starts_come_nearer parts document node state one p = starts_come_nearer_to parts document node state one p

  -- ---- a list of starts

  module _ (honest : (disk : D) (held : List ℕ) → d.shown disk ≡ Some held → d.images disk held) where
    -- what is asked of the starts after one that asked for a reboot
    module _ (parts : List Part) (document : Document) (node : Node) (state : HostState) (one next : HostStart d host clock) (starts : List (HostStart d host clock))
        (p : Premises d host clock parts document node state one (next ∷ starts)) (asks : AsksForReboot d host clock document node state one) where
      abbrev next_held : List ℕ
      next_held = p.disk_tells.1.0.0

      -- what the next start reads, this one left
      left_node : StandsFor Stands (WaitsForBoot node) next_held
      left_node = next_node (known_on_host d host clock) honest node one next asks.waits p.unchanged.0.store p.disk_tells.1.0

      shown_next : (wanting : List (List ℕ)) × Shows d host clock next.before (record asks.left { wanting = wanting })
      shown_next = p.unchanged.0.host asks.left asks.shows

      abbrev next_state : HostState
      next_state = record asks.left { wanting = shown_next.0 }

      next_unheld : unheld next_state document ≡ unheld asks.left document
      next_unheld = same_unheld asks.left shown_next.0 document

      next_premises : Premises d host clock parts document left_node.value next_state next starts
      next_premises = record {
        merged = p.merged;
        apart = p.apart;
        known = p.known;
        disk_tells = p.disk_tells.1;
        reads = subst (λ (shown : Option (List ℕ)). IfSome shown (λ h. Stands h left_node.value)) (sym p.disk_tells.1.0.1) left_node.stands;
        pending = left_node.has.pending ∙ p.pending;
        host_tells = shown_next.1;
        clear = still_clear asks.left shown_next.0 document asks.nearer.clear;
        continues = ap (λ (m : Meta). m.after) left_node.has.meta ∙ p.continues;
        enabled = λ disabled. p.enabled (ap (λ (m : Meta). m.refresh) (sym left_node.has.meta) ∙ disabled);
        repairs = p.repairs.1;
        numbers = p.numbers.1;
        undisturbed = p.undisturbed.1;
        unchanged = p.unchanged.1;
      }

    pub starts_converge : StartsConverge d host clock
    starts_converge parts document node state one [] p few = elim (starts_come_nearer_to parts document node state one p) [
      | inl made ↦ made
      | inr asks ↦ absurd (omega (arith, asks.nearer.fewer, few))
    ]
    starts_converge parts document node state one (next ∷ starts) p few = elim (starts_come_nearer_to parts document node state one (first_alone parts document node state one (next ∷ starts) p)) [
      | inl made ↦ inl made
      | inr asks ↦
          let fewer : unheld (next_state parts document node state one next starts p asks) document ≤ length starts = omega (arith, next_unheld parts document node state one next starts p asks, asks.nearer.fewer, few) in
          inr (starts_converge parts document (left_node parts document node state one next starts p asks).value (next_state parts document node state one next starts p asks) next starts
          (next_premises parts document node state one next starts p asks) fewer)
    ]

    pub starts_converge_in_time : UnheldIsBounded → StartsConvergeInTime d host clock
    starts_converge_in_time bounded parts document node state first starts p enough =
        starts_converge parts document node state first starts p (omega (arith, bounded state document, enough))
