-- Commands that last beside resources of a host: a start makes Pending Current or asks for a reboot, and of a list of them that is long enough one
-- makes it Current.
use Rattle.std.proofs.Common.{◌≡◌, ◌≢◌, ◌⊎◌, inl, inr, ℕ, ◌+◌, ◌<◌, Bool, true, false, not, List, [], ◌∷◌, ◌++◌, length, map, take, drop, get_or, slice_get, Option, Some, None, Result, Ok, refl, sym, ◌∙◌, ap, subst, arith}
use Rattle.std.specs.Prelude.{IfSome}
use Rattle.std.specs.List.{AllByRecursion}
use Rattle.std.specs.Option.{IsSomeAnd, option_map_or}
use Rattle.std.proofs.lemmas.List.{length-map}
use Rattle.dsc_terms.proofs.Splits.{split_at}
use Rattle.dsc_outside.specs.declared.clock.Clock as clocks
use Rattle.dsc_outside.specs.declared.disk.Disk as disks
use Rattle.dsc_outside.specs.declared.host.Host as hosts
use Rattle.dsc_outside.specs.Host.{HostState}
use Rattle.mof_values.specs.declared.instance.Instance.{Instance}
use Rattle.mof_values.specs.declared.instance.Property.{Property}
use Rattle.dsc_document.specs.declared.document.Document.{Document}
use Rattle.dsc_document.specs.declared.document.Resource.{Resource}
use Rattle.gate_log.specs.Standing.{StandsFor}
use Rattle.meta_config.specs.declared.meta.Meta.{Meta}
use Rattle.partial_merge.specs.declared.part.Part.{Part}
use Rattle.resource_kinds.specs.declared.entry.Failure.{Failure}
use Rattle.resource_kinds.specs.declared.entry.TestAnswer.TheVariants as tests
use Rattle.resource_kinds.specs.declared.entry.SetAnswer.TheVariants as sets
use Rattle.resource_kinds.specs.declared.entry.Entry.{Entry}
use Rattle.resource_kinds.specs.declared.entry.Entry.TheVariants.{Tested, Set}
use Rattle.resource_kinds.specs.declared.wanted.Wanted.{Wanted}
use Rattle.resource_kinds.specs.declared.wanted.Wanted.TheVariants as wants
use Rattle.resource_kinds.specs.Apart.{wanted_at}
use Rattle.resource_kinds.specs.Holds.{Holds}
use Rattle.resource_kinds.specs.Trace.{Chain, EndsInMemory, WantsMemory, entry_failures, host_failures, place_of}
use Rattle.resource_kinds.specs.True.{TellsTrue, True}
use Rattle.lcm_core.specs.declared.modes.RunEnd.{RunEnd}
use Rattle.lcm_core.specs.declared.modes.RunEnd.TheVariants as run_ends
use Rattle.lcm_core.specs.declared.modes.RunMode.TheVariants.{Repair}
use Rattle.lcm_core.specs.HostEntries.{EntriesLast, HostEntriesLast, IsClearBeside, StaysClearBeside}
use Rattle.lcm_core.specs.LastingRuns.{IsFault, IsFaultless, IsRepairToReboot, Lasts, NeverNo, RebootsAreFew}
use Rattle.lcm_core.specs.Legal.{Legal}
use Rattle.lcm_core.proofs.Rebooted.{failures_at, is_one, tested_one, wants_final}
use Rattle.lcm_core.proofs.Traces.{ends_with_push, legal_places}
use Rattle.node_state.specs.declared.node.Node.{Node}
use Rattle.node_store.specs.Stands.{Stands}
use Rattle.dsc_node.specs.Complete.{ValidStartsComplete}
use Rattle.dsc_node.specs.HostHeadline.{kinds_of}
use Rattle.dsc_node.specs.LastingStarts.{LastingStartsGoOn, Promotes, Reboots, SomePromotes, entries_of}
use Rattle.dsc_node.specs.Ran.{EndsAs}
use Rattle.dsc_node.specs.RepairStarts.{WaitsForBoot}
use Rattle.dsc_node.proofs.RepairStarts.{PendingRan, RanPending, document_is, legal, next_node, no_failure, ran_pending}
use Rattle.dsc_node.proofs.SameHost.{still_clear}
use Rattle.command_kind.specs.declared.program.Purpose.{Purpose}
use Rattle.command_kind.specs.declared.program.Purpose.TheVariants as purposes
use Rattle.command_kind.specs.declared.spawner.Run.{Run}
use Rattle.command_kind.specs.declared.spawner.Spawner as spawners
use Rattle.command_kind.specs.HostLaws.{OthersAreTrue}
use Rattle.command_kind.specs.Laws.{RunOfCommands, RunsFollowEntries, others}
use Rattle.command_kind.specs.Programs.{Program, by_table, named_program, program_of}
use Rattle.command_kind.specs.Runs.{AreRunsOf, CommandRan, RanBy, SetOf, TestOf, is_of_command}
use Rattle.command_kind.specs.Steps.{Step, Still}
use Rattle.command_kind.specs.Tables.{first_missing, is_command}
use Rattle.lcm_program.specs.ConvergingCommands.{CommandStart, HasWholeCommand, IsWholeCommand, Premises, Shows, StartsWithCommandsConverge, with_commands}
use Rattle.lcm_program.specs.FurtherCommands.{commands_of, shown_by}
use Rattle.lcm_program.proofs.RepairedBeside.{not_of_command}

-- ---- what an entry of a whole command ran

ran_at : (document : Document) (front : List Entry) (e : Entry) (rest : List Entry) (runs : List Run) → AreRunsOf document (front ++ e ∷ rest) runs
    → (own : List Run) × RanBy (is_of_command document e) document e own
ran_at document [] e rest runs (first, later, is, ran, left) = (first, ran)
ran_at document (f ∷ front) e rest runs (first, later, is, ran, left) = ran_at document front e rest later left

own_run : (document : Document) (e : Entry) (own : List Run) (found : Option Resource) → slice_get document.resources (place_of e) ≡ found
    → IsSomeAnd found (λ (x : Resource). IsWholeCommand x.instance) → RanBy (is_of_command document e) document e own
    → (instance : Instance) × IsWholeCommand instance × CommandRan instance e own
own_run document e own None at whole ran = absurd whole
own_run document e own (Some resource) at whole ran =
    let is : is_of_command document e ≡ true = ap (λ (f : Option Resource). option_map_or (λ (x : Resource). is_command x.instance) f false) at ∙ whole.is in (
      resource.instance,
      whole,
      subst (λ (f : Option Resource). IsSomeAnd f (λ (x : Resource). CommandRan x.instance e own)) at (subst (λ (k : Bool). RanBy k document e own) is ran),
    )

-- it has no fault of its own
its_program : (purpose : Purpose) (instance : Instance) → IsWholeCommand instance → program_of purpose instance ≡ Ok (named_program purpose instance)
its_program purpose instance whole =
    ap (λ (wrong : Option Property). by_table wrong (first_missing instance) (named_program purpose instance)) whole.right
    ∙ ap (λ (missing : Option (List ℕ)). by_table None missing (named_program purpose instance)) whole.whole

-- so a fault says that its program gave no status
fault_failed : (instance : Instance) (e : Entry) (own : List Run) → IsWholeCommand instance → CommandRan instance e own → IsFault e → entry_failures e ≡ 1
fault_failed instance (Tested p tests.Yes) own whole ran fault = absurd fault
fault_failed instance (Tested p tests.No) own whole ran fault = absurd fault
fault_failed instance (Tested p (tests.Fault failure)) own whole ran fault =
    tested_one p failure (subst (λ (program : Result Program Failure). TestOf program (tests.Fault failure) own) (its_program purposes.Test instance whole) ran).0
fault_failed instance (Tested p tests.Memory) own whole ran fault = absurd fault
fault_failed instance (Set p sets.Done) own whole ran fault = absurd fault
fault_failed instance (Set p sets.Reboot) own whole ran fault = absurd fault
fault_failed instance (Set p (sets.Fault failure)) own whole ran fault =
    is_one p failure (subst (λ (program : Result Program Failure). SetOf program (sets.Fault failure) own) (its_program purposes.Set instance whole) ran).0
fault_failed instance (Set p sets.Memory) own whole ran fault = absurd fault

-- ---- runs

-- a run that did not end out of memory has no such last entry
not_fed : (end : RunEnd) (trace : List Entry) → EndsAs end trace → end ≢ run_ends.Memory → EndsInMemory trace → ⊥
not_fed run_ends.Finished trace ended goes_on (e, ends, wanting) = ended e ends (wants_final e wanting)
not_fed (run_ends.RebootAsked place) trace ended goes_on (e, ends, wanting) =
    let same = ends_with_push ended.0 (Set place sets.Reboot) e (ends.0, sym ended.1 ∙ ends.1) in
    let memory : sets.Reboot ≡ sets.Memory = subst WantsMemory (sym same) wanting in
    absurd (cc (memory))
not_fed run_ends.Memory trace ended goes_on fed = absurd (goes_on refl)

-- what holds is no matter of which resources want a reboot
still_holds : (host : HostState) (wanting : List (List ℕ)) (wanted : Wanted) → Holds host wanted → Holds (record host { wanting = wanting }) wanted
still_holds host wanting (wants.File path None) holds = holds
still_holds host wanting (wants.File path (Some contents)) holds = holds
still_holds host wanting (wants.Folder path) holds = holds
still_holds host wanting (wants.NoFile path) holds = holds
still_holds host wanting (wants.NoFolder path forced) holds = holds
still_holds host wanting (wants.Variable name value) holds = holds
still_holds host wanting (wants.Entries name value) holds = holds
still_holds host wanting (wants.NoVariable name) holds = holds
still_holds host wanting (wants.NoEntries name value) holds = holds
still_holds host wanting (wants.Logged id message) holds = holds

module _ {D H P C : Type 0} (d : disks.Ghosts D) (h : hosts.Ghosts H) (s : spawners.Ghosts P) (c : clocks.Ghosts C) (follow : RunsFollowEntries (kinds_of h) s) (is_true : OthersAreTrue h s)
    (clears : StaysClearBeside) (last : HostEntriesLast) (few : RebootsAreFew) (go_on : LastingStartsGoOn (with_commands d h s c)) (complete : ValidStartsComplete (with_commands d h s c)) where
  -- ---- one start

  module _ (parts : List Part) (document : Document) (node : Node) (state : HostState) (one : CommandStart d h s c) (p : Premises d h s c parts document node state one []) where
    ran : PendingRan (with_commands d h s c) parts node one
    ran = ran_pending (with_commands d h s c) complete parts node one (record {
      tells = p.disk_tells.0;
      reads = p.reads;
      pending = p.pending;
      continues = p.continues;
      enabled = p.enabled;
      repairs = p.repairs.0;
      number = p.numbers.0;
      disk = p.undisturbed.0.disk;
      clock = p.undisturbed.0.clock;
      memory = p.undisturbed.0.memory;
    })

    abbrev r : RanPending (with_commands d h s c) node parts one.before.beside.machine one.after.beside.machine one.status ran.committed
    r = ran.ran

    abbrev trace : List Entry
    trace = entries_of (with_commands d h s c) one

    is_its : document ≡ r.run.document
    is_its = document_is (with_commands d h s c) node parts p.pending one.before.beside.machine one.after.beside.machine one.status ran.committed r document p.merged

    is_legal : Legal document Repair r.run.order trace
    is_legal = subst (λ (x : Document). Legal x Repair r.run.order trace) (sym is_its)
        (legal (with_commands d h s c) node parts p.pending one.before.beside.machine one.after.beside.machine one.status ran.committed r)

    chain : Chain (Step (kinds_of h) s) (Still (kinds_of h)) document one.before.beside.machine trace one.after.beside.machine
    chain = subst (λ (x : Document). Chain (Step (kinds_of h) s) (Still (kinds_of h)) x one.before.beside.machine trace one.after.beside.machine) (sym is_its) r.ran.chain

    told : (left : HostState) × (shown_by h one.after.beside.machine ≡ Some left) × True document state (others document trace) left
    told = subst (λ (o : Option HostState). TellsTrue document o (others document trace) (shown_by h one.after.beside.machine)) p.host_tells
        (is_true document trace one.before.beside.machine one.after.beside.machine chain)

    unfailed : host_failures trace ≡ 0
    unfailed = no_failure (host_failures trace) ((commands_of h s).faults one.before.beside.machine) ((commands_of h s).faults one.after.beside.machine) r.ran.failures p.undisturbed.0.machine

    clear_beside : IsClearBeside document (λ e. not (is_of_command document e)) r.run.order state trace told.0
    clear_beside = record {
      legal = is_legal;
      is_true = told.2;
      apart = p.apart;
      clear = p.clear;
      unfailed = unfailed;
      fed = not_fed r.run.end trace r.ran.ended r.goes_on;
    }

    of_host : (q : ℕ) (wanted : Wanted) → wanted_at document q ≡ Some wanted → EntriesLast wanted q state trace told.0
    of_host q wanted asks = last document (λ e. not (is_of_command document e)) r.run.order state told.0 trace q wanted clear_beside asks (not_of_command document q wanted asks)

    runs : RunOfCommands s document trace one.before.beside.machine one.after.beside.machine
    runs = follow document trace one.before.beside.machine one.after.beside.machine chain

    -- a fault of a command would be one of its programs
    no_command_fault : (front : List Entry) (e : Entry) (rest : List Entry) → trace ≡ front ++ e ∷ rest → HasWholeCommand document (place_of e) → IsFault e → ⊥
    no_command_fault front e rest is whole fault =
        let (own, its) = ran_at document front e rest runs.runs (subst (λ (t : List Entry). AreRunsOf document t runs.runs) is runs.is_of) in
        let (instance, whole_command, command_ran) = own_run document e own (slice_get document.resources (place_of e)) refl whole its in
        omega (arith, fault_failed instance e own whole_command command_ran fault, failures_at front e rest (ap host_failures (sym is) ∙ unfailed))

    no_fault : (front : List Entry) (e : Entry) (rest : List Entry) → trace ≡ front ++ e ∷ rest → place_of e < length document.resources → IsFault e → ⊥
    no_fault front e rest is is_place fault = elim (p.known (place_of e) is_place) [
      | inl known ↦ (of_host (place_of e) known.0 known.1).faultless front e rest is refl fault
      | inr command ↦ no_command_fault front e rest is command fault
    ]

    faultless : IsFaultless trace
    faultless k x lt = no_fault (take k trace) (get_or trace k x) (drop (k + 1) trace) (split_at trace k x lt) (legal_places document Repair r.run.order trace is_legal k x lt)

    lasts : (q : ℕ) → q < length document.resources → Lasts q (trace ∷ [])
    lasts q is_place = elim (p.known q is_place) [
      | inl known ↦ (λ front answer rest is. (((of_host q known.0 known.1).set front answer rest is).0, tt), tt)
      | inr command ↦ p.commands_last q command
    ]

    goes_on : Promotes (with_commands d h s c) parts document one ⊎ Reboots (with_commands d h s c) document node one
    goes_on = go_on parts document node one (record {
      merged = p.merged;
      disk_tells = p.disk_tells;
      reads = p.reads;
      pending = p.pending;
      continues = p.continues;
      enabled = p.enabled;
      repairs = p.repairs;
      numbers = p.numbers;
      faultless = (record { disk = p.undisturbed.0.disk; clock = p.undisturbed.0.clock; memory = p.undisturbed.0.memory; entries = faultless }, tt);
      lasts = lasts;
      unchanged = tt;
    })

  -- ---- a list of starts

  -- what is asked of the first alone
  first_alone : (parts : List Part) (document : Document) (node : Node) (state : HostState) (first : CommandStart d h s c) (starts : List (CommandStart d h s c))
      → Premises d h s c parts document node state first starts → Premises d h s c parts document node state first []
  first_alone parts document node state first starts p = record {
    merged = p.merged;
    apart = p.apart;
    known = p.known;
    disk_tells = (p.disk_tells.0, tt);
    reads = p.reads;
    pending = p.pending;
    host_tells = p.host_tells;
    clear = p.clear;
    continues = p.continues;
    enabled = p.enabled;
    repairs = (p.repairs.0, tt);
    numbers = (p.numbers.0, tt);
    undisturbed = (p.undisturbed.0, tt);
    commands_last = λ q command. (λ front answer rest is. (((p.commands_last q command).0 front answer rest is).0, tt), tt);
    unchanged = tt;
  }

  -- each of the starts asked for a reboot, and what was set in one of them, or held before the first, lasts
  record AllReboot (document : Document) (state : HostState) (one : CommandStart d h s c) (starts : List (CommandStart d h s c)) : Type 0 where
    all : AllByRecursion (IsRepairToReboot document) (map (entries_of (with_commands d h s c)) (one ∷ starts))
    lasts : (q : ℕ) (wanted : Wanted) → wanted_at document q ≡ Some wanted → Lasts q (map (entries_of (with_commands d h s c)) (one ∷ starts))
    held : (q : ℕ) (wanted : Wanted) → wanted_at document q ≡ Some wanted → Holds state wanted → AllByRecursion (NeverNo q) (map (entries_of (with_commands d h s c)) (one ∷ starts))

  module _ (honest : (disk : D) (held : List ℕ) → d.shown disk ≡ Some held → d.images disk held) where
    module _ (parts : List Part) (document : Document) (node : Node) (state : HostState) (one next : CommandStart d h s c) (starts : List (CommandStart d h s c))
        (p : Premises d h s c parts document node state one (next ∷ starts)) (reboots : Reboots (with_commands d h s c) document node one) where
      abbrev alone : Premises d h s c parts document node state one []
      alone = first_alone parts document node state one (next ∷ starts) p

      abbrev left : HostState
      left = (told parts document node state one alone).0

      left_node : StandsFor Stands (WaitsForBoot node) p.disk_tells.1.0.0
      left_node = next_node (with_commands d h s c) honest node one next reboots.waits p.unchanged.0.store p.disk_tells.1.0

      shown_next : (wanting : List (List ℕ)) × Shows d h s c next.before (record left { wanting = wanting })
      shown_next = p.unchanged.0.host left (told parts document node state one alone).1

      abbrev next_state : HostState
      next_state = record left { wanting = shown_next.0 }

      next_premises : Premises d h s c parts document left_node.value next_state next starts
      next_premises = record {
        merged = p.merged;
        apart = p.apart;
        known = p.known;
        disk_tells = p.disk_tells.1;
        reads = subst (λ (shown : Option (List ℕ)). IfSome shown (λ x. Stands x left_node.value)) (sym p.disk_tells.1.0.1) left_node.stands;
        pending = left_node.has.pending ∙ p.pending;
        host_tells = shown_next.1;
        clear = still_clear left shown_next.0 document
            (clears document (λ e. not (is_of_command document e)) (r parts document node state one alone).run.order state left (trace parts document node state one alone)
            (clear_beside parts document node state one alone));
        continues = ap (λ (m : Meta). m.after) left_node.has.meta ∙ p.continues;
        enabled = λ disabled. p.enabled (ap (λ (m : Meta). m.refresh) (sym left_node.has.meta) ∙ disabled);
        repairs = p.repairs.1;
        numbers = p.numbers.1;
        undisturbed = p.undisturbed.1;
        commands_last = λ q command. (p.commands_last q command).1;
        unchanged = p.unchanged.1;
      }

      -- what the next starts keep, from what this one left
      all_reboot : AllReboot document next_state next starts → AllReboot document state one (next ∷ starts)
      all_reboot later = record {
        all = (reboots.repair, later.all);
        lasts = λ q wanted asks. (
          λ front answer rest is.
              let (never, holds) = (of_host parts document node state one alone q wanted asks).set front answer rest is in
              (never, later.held q wanted asks (still_holds left shown_next.0 wanted holds)),
          later.lasts q wanted asks,
        );
        held = λ q wanted asks holds.
            let (never, after) = (of_host parts document node state one alone q wanted asks).held holds in
            (never, later.held q wanted asks (still_holds left shown_next.0 wanted after));
      }

    in_turn : (parts : List Part) (document : Document) (node : Node) (state : HostState) (one : CommandStart d h s c) (starts : List (CommandStart d h s c))
        → Premises d h s c parts document node state one starts → SomePromotes (with_commands d h s c) parts document one starts ⊎ AllReboot document state one starts
    in_turn parts document node state one [] p = elim (goes_on parts document node state one p) [
      | inl made ↦ inl made
      | inr reboots ↦ inr (record {
        all = (reboots.repair, tt);
        lasts = λ q wanted asks. (λ front answer rest is. (((of_host parts document node state one p q wanted asks).set front answer rest is).0, tt), tt);
        held = λ q wanted asks holds. (((of_host parts document node state one p q wanted asks).held holds).0, tt);
      })
    ]
    in_turn parts document node state one (next ∷ starts) p = elim (goes_on parts document node state one (first_alone parts document node state one (next ∷ starts) p)) [
      | inl made ↦ inl (inl made)
      | inr reboots ↦
          elim (in_turn parts document (left_node parts document node state one next starts p reboots).value (next_state parts document node state one next starts p reboots) next starts
          (next_premises parts document node state one next starts p reboots)) [
            | inl some ↦ inl (inr some)
            | inr later ↦ inr (all_reboot parts document node state one next starts p reboots later)
          ]
    ]

    -- so each resource lasts, of the host or not
    each_lasts : (parts : List Part) (document : Document) (node : Node) (state : HostState) (first : CommandStart d h s c) (starts : List (CommandStart d h s c))
        → Premises d h s c parts document node state first starts → AllReboot document state first starts
        → (q : ℕ) → q < length document.resources → Lasts q (map (entries_of (with_commands d h s c)) (first ∷ starts))
    each_lasts parts document node state first starts p reboots q is_place = elim (p.known q is_place) [
      | inl known ↦ reboots.lasts q known.0 known.1
      | inr command ↦ p.commands_last q command
    ]

    pub starts_with_commands_converge : StartsWithCommandsConverge d h s c
    starts_with_commands_converge parts document node state first starts p enough = elim (in_turn parts document node state first starts p) [
      | inl some ↦ some
      | inr reboots ↦
          absurd (omega (
            arith,
            few document (map (entries_of (with_commands d h s c)) (first ∷ starts)) reboots.all (each_lasts parts document node state first starts p reboots),
            length-map (first ∷ starts) (entries_of (with_commands d h s c)),
            enough,
          ))
    ]
