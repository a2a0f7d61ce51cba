-- What each start of a rehearsal comes to.
use Rattle.std.proofs.Common.{◌≡◌, ◌⊎◌, inl, inr, ℕ, Bool, true, false, List, [], Option, Some, None, refl, sym, ap, subst, ◌∙◌}
use Rattle.dsc_terms.specs.Counts.{Rose}
use Rattle.dsc_outside.specs.declared.ends.Ends as ends
use Rattle.dsc_outside.specs.declared.disk.Disk as disks
use Rattle.dsc_outside.specs.declared.host.Host as hosts
use Rattle.dsc_outside.specs.declared.link.Link as links
use Rattle.dsc_outside.specs.declared.clock.Clock as clocks
use Rattle.dsc_outside.specs.Host.{HostState}
use Rattle.gate_log.specs.Standing.{StoodFor}
use Rattle.memory_outside.specs.MemoryDisk.{DiskInMemory}
use Rattle.memory_outside.specs.MemoryHost.{shown_of}
use Rattle.memory_outside.specs.ReliableHost.{shown_by}
use Rattle.memory_outside.specs.StoppedDisk.{DiskToStop, is_stopped}
use Rattle.memory_outside.specs.StoppedHost.{HostToStop}
use Rattle.memory_outside.specs.declared.contents.HostContents.{HostContents}
use Rattle.memory_outside.specs.declared.null_sink.NullSink.{NullSink}
use Rattle.memory_outside.specs.contracts.fixed_clock.FixedClockClock.TheImpl as fixed_clocks
use Rattle.memory_outside.specs.contracts.null_sink.NullSinkEnds.TheImpl as null_sinks
use Rattle.memory_outside.specs.contracts.reliable.ReliableHostHost.TheImpl as reliable_hosts
use Rattle.memory_outside.specs.contracts.reliable_source.ReliableSourceEnds.TheImpl as reliable_sources
use Rattle.memory_outside.specs.contracts.stopped_host.StoppedHostHost.TheImpl as stopped_hosts
use Rattle.node_state.specs.declared.event.Event.{Event}
use Rattle.node_state.specs.declared.node.Node.{Node}
use Rattle.node_state.specs.Table.{Steps}
use Rattle.node_store.specs.Laws.{NodesAreOne}
use Rattle.node_store.specs.Stands.{Stands}
use Rattle.rehearsal.specs.Chain.{Crosses, EndsCross, StopsCross}
use Rattle.rehearsal.specs.Objects as rehearsals
use Rattle.rehearsal.specs.Objects.{disk_ghosts, stopped_ghosts}
use Rattle.rehearsal.specs.Playing.{Ends, EndsOrStops, HasUnfailed}
use Rattle.rehearsal.specs.Rows.{ending_of}
use Rattle.rehearsal.specs.World.{HasLasted, World}
use Rattle.rehearsal.specs.declared.row.Ending.{Ending}
use Rattle.rehearsal.specs.declared.row.Ending.TheVariants.{Named, Stopped}
use Rattle.rehearsal.specs.declared.row.StartRow.{StartRow}
use Rattle.rehearsal.specs.declared.starter.Starter as starters
use Rattle.rehearsal.specs.declared.step.StopAt.{StopAt}
use Rattle.rehearsal.specs.declared.step.StopPart.{StopPart}
use Rattle.resource_kinds.specs.declared.kinds.Kinds.{Kinds}
use Rattle.resource_kinds.specs.Kinds.{calls_of, host_of}
use Rattle.resource_kinds.specs.Trace.{host_failures}
use Rattle.dsc_node.specs.HostHeadline.{kinds_of, machine_of}
use Rattle.dsc_node.specs.Path.{AfterPrefix}
use Rattle.dsc_node.specs.Start.{Outside}
use Rattle.dsc_node.specs.Starts.{BeginsWhole, IsExposed, OneStart}
use Rattle.dsc_node.specs.Status.{name_of}
use Rattle.dsc_node.specs.WorkDone.{StartsDoAllWork, StartsDoPrefixes, work_of}
use Rattle.dsc_node.specs.declared.status.Status.{Status}
use Rattle.lcm_program.specs.declared.words.Command.{Command}
use Rattle.lcm_program.specs.DidWords.{DidWords}
use Rattle.lcm_program.specs.Further.{Further, further_of_host}
use Rattle.lcm_program.specs.Objects.{Known, Objects, known}
use Rattle.lcm_program.specs.Rehearse.{StartsNode, with_output}
use Rattle.lcm_program.specs.RehearsedStarts.{EndsGo, Goes, GoesUnfailed, NoneRose, Rests, StartLeads, StopsGo}
use Rattle.lcm_program.specs.Started.{outside_of}
use Rattle.lcm_program.specs.StartsOrRests.{IsNodeStart, IsStartBy}
use Rattle.lcm_program.specs.Words.{IsForm}
use Rattle.lcm_program.proofs.StartsOrRests.{goes}
use Rattle.lcm_program.proofs.TrueTraces.{IsTold, never_rose, of_command, rested}

-- ---- the node that a start leaves, where its disk crosses from one world to the next

module _ {S K D M L C : Type 0} (o : Known S K D M L C) (before after : Objects S K D M L C) (world next : World) (crosses : Crosses o.outside.disk before.disk after.disk world next)
    (meaning : NodesAreOne) (node later : Node) (begins : Stands world.image node) (leaves : Stands next.image later) where
  abbrev d : disks.Ghosts D
  d = o.outside.disk

  module _ (is : IsNodeStart o before after) where
    same_before : is.one.before.disk ≡ before.disk
    same_before = ap (λ (x : Outside D M C). x.disk) is.begins

    same_after : is.one.after.disk ≡ after.disk
    same_after = ap (λ (x : Outside D M C). x.disk) is.ends

    pub exposed : IsExposed o.outside is.one
    exposed = (world.image, subst (λ (disk : D). d.shown disk ≡ Some world.image) (sym same_before) crosses.reads)

    -- the one image at its beginning is the world's
    one_image : (image : List ℕ) → d.images is.one.before.disk image → image ≡ world.image
    one_image image there = crosses.begins image (subst (λ (disk : D). d.images disk image) same_before there)

    pub whole : BeginsWhole o.outside is.one
    whole image there = record { value = node; stands = subst (λ (i : List ℕ). Stands i node) (sym (one_image image there)) begins; has = tt }

    pub left : d.images is.one.after.disk next.image
    left = subst (λ (disk : D). d.images disk next.image) (sym same_after) crosses.leaves

    -- what it finds is the node
    pub found_is : (from : Node) → StoodFor d is.one.before.disk Stands from → from ≡ node
    found_is from found = meaning world.image from node (subst (λ (i : List ℕ). Stands i from) (one_image found.image found.there) found.stands) begins

    pub does_all : StartsDoAllWork o.outside → (Rose (d.faults before.disk) (d.faults after.disk) → ⊥) → Steps node (work_of o.outside is.one) later
    does_all all still =
        let quiet = λ (rose : Rose (d.faults is.one.before.disk) (d.faults is.one.after.disk)).
        still (subst (λ (disk : D). Rose (d.faults disk) (d.faults after.disk)) same_before (subst (λ (disk : D). Rose (d.faults is.one.before.disk) (d.faults disk)) same_after rose)) in
        let done = all is.one exposed whole quiet next.image later left leaves in
        subst (λ (n : Node). Steps n (work_of o.outside is.one) later) (found_is done.0 done.1) done.2

    pub does_prefix : StartsDoPrefixes o.outside → AfterPrefix node (work_of o.outside is.one) later
    does_prefix prefix =
        let done = prefix is.one exposed whole next.image later (inr left) leaves in
        subst (λ (n : Node). AfterPrefix n (work_of o.outside is.one) later) (found_is done.0 done.1) done.2

  -- where the disk is as it was, so is the node
  pub stays : after.disk ≡ before.disk → Rests before after node later
  stays same = record {
    disk = same;
    same = meaning world.image later node
        (subst (λ (i : List ℕ). Stands i later) (crosses.begins next.image (subst (λ (disk : D). d.images disk next.image) same crosses.leaves)) leaves) begins;
  }

  -- what the words ask for is a start that leads so, or nothing is started
  pub lead_by : (further : Further D M C) (By : Node → List Event → Node → Type 0) → ((is : IsNodeStart o before after) → By node (work_of o.outside is.one) later)
      → (words : List (List ℕ)) (status : Status) → DidWords o further words status before after
      → StartLeads o By words status before after node later ⊎ Rests before after node later
  lead_by further By leads words status did = by did.asked where
    of_goes : (command : Command) → IsForm command words → IsStartBy o command status before after ⊎ (after.disk ≡ before.disk)
        → StartLeads o By words status before after node later ⊎ Rests before after node later
    of_goes command form (inl is) = inl (command, form, is, leads is.start)
    of_goes command form (inr same) = inr (stays same)

    by : (((command : Command) × IsForm command words) ⊎ ((command : Command) → IsForm command words → ⊥))
        → StartLeads o By words status before after node later ⊎ Rests before after node later
    by (inl (command, form)) = of_goes command form (goes o further status before after command (did.did command form))
    by (inr none) = inr (stays (did.nothing none).untouched.offline.disk)

-- ---- a start of a rehearsal, over objects of one kind

module _ {K D H : Type 0} (source : ends.Ghosts (List ℕ)) (sink : ends.Ghosts K) (disk : disks.Ghosts D) (host : hosts.Ghosts H) (link : links.Ghosts rehearsals.Link) (clock : clocks.Ghosts ℕ)
    (meaning : NodesAreOne) (words : List (List ℕ)) (name : List ℕ) (before after : rehearsals.Objects D H) (world next : World)
    (done : StartsNode {K = K} source sink disk host link clock words before after name) (crosses : Crosses disk before.disk after.disk world next)
    (fresh : calls_of before.machine ≡ []) (held : host.shown (host_of before.machine) ≡ Some world.host) (holds : host.shown (host_of after.machine) ≡ Some next.host) where
  abbrev o : Known (List ℕ) K D (Kinds H) rehearsals.Link ℕ
  o = known source sink disk (kinds_of host) (machine_of host) link clock

  abbrev further : Further D (Kinds H) ℕ
  further = further_of_host disk host clock

  abbrev objects_before : Objects (List ℕ) K D (Kinds H) rehearsals.Link ℕ
  objects_before = with_output done.old before

  abbrev objects_after : Objects (List ℕ) K D (Kinds H) rehearsals.Link ℕ
  objects_after = with_output done.new after

  abbrev Told : Type 0
  Told = IsTold source sink disk host link clock world.host next.host words done.status objects_before objects_after fresh held holds

  told : Told
  told = by done.did.asked where
    by : (((command : Command) × IsForm command words) ⊎ ((command : Command) → IsForm command words → ⊥)) → Told
    by (inl (command, form)) = of_command source sink disk host link clock world.host next.host words done.status objects_before objects_after fresh held holds command form (done.did.did command form)
    by (inr none) = rested source sink disk host link clock world.host next.host words done.status objects_before objects_after fresh held holds (done.did.nothing none).untouched.machine

  pub goes_by : (By : Node → List Event → Node → Type 0)
      → ((node later : Node) → Stands world.image node → Stands next.image later → (is : IsNodeStart o objects_before objects_after) → By node (work_of o.outside is.one) later)
      → Goes o further By words before after world next
  goes_by By leads = record {
    old = done.old;
    new = done.new;
    status = done.status;
    did = done.did;
    leads = λ node later begins leaves.
        lead_by o objects_before objects_after world next crosses meaning node later begins leaves further By (leads node later begins leaves) words done.status done.did;
    is_true = told.is_true;
  }

  pub goes_to_prefix : StartsDoPrefixes o.outside → Goes o further AfterPrefix words before after world next
  goes_to_prefix prefix = goes_by AfterPrefix (λ node later begins leaves is. does_prefix o objects_before objects_after world next crosses meaning node later begins leaves is prefix)

  pub goes_unfailed : StartsDoAllWork o.outside → (row : StartRow) → row.ending ≡ Named name → NoneRose o objects_before objects_after → HasLasted after.link.disk → host.faults (host_of after.machine) ≡ 0
      → GoesUnfailed o further words before after world next row
  unfolding goes_by
  goes_unfailed all row says counts served none = record {
    goes = goes_by Steps (λ node later begins leaves is. does_all o objects_before objects_after world next crosses meaning node later begins leaves is all counts.disk);
    says = says ∙ ap (λ (text : List ℕ). Named text) done.named;
    counts = counts;
    server = never_rose (disk_ghosts.faults before.link.disk) (disk_ghosts.faults after.link.disk) served.unfailed;
    entries = told.blames none;
  }

-- ---- the starts of a rehearsal

-- what fails in none of its calls: an input, an output, a link and a clock
pub record NeverFail {K : Type 0} (source : ends.Ghosts (List ℕ)) (sink : ends.Ghosts K) (link : links.Ghosts rehearsals.Link) (clock : clocks.Ghosts ℕ) : Type 0 where
  pub source_none : (s : List ℕ) → source.faults s ≡ 0
  pub sink_none : (k : K) → sink.faults k ≡ 0
  pub link_none : (l : rehearsals.Link) → link.faults l ≡ 0
  pub clock_none : (c : ℕ) → clock.faults c ≡ 0

module _ {P K : Type 0} (source : ends.Ghosts (List ℕ)) (sink : ends.Ghosts K) (link : links.Ghosts rehearsals.Link) (clock : clocks.Ghosts ℕ) (never : NeverFail source sink link clock) (meaning : NodesAreOne)
    (program : starters.Ghosts P) where
  none_rose : {D H : Type 0} (disk : disks.Ghosts D) (host : hosts.Ghosts H) (before after : Objects (List ℕ) K D (Kinds H) rehearsals.Link ℕ) → disk.faults after.disk ≡ 0
      → host.faults (host_of after.machine) ≡ 0 → NoneRose (known source sink disk (kinds_of host) (machine_of host) link clock) before after
  none_rose disk host before after of_disk of_host = record {
    input = never_rose (source.faults before.input) (source.faults after.input) (never.source_none after.input);
    output = never_rose (sink.faults before.output) (sink.faults after.output) (never.sink_none after.output);
    disk = never_rose (disk.faults before.disk) (disk.faults after.disk) of_disk;
    machine = never_rose (host.faults (host_of before.machine)) (host.faults (host_of after.machine)) of_host;
    link = never_rose (link.faults before.link) (link.faults after.link) (never.link_none after.link);
    clock = never_rose (clock.faults before.clock) (clock.faults after.clock) (never.clock_none after.clock);
  }

  -- those without a stop
  module _ (host : hosts.Ghosts HostContents) (shows : (h : HostContents) → host.shown h ≡ Some (shown_by h)) (host_none : (h : HostContents) → host.faults h ≡ 0) where
    abbrev these : Known (List ℕ) K DiskInMemory (Kinds HostContents) rehearsals.Link ℕ
    these = known source sink disk_ghosts (kinds_of host) (machine_of host) link clock

    pub ends_go : ((words : List (List ℕ)) (before after : rehearsals.Objects DiskInMemory HostContents) (name : List ℕ)
        → program.does words before after name → StartsNode {K = K} source sink disk_ghosts host link clock words before after name)
        → EndsCross program → StartsDoAllWork these.outside → EndsGo program these (further_of_host disk_ghosts host clock)
    ends_go does cross all words input world row next start =
        let done = does words start.before start.after start.name start.runs.done in
        goes_unfailed source sink disk_ghosts host link clock meaning words start.name start.before start.after world next done
        (cross words input world row next start) start.runs.begins.unasked
        (shows (host_of start.before.machine) ∙ ap (λ (s : HostState). Some s) start.runs.begins.host)
        (shows (host_of start.after.machine) ∙ ap (λ (w : World). Some w.host) (sym start.leaves))
        all row start.tells.ends
        (none_rose disk_ghosts host (with_output done.old start.before) (with_output done.new start.after) start.disk.unfailed (host_none (host_of start.after.machine)))
        start.server (host_none (host_of start.after.machine))

  -- those with a stop
  module _ (host : hosts.Ghosts HostToStop) (shows : (h : HostToStop) → host.shown h ≡ Some (shown_of h.host)) (counts : (h : HostToStop) → host.faults h ≡ h.host.calls.faults) where
    abbrev those : Known (List ℕ) K DiskToStop (Kinds HostToStop) rehearsals.Link ℕ
    those = known source sink stopped_ghosts (kinds_of host) (machine_of host) link clock

    -- a row that does not say Stopped is of a start that no stop came in
    unstopped : (row : StartRow) (name : List ℕ) (stopped : Bool) → row.ending ≡ ending_of stopped name → (row.ending ≡ Stopped → ⊥) → (stopped ≡ false) × (row.ending ≡ Named name)
    unstopped row name true is other = absurd (other is)
    unstopped row name false is other = (refl, is)

    pub stops_go : ((words : List (List ℕ)) (before after : rehearsals.Objects DiskToStop HostToStop) (name : List ℕ)
        → program.does_to_stop words before after name → StartsNode {K = K} source sink stopped_ghosts host link clock words before after name)
        → StopsCross program → StartsDoAllWork those.outside → StartsDoPrefixes those.outside → StopsGo program those (further_of_host stopped_ghosts host clock)
    stops_go does cross all prefix part words input world row next start =
        let done = does words start.before start.after start.name start.runs.done in
        let crosses = cross (record { call = 1; part = part }) words input world row next start in
        let held = shows (host_of start.before.machine) ∙ ap (λ (h : HostToStop). Some (shown_of h.host)) start.runs.begins.host.2 ∙ ap (λ (s : HostState). Some s) start.runs.begins.host.1 in
        let holds = shows (host_of start.after.machine) ∙ ap (λ (w : World). Some w.host) (sym start.leaves) in (
          goes_to_prefix source sink stopped_ghosts host link clock meaning words start.name start.before start.after world next done crosses start.runs.begins.unasked held holds prefix,
          λ other.
              let named = unstopped row start.name (is_stopped start.after.disk (host_of start.after.machine)) start.tells.ends other in
              let unfailed = start.unstopped named.0 in
              let none = counts (host_of start.after.machine) ∙ unfailed.of_host in
              goes_unfailed source sink stopped_ghosts host link clock meaning words start.name start.before start.after world next done crosses start.runs.begins.unasked held holds all row named.1
              (none_rose stopped_ghosts host (with_output done.old start.before) (with_output done.new start.after) unfailed.of_disk none) start.server none,
        )

-- ---- over the forms in memory

module _ {P : Type 0} (link : links.Ghosts rehearsals.Link) (link_none : (l : rehearsals.Link) → link.faults l ≡ 0) (meaning : NodesAreOne) (program : starters.Ghosts P) where
  never : NeverFail reliable_sources.ghosts null_sinks.ghosts link fixed_clocks.ghosts
  never = record { source_none = λ s. refl; sink_none = λ k. refl; link_none = link_none; clock_none = λ c. refl }

  abbrev these_in_memory : Known (List ℕ) NullSink DiskInMemory (Kinds HostContents) rehearsals.Link ℕ
  these_in_memory = known reliable_sources.ghosts null_sinks.ghosts disk_ghosts (kinds_of reliable_hosts.ghosts) (machine_of reliable_hosts.ghosts) link fixed_clocks.ghosts

  abbrev those_in_memory : Known (List ℕ) NullSink DiskToStop (Kinds HostToStop) rehearsals.Link ℕ
  those_in_memory = known reliable_sources.ghosts null_sinks.ghosts stopped_ghosts (kinds_of stopped_hosts.ghosts) (machine_of stopped_hosts.ghosts) link fixed_clocks.ghosts

  pub ends_in_memory : ((words : List (List ℕ)) (before after : rehearsals.Objects DiskInMemory HostContents) (name : List ℕ)
      → program.does words before after name
      → StartsNode {K = NullSink} reliable_sources.ghosts null_sinks.ghosts disk_ghosts reliable_hosts.ghosts link fixed_clocks.ghosts words before after name)
      → EndsCross program → StartsDoAllWork these_in_memory.outside → EndsGo program these_in_memory (further_of_host disk_ghosts reliable_hosts.ghosts fixed_clocks.ghosts)
  ends_in_memory = ends_go reliable_sources.ghosts null_sinks.ghosts link fixed_clocks.ghosts never meaning program reliable_hosts.ghosts (λ h. refl) (λ h. refl)

  pub stops_in_memory : ((words : List (List ℕ)) (before after : rehearsals.Objects DiskToStop HostToStop) (name : List ℕ)
      → program.does_to_stop words before after name
      → StartsNode {K = NullSink} reliable_sources.ghosts null_sinks.ghosts stopped_ghosts stopped_hosts.ghosts link fixed_clocks.ghosts words before after name)
      → StopsCross program → StartsDoAllWork those_in_memory.outside → StartsDoPrefixes those_in_memory.outside
      → StopsGo program those_in_memory (further_of_host stopped_ghosts stopped_hosts.ghosts fixed_clocks.ghosts)
  stops_in_memory = stops_go reliable_sources.ghosts null_sinks.ghosts link fixed_clocks.ghosts never meaning program stopped_hosts.ghosts (λ h. refl) (λ h. refl)
