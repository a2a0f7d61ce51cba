-- What a command leaves of a machine over a host that shows what it holds: its trace is true from there on, and blames the host no more often
-- than its count rose.
use Rattle.std.proofs.Common.{◌≡◌, ◌⊎◌, inl, inr, ℕ, List, [], Option, Some, None, Ok, sym, ap, subst, ◌∙◌, arith}
use Rattle.std.specs.Prelude.{IfSome}
use Rattle.std.proofs.lemmas.Option.{same_Some}
use Rattle.dsc_terms.specs.Counts.{Rose, RoseBy}
use Rattle.dsc_outside.specs.declared.ends.Ends as ends
use Rattle.dsc_outside.specs.declared.disk.Disk as disks
use Rattle.dsc_outside.specs.declared.host.Host as hosts
use Rattle.dsc_outside.specs.declared.link.Link as links
use Rattle.dsc_outside.specs.declared.clock.Clock as clocks
use Rattle.dsc_outside.specs.Host.{HostState}
use Rattle.dsc_outside.specs.LinkView.{view_of}
use Rattle.dsc_document.specs.declared.document.Document.{Document}
use Rattle.resource_kinds.specs.declared.entry.Entry.{Entry}
use Rattle.resource_kinds.specs.declared.kinds.Kinds.{Kinds}
use Rattle.resource_kinds.specs.Kinds.{calls_of, host_of}
use Rattle.resource_kinds.specs.Packages.{ChangesPackages, packages_of}
use Rattle.resource_kinds.specs.Trace.{host_failures}
use Rattle.resource_kinds.specs.True.{TellsTrue, True}
use Rattle.lcm_core.specs.declared.modes.RunEnd.{RunEnd}
use Rattle.lcm_core.specs.declared.modes.RunEnd.TheVariants.{Finished}
use Rattle.dsc_node.specs.declared.command.Command.{Command as StartCommand}
use Rattle.dsc_node.specs.declared.status.Status.{Status}
use Rattle.dsc_node.specs.declared.status.Status.TheVariants.{Done, NotCompliant, InputRefused, ReadFault, WriteFault, Memory}
use Rattle.dsc_node.specs.Headline.{AddsPackages, IsRun}
use Rattle.dsc_node.specs.HostHeadline.{HasHostHeadline, HostHeadline, IsTrueRun, kinds_of, known_on_host, machine_of}
use Rattle.dsc_node.specs.Runs.{Run}
use Rattle.dsc_node.specs.Start.{Opened, Outside, Start, opened, refused, unopened}
use Rattle.dsc_node.specs.Work.{Beside}
use Rattle.dsc_node.proofs.RepairStarts.{no_failure}
use Rattle.lcm_program.specs.declared.words.Command.{Command}
use Rattle.lcm_program.specs.declared.words.Command.TheVariants.{Test}
use Rattle.lcm_program.specs.Complete.{StartsBy}
use Rattle.lcm_program.specs.Did.{Did}
use Rattle.lcm_program.specs.Further.{Further, further_of_host}
use Rattle.lcm_program.specs.Input.{IsInput, ReadsDocument}
use Rattle.lcm_program.specs.Objects.{Known, Objects, known}
use Rattle.lcm_program.specs.RehearsedStarts.{IsTrueTrace, RunsTrue}
use Rattle.lcm_program.specs.Started.{outside_of}
use Rattle.lcm_program.specs.Test.{Monitored, StopsEarly, TestEnds}
use Rattle.lcm_program.specs.Words.{IsForm}
use Rattle.lcm_program.proofs.StartsOrRests.{Comes, comes, rests, starts, tests}

-- a count that is 0 at the end did not rise
pub never_rose : (before now : ℕ) → now ≡ 0 → Rose before now → ⊥
never_rose before now none rose = omega (arith, none, rose)

-- ---- a command, over a machine whose host shows what it holds

module _ {S K D H L C : Type 0} (source : ends.Ghosts S) (sink : ends.Ghosts K) (disk : disks.Ghosts D) (host : hosts.Ghosts H) (link : links.Ghosts L) (clock : clocks.Ghosts C)
    (held holds : HostState) (arguments : List (List ℕ)) (status : Status) (before after : Objects S K D (Kinds H) L C)
    (fresh : calls_of before.machine ≡ []) (shown_before : host.shown (host_of before.machine) ≡ Some held) (shown_after : host.shown (host_of after.machine) ≡ Some holds) where
  abbrev o : Known S K D (Kinds H) L C
  o = known source sink disk (kinds_of host) (machine_of host) link clock

  abbrev further : Further D (Kinds H) C
  further = further_of_host disk host clock

  abbrev trace : List Entry
  trace = calls_of after.machine

  pub record IsTold : Type 0 where
    pub is_true : IsTrueTrace o arguments before after held trace holds
    pub blames : host.faults (host_of after.machine) ≡ 0 → host_failures trace ≡ 0

  -- nothing ran
  pub rested : after.machine ≡ before.machine → IsTold
  rested same =
      let none = ap calls_of same ∙ fresh in
      record {
        is_true = inl (record {
          nothing = none;
          same = same_Some holds held (sym shown_after ∙ ap (λ (k : Kinds H). host.shown (host_of k)) same ∙ shown_before);
        });
        blames = λ zero. ap host_failures none;
      }

  -- a run blames the host no more often than its count rose
  unblamed : (ready : Kinds H) → RoseBy (host_failures trace) (host.faults (host_of ready)) (host.faults (host_of after.machine)) → host.faults (host_of after.machine) ≡ 0 → host_failures trace ≡ 0
  unblamed ready rose zero =
      no_failure (host_failures trace) (host.faults (host_of ready)) (host.faults (host_of after.machine)) rose
      (never_rose (host.faults (host_of ready)) (host.faults (host_of after.machine)) zero)

  -- a trace that tells true from a host that shows this
  true_from : (document : Document) (state : HostState) (shown : Option HostState) → shown ≡ Some state → TellsTrue document shown trace (host.shown (host_of after.machine)) → True document state trace holds
  true_from document state shown is tells =
      let told = subst (λ (s : Option HostState). TellsTrue document s trace (host.shown (host_of after.machine))) is tells in
      subst (λ (s : HostState). True document state trace s) (same_Some told.0 holds (sym told.1 ∙ shown_after)) told.2

  -- ---- a run of the input's document

  monitored : IsForm Test arguments → (document : Document) → IsInput ReadsDocument (source.left before.input) (Ok document) → (end : RunEnd)
      → Monitored (kinds_of host) further.run document end before.machine after.machine → IsTold
  monitored form document input end m = record {
    is_true = inr (inl (record {
      form = form;
      document = document;
      input = input;
      run = true_from document held (host.shown (host_of before.machine)) shown_before m.more.is_true;
      same = same_Some holds held (sym shown_after ∙ m.more.same ∙ shown_before);
    }));
    blames = unblamed before.machine m.failures;
  }

  stopped : IsForm Test arguments → StopsEarly (kinds_of host) further.run (source.left before.input) before.machine after.machine → IsTold
  stopped form (inl same) = rested same
  stopped form (inr front) = monitored form front.document front.input_is front.end front.run

  tested : IsForm Test arguments → (ended : Status) → TestEnds o further.run ended before after → IsTold
  tested form Done all = monitored form all.2.document all.2.input_is Finished all.2.run
  tested form (NotCompliant count) all = monitored form all.2.document all.2.input_is Finished all.2.run
  tested form WriteFault all = monitored form all.2.document all.2.input_is Finished all.2.run
  tested form (InputRefused error) given = rested given.2
  tested form ReadFault failed = rested failed.2
  tested form Memory early = stopped form early.0
  tested form _ never = absurd never

  -- ---- a start of the node

  -- the run of a start, or none, from a host that shows this
  runs_true : (run : Option Run) (ready : Kinds H) (state : HostState) → host.shown (host_of ready) ≡ Some state → calls_of ready ≡ calls_of before.machine → IsRun (kinds_of host) run ready after.machine
      → IsTrueRun host run ready after.machine → RunsTrue run state trace holds
  runs_true None ready state shown untested same is_true = (
    ap calls_of same ∙ untested ∙ fresh,
    same_Some holds state (sym shown_after ∙ ap (λ (k : Kinds H). host.shown (host_of k)) same ∙ shown),
  )
  runs_true (Some run) ready state shown untested ran is_true = true_from run.document state (host.shown (host_of ready)) shown is_true

  run_blames : (run : Option Run) (ready : Kinds H) → calls_of ready ≡ calls_of before.machine → IsRun (kinds_of host) run ready after.machine → host.faults (host_of after.machine) ≡ 0 → host_failures trace ≡ 0
  run_blames None ready untested same zero = ap host_failures (ap calls_of same ∙ untested ∙ fresh)
  run_blames (Some run) ready untested ran zero = unblamed ready ran.failures zero

  module _ (command : Command) (form : IsForm command arguments) (start : StartCommand) (by : IfSome (source.left before.input) (λ all. StartsBy (Some all) command start)) where
    started : (ended : Status) (lines : List ℕ) → (s : Opened (known_on_host disk host clock) start (outside_of o before) (outside_of o after) ended lines)
        → HostHeadline disk host clock start (outside_of o before) (outside_of o after) ended lines s.from s.ready s.run s.ended.committed s.ended.broken → IsTold
    started ended lines s h =
        let sets = h.any.sets_follow_tests in
        let changed = subst (λ (shown : Option HostState). ChangesPackages shown (host.shown (host_of s.ready))) shown_before sets.packages in
        let asked = view_of link before.link in
        let heard = view_of link after.link in
        let added = subst (λ (shown : Option HostState). AddsPackages start s.from asked heard ended (packages_of shown) (packages_of (host.shown (host_of s.ready)))) shown_before sets.added in
        record {
          is_true = inr (inr (record {
            command = command;
            form = form;
            start = start;
            by = by;
            status = ended;
            lines = lines;
            opened = s;
            ready = changed.0;
            packages = changed.2;
            added = subst (λ (shown : Option HostState). AddsPackages start s.from asked heard ended (Some held.packages) (packages_of shown)) changed.1 added;
            run = runs_true s.run s.ready changed.0 changed.1 sets.untested sets.runs h.is_true;
          }));
          blames = run_blames s.run s.ready sets.untested sets.runs;
        }

    by_start : (ended : Status) (lines : List ℕ) → Start (known_on_host disk host clock) start (outside_of o before) (outside_of o after) ended lines
        → HasHostHeadline disk host clock start (outside_of o before) (outside_of o after) ended lines → IsTold
    by_start ended lines (refused error unmerged same ends) headline = rested (ap (λ (x : Outside D (Kinds H) C). x.beside.machine) same)
    by_start ended lines (unopened plan error is count cause quiet moments ends) headline = rested (ap (λ (x : Beside (Kinds H) C). x.machine) quiet)
    by_start ended lines (opened s) headline = started ended lines s (headline s)

  -- ---- a command

  told_of : (command : Command) → IsForm command arguments → Comes o further status before after command → IsTold
  told_of command form (starts start by is) = by_start command form start by is.ended is.lines is.start is.more
  told_of command form (tests same row) = tested (subst (λ (c : Command). IsForm c arguments) same form) status row.ends
  told_of command form (rests disk_same machine_same) = rested machine_same

  pub of_command : (command : Command) → IsForm command arguments → Did o further command status before after → IsTold
  of_command command form row = told_of command form (comes o further status before after command row)
