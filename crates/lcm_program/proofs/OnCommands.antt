-- Over commands beside the kinds of resources of a host: the programs that each start and each run of `test` ran, and what is true of the host.
use Rattle.std.proofs.Common.{◌≡◌, ℕ, ◌<◌, zero, suc, Bool, true, false, cond, not, List, [], ◌∷◌, ◌++◌, length, slice_get, Option, Some, None, refl, sym, ◌∙◌, ap, subst, All}
use Rattle.std.specs.Option.{option_map_or}
use Rattle.std.proofs.lemmas.List.Elements.{All-head, All-tail}
use Rattle.dsc_outside.specs.declared.ends.Ends as ends
use Rattle.dsc_outside.specs.declared.disk.Disk as disks
use Rattle.dsc_outside.specs.declared.host.Host as hosts
use Rattle.dsc_outside.specs.declared.link.Link as links
use Rattle.dsc_outside.specs.declared.clock.Clock as clocks
use Rattle.dsc_outside.specs.Host.{HostState}
use Rattle.dsc_document.specs.declared.document.Document.{Document}
use Rattle.dsc_document.specs.declared.document.Resource.{Resource}
use Rattle.resource_kinds.specs.declared.entry.Entry.{Entry}
use Rattle.resource_kinds.specs.declared.entry.Entry.TheVariants.{Tested, Set}
use Rattle.resource_kinds.specs.declared.entry.SetAnswer.{SetAnswer}
use Rattle.resource_kinds.specs.declared.entry.TestAnswer.{TestAnswer}
use Rattle.resource_kinds.specs.declared.kinds.Kinds.{Kinds}
use Rattle.resource_kinds.specs.Laws.{SetMakesHold}
use Rattle.resource_kinds.specs.Trace.{Compliant, place_of}
use Rattle.resource_kinds.specs.True.{TellsTrue, True}
use Rattle.lcm_core.specs.declared.modes.RunEnd.{RunEnd}
use Rattle.lcm_core.specs.declared.modes.RunEnd.TheVariants as run_ends
use Rattle.lcm_core.specs.declared.modes.RunMode.{RunMode}
use Rattle.lcm_core.specs.declared.modes.RunMode.TheVariants.{Monitor}
use Rattle.lcm_core.specs.Legal.{Legal}
use Rattle.lcm_core.specs.RunLaws.{CompliantHold}
use Rattle.lcm_core.specs.Whole.{Whole}
use Rattle.lcm_core.proofs.Compliance.{none_missed}
use Rattle.lcm_core.proofs.Traces.{monitor_sets_nothing}
use Rattle.node_state.specs.declared.event.Event.{Event}
use Rattle.node_state.specs.declared.node.Node.{Node}
use Rattle.dsc_node.specs.declared.command.Command.{Command as StartCommand}
use Rattle.dsc_node.specs.declared.status.Status.{Status}
use Rattle.dsc_node.specs.Headline.{HasHeadline, IsPromoted, IsRun}
use Rattle.dsc_node.specs.HostHeadline.{HoldTogether, IsComplete, IsFaultless, IsFinished, kinds_of}
use Rattle.dsc_node.specs.Ran.{EndsAs, IsWholeOrNone}
use Rattle.dsc_node.specs.Runs.{Ran, Run}
use Rattle.dsc_node.specs.Start.{Outside}
use Rattle.command_kind.specs.declared.commands.Commands.{Commands}
use Rattle.command_kind.specs.declared.spawner.Spawner as spawners
use Rattle.command_kind.specs.HostLaws.{OthersAreTrue}
use Rattle.command_kind.specs.Laws.{RunsFollowEntries, others}
use Rattle.command_kind.specs.Parts.{calls_of}
use Rattle.command_kind.specs.Runs.{is_of_command}
use Rattle.command_kind.specs.Tables.{is_command}
use Rattle.lcm_program.specs.declared.words.Command.{Command}
use Rattle.lcm_program.specs.Did.{Did}
use Rattle.lcm_program.specs.Objects.{Known, Objects, known}
use Rattle.lcm_program.specs.Further.{nothing_further, nothing_further_of_runs}
use Rattle.lcm_program.specs.FurtherCommands.{CommandsHeadline, HasNoCommand, HoldWithoutCommands, IsRunOfCommands, RanCommands, TestedCommands, commands_of, further_of_commands, known_with_commands, machine_with_commands, shown_by, with_all_calls}
use Rattle.lcm_program.specs.Test.{Monitored}
use Rattle.lcm_program.proofs.FurtherRows.{did_further}
use Rattle.lcm_program.proofs.RepairedBeside.{IsRepairBeside, succeeds_beside}

-- ---- a document without a command

none_at : (resources : List Resource) → All (λ (resource : Resource). is_command resource.instance ≡ false) resources → (place : ℕ)
    → option_map_or (λ (resource : Resource). is_command resource.instance) (slice_get resources place) false ≡ false
none_at [] all place = refl
none_at (r ∷ rs) all zero = All-head (λ (resource : Resource). is_command resource.instance ≡ false) r rs all
none_at (r ∷ rs) all (suc place) = none_at rs (All-tail (λ (resource : Resource). is_command resource.instance ≡ false) r rs all) place

-- its entries are all of other resources
pub all_others : (document : Document) (trace : List Entry) → HasNoCommand document → others document trace ≡ trace
all_others document [] none = refl
all_others document (e ∷ t) none =
    let apart : is_of_command document e ≡ false = none_at document.resources none (place_of e) in
    ap (λ (b : Bool). cond (not b) (e ∷ others document t) (others document t)) apart ∙ ap (λ (l : List Entry). e ∷ l) (all_others document t none)

-- ---- a run that only monitors

abbrev SetsNothing : List Entry → Type 0
SetsNothing t = (before : List Entry) (r : ℕ) (answer : SetAnswer) (after : List Entry) → t ≡ before ++ Set r answer ∷ after → ⊥

-- the first of them, where those after it do, and whether it is one of a command or not
test_keeps : (document : Document) (place : ℕ) (answer : TestAnswer) (rest : List Entry) (a b : HostState) (k : Bool) → ((x : HostState) → True document x rest b → b ≡ x)
    → True document a (cond (not k) (Tested place answer ∷ rest) rest) b → b ≡ a
test_keeps document place answer rest a b true keep chain = keep a chain
test_keeps document place answer rest a b false keep chain = keep chain.0 chain.2 ∙ chain.1.0

-- true answers of tests leave the host as it was
true_keeps : (document : Document) (t : List Entry) (a b : HostState) → SetsNothing t → True document a (others document t) b → b ≡ a
true_keeps document [] a b none chain = sym chain
true_keeps document (Set place answer ∷ t) a b none chain = absurd (none [] place answer t refl)
true_keeps document (Tested place answer ∷ t) a b none chain =
    let after : SetsNothing t = λ before r given rest e. none (Tested place answer ∷ before) r given rest (ap (λ (l : List Entry). Tested place answer ∷ l) e) in
    test_keeps document place answer (others document t) a b (is_of_command document (Tested place answer)) (λ x keeps. true_keeps document t x b after keeps) chain

tells_keeps : (document : Document) (t : List Entry) (a b : Option HostState) → SetsNothing t → TellsTrue document a (others document t) b → b ≡ a
tells_keeps document t None b none tells = tells.0
tells_keeps document t (Some s) b none tells = tells.1 ∙ ap (λ (x : HostState). Some x) (true_keeps document t s tells.0 none tells.2)

-- a trace that is true from one state to another
told_between : (document : Document) (trace : List Entry) (before after : Option HostState) (b e : HostState) → before ≡ Some b → after ≡ Some e → TellsTrue document before trace after → True document b trace e
told_between document trace before after b e is_b is_e tells =
    let t = subst (λ (o : Option HostState). TellsTrue document o trace after) is_b tells in
    let same : t.0 ≡ e = let both = sym t.1 ∙ is_e in cc both in
    subst (λ (h : HostState). True document b trace h) same t.2

-- ---- runs

module _ {H P : Type 0} (host : hosts.Ghosts H) (spawner : spawners.Ghosts P) (follow : RunsFollowEntries (kinds_of host) spawner) (is_true : OthersAreTrue host spawner) where
  module _ (makes : SetMakesHold) (together : CompliantHold) (before after : Commands (Kinds H) P) where
    ran_commands : (run : Run) → Ran (commands_of host spawner) run before after → RanCommands host spawner run.document before after
    ran_commands run r = record {
      runs = follow run.document (calls_of after) before after r.chain;
      is_true = is_true run.document (calls_of after) before after r.chain;
    }

    is_run : (run : Option Run) → IsRun (commands_of host spawner) run before after → IsRunOfCommands host spawner run before after
    is_run None same = same
    is_run (Some run) ran = ran_commands run ran

    hold_without : (run : Option Run) → IsRun (commands_of host spawner) run before after → HoldWithoutCommands host run before after
    hold_without None same = tt
    hold_without (Some run) r = λ none b e is_b is_e apart compliant.
        together run.document run.choice.mode run.order b e (calls_of after) r.legal
        (subst (λ (t : List Entry). True run.document b t e) (all_others run.document (calls_of after) none)
        (told_between run.document (others run.document (calls_of after)) (shown_by host before) (shown_by host after) b e is_b is_e (ran_commands run r).is_true))
        apart compliant

    -- a repair that came to its last resource
    module _ (run : Run) (r : Ran (commands_of host spawner) run before after) where
      whole_at_end : (end : RunEnd) → end ≡ run_ends.Finished → IsWholeOrNone run.document run.choice.mode run.order end (calls_of after)
          → Whole run.document run.choice.mode run.order (calls_of after)
      whole_at_end run_ends.Finished is whole = whole
      whole_at_end (run_ends.RebootAsked place) is whole = whole
      whole_at_end run_ends.Memory is whole = absurd (cc is)

      repair_beside : (f : IsFinished host run (with_all_calls before)) → (state : HostState) × IsRepairBeside run.document run.order f.state (calls_of after) state
      repair_beside f =
          let tells = subst (λ (o : Option HostState). TellsTrue run.document o (others run.document (calls_of after)) (shown_by host after)) f.tells (ran_commands run r).is_true in (
            tells.0,
            record {
              ordered = r.is_order;
              legal = subst (λ (m : RunMode). Legal run.document m run.order (calls_of after)) f.repairs r.legal;
              whole = subst (λ (m : RunMode). Whole run.document m run.order (calls_of after)) f.repairs
                  (whole_at_end run.end f.finished r.whole);
              finished = subst (λ (e : RunEnd). EndsAs e (calls_of after)) f.finished r.ended;
              is_true = tells.2;
            },
          )

      faultless_compliant : {D : Type 0} (d : disks.Ghosts D) (begin now : D) (from : Node) → IsFaultless host d begin now from run (with_all_calls before) (with_all_calls after)
          → Compliant run.document (calls_of after)
      faultless_compliant d begin now from f =
          let full = repair_beside f.is_finished in
          none_missed run.document (calls_of after) (λ place lt.
          succeeds_beside makes run.document run.order f.is_finished.state full.0 (calls_of after) full.1 place lt (f.sound place lt) (λ q comes k x below same. f.blames k x below))

    complete : {D : Type 0} (d : disks.Ghosts D) (begin now : D) (from : Node) (run : Option Run) (committed : List Event) → IsRun (commands_of host spawner) run before after
        → IsPromoted d begin now from run (calls_of after) committed → IsComplete host d begin now from run (with_all_calls before) (with_all_calls after) committed
    complete d begin now from None committed same promoted = tt
    complete d begin now from (Some run) committed ran promoted = record {
      repaired = λ f place lt sound spared.
          let full = repair_beside run ran f in
          succeeds_beside makes run.document run.order f.state full.0 (calls_of after) full.1 place lt sound spared;
      promoted = λ f. promoted (record {
        pending = f.pending;
        finished = f.is_finished.finished;
        compliant = faultless_compliant run ran d begin now from f;
        disk = f.disk;
        job = f.job;
      });
    }

  tested_commands : (document : Document) (end : RunEnd) (before after : Commands (Kinds H) P) → Monitored (commands_of host spawner) nothing_further_of_runs document end before after
      → TestedCommands host spawner document before after
  tested_commands document end before after m =
      let tells = is_true document (calls_of after) before after m.chain in
      record {
        ran = record { runs = follow document (calls_of after) before after m.chain; is_true = tells };
        same = tells_keeps document (calls_of after) (shown_by host before) (shown_by host after)
            (λ front r answer rest e. monitor_sets_nothing document m.order (calls_of after) front r answer rest m.legal e) tells;
      }

-- ---- the rows of the table

module _ {S K D H P L C : Type 0} (source : ends.Ghosts S) (sink : ends.Ghosts K) (disk : disks.Ghosts D) (host : hosts.Ghosts H) (spawner : spawners.Ghosts P) (link : links.Ghosts L) (clock : clocks.Ghosts C)
    (follow : RunsFollowEntries (kinds_of host) spawner) (is_true : OthersAreTrue host spawner) (makes : SetMakesHold) (together : CompliantHold) where
  abbrev o : Known S K D (Commands (Kinds H) P) L C
  o = known source sink disk (commands_of host spawner) (machine_with_commands host) link clock

  commands_headline : (command : StartCommand) (before after : Outside D (Commands (Kinds H) P) C) (status : Status) (lines : List ℕ)
      → HasHeadline (known_with_commands disk host spawner clock) command before after status lines → (further_of_commands disk host spawner clock).start command before after status lines
  commands_headline command before after status lines has = λ opened.
      let any = has opened in
      let runs = any.sets_follow_tests.runs in
      record {
        not_before = any.sets_follow_tests.packages.spawner;
        runs = is_run host spawner follow is_true makes together opened.ready after.beside.machine opened.run runs;
        completes = complete host spawner follow is_true makes together opened.ready after.beside.machine disk before.disk after.disk opened.from opened.run opened.ended.committed runs any.compliant_runs_are_promoted;
        resources_hold_together = hold_without host spawner follow is_true makes together opened.ready after.beside.machine opened.run runs;
      }

  pub did_on_commands : (before after : Objects S K D (Commands (Kinds H) P) L C) (command : Command) (status : Status) → Did o nothing_further command status before after
      → Did o (further_of_commands disk host spawner clock) command status before after
  did_on_commands before after command status row =
      did_further o (further_of_commands disk host spawner clock)
      (λ start old new status lines headline. commands_headline start old new status lines headline)
      (λ document end old new m. tested_commands host spawner follow is_true document end old new m)
      before after command status row
