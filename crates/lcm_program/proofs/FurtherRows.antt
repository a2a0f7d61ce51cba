-- A further fact of starts and of runs holds in each row of the table, where it follows from the headline of a start and from a run of `test`.
use Rattle.std.proofs.Common.{inl, inr, ℕ, List, Option, Some, None}
use Rattle.dsc_document.specs.declared.document.Document.{Document}
use Rattle.lcm_core.specs.declared.modes.RunEnd.{RunEnd}
use Rattle.dsc_node.specs.declared.command.Command.{Command as StartCommand}
use Rattle.dsc_node.specs.declared.status.Status.{Status}
use Rattle.dsc_node.specs.declared.status.Status.TheVariants.{Done, NotCompliant, InputRefused, ReadFault, WriteFault, Memory}
use Rattle.dsc_node.specs.Headline.{HasHeadline}
use Rattle.dsc_node.specs.Start.{Outside}
use Rattle.lcm_program.specs.declared.words.Command.{Command}
use Rattle.lcm_program.specs.declared.words.Command.TheVariants.{Test, Check, Order, Canon, Checksum, Compile, Generate, Init, Meta, Register, Pull, Push, Consistency, Boot, Get, Restore, Remove, Reports}
use Rattle.lcm_program.specs.Did.{Did}
use Rattle.lcm_program.specs.Input.{Reading}
use Rattle.lcm_program.specs.Objects.{Known, Objects}
use Rattle.lcm_program.specs.Further.{Further, nothing_further, nothing_further_of_runs}
use Rattle.lcm_program.specs.Started.{InputEnds, IsStart, PartEnds, RegisterEnds, Started, started, unread}
use Rattle.lcm_program.specs.Test.{IsRunOf, Monitored, StopsEarly, TestedAll, TestEnds}

module _ {S K D M L C : Type 0} (o : Known S K D M L C) (further : Further D M C) where
  -- it follows from the headline of each start
  abbrev pub FollowsFromStarts : Type 0
  FollowsFromStarts = (command : StartCommand) (before after : Outside D M C) (status : Status) (lines : List ℕ) → HasHeadline o.outside command before after status lines
      → further.start command before after status lines

  -- and from each run
  abbrev pub FollowsFromRuns : Type 0
  FollowsFromRuns = (document : Document) (end : RunEnd) (before after : M) → Monitored o.outside.resources nothing_further_of_runs document end before after → further.run document before after

  module _ (of_start : FollowsFromStarts) (of_run : FollowsFromRuns) where
    -- ---- `test`

    module _ (before after : M) where
      monitored : (document : Document) (end : RunEnd) → Monitored o.outside.resources nothing_further_of_runs document end before after → Monitored o.outside.resources further.run document end before after
      monitored document end m = record {
        order = m.order;
        is_order = m.is_order;
        legal = m.legal;
        whole = m.whole;
        ended = m.ended;
        chain = m.chain;
        failures = m.failures;
        later = m.later;
        more = of_run document end before after m;
      }

      run_of : (input : Option (List ℕ)) (text : List ℕ) (missed : ℕ) → IsRunOf o.outside.resources nothing_further_of_runs input before after text missed → IsRunOf o.outside.resources further.run input before after text missed
      run_of input text missed r = record {
        document = r.document;
        input_is = r.input_is;
        run = monitored r.document _ r.run;
        text_is = r.text_is;
        missed_is = r.missed_is;
      }

      stops_early : (input : Option (List ℕ)) → StopsEarly o.outside.resources nothing_further_of_runs input before after → StopsEarly o.outside.resources further.run input before after
      stops_early input (inl same) = inl same
      stops_early input (inr front) = inr (record {
        document = front.document;
        input_is = front.input_is;
        end = front.end;
        run = monitored front.document front.end front.run;
      })

    -- ---- starts

    start : (command : StartCommand) (status : Status) (old new : K) (before after : Outside D M C)
        → IsStart o.sink o.outside nothing_further command status old new before after → IsStart o.sink o.outside further command status old new before after
    start command status old new before after s = record {
      ended = s.ended;
      lines = s.lines;
      start = s.start;
      headline = s.headline;
      more = of_start command before after s.ended s.lines s.headline;
      again = s.again;
      later = s.later;
      prints = s.prints;
    }

    input_ends : {A : Type 0} (reads : Reading A) (command_of : A → StartCommand) (status : Status) (input input_after : S) (old new : K) (before after : Outside D M C)
        → InputEnds reads command_of o.source o.sink o.outside nothing_further status input input_after old new before after
        → InputEnds reads command_of o.source o.sink o.outside further status input input_after old new before after
    input_ends reads command_of status input input_after old new before after (started value is s) = started value is (start (command_of value) status old new before after s)
    input_ends reads command_of status input input_after old new before after (unread cause is ends same) = unread cause is ends same

    register_ends : (name : List ℕ) (status : Status) (old new : K) (before after : Outside D M C)
        → RegisterEnds o.sink o.outside nothing_further name status old new before after → RegisterEnds o.sink o.outside further name status old new before after
    register_ends name status old new before after (inl s) = inl (start _ status old new before after s)
    register_ends name status old new before after (inr silent) = inr silent

    part_ends : (name : List ℕ) (status : Status) (input input_after : S) (old new : K) (before after : Outside D M C)
        → PartEnds o.source o.sink o.outside nothing_further name status input input_after old new before after
        → PartEnds o.source o.sink o.outside further name status input input_after old new before after
    part_ends name status input input_after old new before after (inl ends) = inl (input_ends _ _ status input input_after old new before after ends)
    part_ends name status input input_after old new before after (inr silent) = inr silent

    -- ---- the rows of the table

    module _ (before after : Objects S K D M L C) where
      tested_all : (status : Status) → TestedAll o nothing_further_of_runs status before after → TestedAll o further.run status before after
      tested_all status (text, missed, run, prints) = (text, missed, run_of before.machine after.machine (o.source.left before.input) text missed run, prints)

      test_ends : (status : Status) → TestEnds o nothing_further_of_runs status before after → TestEnds o further.run status before after
      test_ends Done ends = tested_all Done ends
      test_ends (NotCompliant count) ends = tested_all (NotCompliant count) ends
      test_ends WriteFault ends = tested_all WriteFault ends
      test_ends (InputRefused error) ends = ends
      test_ends ReadFault ends = ends
      test_ends Memory ends = (stops_early before.machine after.machine (o.source.left before.input) ends.0, ends.1)
      test_ends _ ends = absurd ends

      start_row : (command : StartCommand) (status : Status) → Started command o nothing_further status before after → Started command o further status before after
      start_row command status row = record { input = row.input; start = start command status _ _ _ _ row.start }

      pub did_further : (command : Command) (status : Status) → Did o nothing_further command status before after → Did o further command status before after
      did_further Test status row = record { offline = row.offline; ends = test_ends status row.ends; each = row.each }
      did_further Check status row = row
      did_further Order status row = row
      did_further Canon status row = row
      did_further Checksum status row = row
      did_further (Compile node) status row = row
      did_further (Generate count) status row = row
      did_further (Init agent) status row = start_row _ status row
      did_further Meta status row = input_ends _ _ status _ _ _ _ _ _ row
      did_further (Register name) status row = record { input = row.input; ends = register_ends name.now status _ _ _ _ row.ends }
      did_further Pull status row = start_row _ status row
      did_further (Push None) status row = input_ends _ _ status _ _ _ _ _ _ row
      did_further (Push (Some name)) status row = part_ends name.now status _ _ _ _ _ _ row
      did_further Consistency status row = start_row _ status row
      did_further Boot status row = start_row _ status row
      did_further Get status row = start_row _ status row
      did_further Restore status row = start_row _ status row
      did_further (Remove stage) status row = start_row _ status row
      did_further Reports status row = start_row _ status row
