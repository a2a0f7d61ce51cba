-- Over the kinds of resources of a host each start has the headline, and each run of `test` is true of the host.
use Rattle.std.proofs.Common.{ℕ, List}
use Rattle.dsc_outside.specs.declared.ends.Ends as ends
use Rattle.dsc_outside.specs.declared.disk.Disk as disks
use Rattle.dsc_outside.specs.declared.host.Host as hosts
use Rattle.dsc_outside.specs.declared.link.Link as links
use Rattle.dsc_outside.specs.declared.clock.Clock as clocks
use Rattle.dsc_document.specs.declared.document.Document.{Document}
use Rattle.resource_kinds.specs.declared.kinds.Kinds.{Kinds}
use Rattle.resource_kinds.specs.Kinds.{calls_of, host_of}
use Rattle.lcm_core.specs.RepairLaws.{FaultsAreContained, RepairSucceeds}
use Rattle.lcm_core.specs.RunLaws.{CompliantHold}
use Rattle.lcm_core.specs.declared.modes.RunEnd.{RunEnd}
use Rattle.lcm_core.proofs.Traces.{monitor_keeps}
use Rattle.dsc_node.specs.declared.status.Status.{Status}
use Rattle.dsc_node.specs.HostHeadline.{kinds_of, machine_of}
use Rattle.dsc_node.proofs.Headline.{host_headline}
use Rattle.dsc_node.proofs.Runs.{kinds_tell}
use Rattle.lcm_program.specs.declared.words.Command.{Command}
use Rattle.lcm_program.specs.Did.{Did}
use Rattle.lcm_program.specs.Objects.{Known, Objects, known}
use Rattle.lcm_program.specs.Further.{IsTrueRun, nothing_further, nothing_further_of_runs, further_of_host}
use Rattle.lcm_program.specs.Test.{Monitored}
use Rattle.lcm_program.proofs.FurtherRows.{did_further}

true_run : {H : Type 0} (host : hosts.Ghosts H) (document : Document) (end : RunEnd) (before after : Kinds H)
    → Monitored (kinds_of host) nothing_further_of_runs document end before after → IsTrueRun host document before after
true_run host document end before after m =
    let is_true = kinds_tell host.shown document before after (calls_of after) m.chain in
    record { is_true = is_true; same = monitor_keeps document m.order (calls_of after) (host.shown (host_of before)) (host.shown (host_of after)) m.legal is_true }

module _ {S K D H L C : Type 0} (source : ends.Ghosts S) (sink : ends.Ghosts K) (disk : disks.Ghosts D) (host : hosts.Ghosts H) (link : links.Ghosts L) (clock : clocks.Ghosts C)
    (succeeds : RepairSucceeds) (contained : FaultsAreContained) (together : CompliantHold) where
  abbrev o : Known S K D (Kinds H) L C
  o = known source sink disk (kinds_of host) (machine_of host) link clock

  pub did_on_host : (before after : Objects S K D (Kinds H) L C) (command : Command) (status : Status) → Did o nothing_further command status before after
      → Did o (further_of_host disk host clock) command status before after
  did_on_host before after command status row =
      did_further o (further_of_host disk host clock)
      (λ start old new status lines headline. host_headline disk host clock succeeds contained together start old new status lines headline)
      (λ document end old new m. true_run host document end old new m)
      before after command status row
