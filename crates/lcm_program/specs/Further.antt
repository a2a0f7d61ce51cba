-- Facts that hold of starts and runs beside the table of commands.
use Rattle.std.specs.Prelude.{◌≡◌, ℕ, List, ⊤}
use Rattle.dsc_outside.specs.declared.disk.Disk as disks
use Rattle.dsc_outside.specs.declared.host.Host as hosts
use Rattle.dsc_outside.specs.declared.clock.Clock as clocks
use Rattle.dsc_document.specs.declared.document.Document.{Document}
use Rattle.resource_kinds.specs.declared.kinds.Kinds.{Kinds}
use Rattle.resource_kinds.specs.Kinds.{calls_of, host_of}
use Rattle.resource_kinds.specs.True.{TellsTrue}
use Rattle.dsc_node.specs.declared.command.Command.{Command}
use Rattle.dsc_node.specs.declared.status.Status.{Status}
use Rattle.dsc_node.specs.HostHeadline.{HasHostHeadline}
use Rattle.dsc_node.specs.Start.{Outside}

-- a fact of the run of a document by `test`, which led from one state of the machine to another
abbrev pub FurtherOfRuns : Type 0 → Type 1
FurtherOfRuns M = Document → M → M → Type 0

-- a fact of a start by a command, with its objects before and after, its status and its lines; and one of such runs
pub record Further (D M C : Type 0) : Type 1 where
  pub start : Command → Outside D M C → Outside D M C → Status → List ℕ → Type 0
  pub run : FurtherOfRuns M

-- ---- nothing, on any machine

abbrev pub nothing_further_of_runs : {M : Type 0} → FurtherOfRuns M
nothing_further_of_runs document before after = ⊤

abbrev pub nothing_further : {D M C : Type 0} → Further D M C
nothing_further = record { start = λ command before after status lines. ⊤; run = nothing_further_of_runs }

-- ---- over the kinds of resources of a host

-- the trace is true of the host, which is as it was
pub record IsTrueRun {H : Type 0} (host : hosts.Ghosts H) (document : Document) (before after : Kinds H) : Type 0 where
  pub is_true : TellsTrue document (host.shown (host_of before)) (calls_of after) (host.shown (host_of after))
  pub same : host.shown (host_of after) ≡ host.shown (host_of before)

-- the headline of each start over a host, and each run is true of the host
abbrev pub further_of_host : {D H C : Type 0} → disks.Ghosts D → hosts.Ghosts H → clocks.Ghosts C → Further D (Kinds H) C
further_of_host disk host clock = record {
  start = HasHostHeadline disk host clock;
  run = λ document before after. IsTrueRun host document before after;
}
