-- The command `rehearse`: the starts of a script, each of the node by its words, over objects in memory.
use Rattle.std.specs.Prelude.{◌≡◌, ℕ, ◌<◌, ◌≤◌, List, length, Result, Ok, Err}
use Rattle.dsc_outside.specs.declared.ends.Ends as ends
use Rattle.dsc_outside.specs.declared.disk.Disk as disks
use Rattle.dsc_outside.specs.declared.host.Host as hosts
use Rattle.dsc_outside.specs.declared.link.Link as links
use Rattle.dsc_outside.specs.declared.clock.Clock as clocks
use Rattle.rehearsal.specs.Objects as rehearsals
use Rattle.rehearsal.specs.Playing.{IsPlayed}
use Rattle.rehearsal.specs.Script.{FailsAt, IsScript}
use Rattle.rehearsal.specs.declared.limits.TheConstants.{MAX_SCRIPT}
use Rattle.rehearsal.specs.declared.starter.Starter as starters
use Rattle.rehearsal.specs.declared.step.Step.{Step}
use Rattle.resource_kinds.specs.declared.kinds.Kinds.{Kinds}
use Rattle.dsc_node.specs.HostHeadline.{kinds_of, machine_of}
use Rattle.dsc_node.specs.Status.{name_of}
use Rattle.dsc_node.specs.declared.status.InputError.TheVariants.{TooLong, Script}
use Rattle.dsc_node.specs.declared.status.Status.{Status}
use Rattle.lcm_program.specs.DidWords.{DidWords}
use Rattle.lcm_program.specs.Further.{further_of_host}
use Rattle.lcm_program.specs.Input.{Reading}
use Rattle.lcm_program.specs.Objects.{Known, Objects, known, objects}
use Rattle.lcm_program.specs.Tool.{RanTool, Shows}

-- ---- one start

-- the objects of a start in a rehearsal, and its output
abbrev pub with_output : {K D H : Type 0} → K → rehearsals.Objects D H → Objects (List ℕ) K D (Kinds H) rehearsals.Link ℕ
with_output output start = objects start.input output start.disk start.machine start.link start.clock

-- A start does what `node_words` does with its words, and has the name of the status that this ends with. What it prints is not kept.
pub record StartsNode {K D H : Type 0} (source : ends.Ghosts (List ℕ)) (sink : ends.Ghosts K) (disk : disks.Ghosts D) (host : hosts.Ghosts H)
    (link : links.Ghosts rehearsals.Link) (clock : clocks.Ghosts ℕ) (words : List (List ℕ)) (before after : rehearsals.Objects D H) (name : List ℕ) : Type 0 where
  pub old : K
  pub new : K
  pub status : Status
  pub named : name ≡ name_of status
  pub did : DidWords (known source sink disk (kinds_of host) (machine_of host) link clock) (further_of_host disk host clock) words status (with_output old before) (with_output new after)

-- ---- the command

-- the steps of a script; of the errors, the first line that is wrong, where the script is within the limit
abbrev pub ReadsScript : Reading (List Step)
ReadsScript all (Ok steps) = (length all ≤ MAX_SCRIPT) × IsScript all steps
ReadsScript all (Err TooLong) = MAX_SCRIPT < length all
ReadsScript all (Err (Script line)) = (length all ≤ MAX_SCRIPT) × FailsAt all line
ReadsScript all (Err error) = ⊥

-- the lines of its starts
abbrev pub AnswersRehearsal : {P : Type 0} → starters.Ghosts P → Reading (List ℕ)
AnswersRehearsal program = Shows ReadsScript (IsPlayed program)

-- The row of `rehearse`: the lines of the starts are printed, and the disk, the machine, the link and the clock that were handed over are as they were.
abbrev pub Rehearsed : {P S K D M L C : Type 0} → starters.Ghosts P → Known S K D M L C → Status → Objects S K D M L C → Objects S K D M L C → Type 0
Rehearsed program o status before after = RanTool (AnswersRehearsal program) o status before after
