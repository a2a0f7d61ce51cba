-- What an output holds after a text was printed.
use Rattle.std.specs.Prelude.{◌⊎◌, ℕ, List, Option, Some, None}
use Rattle.std.specs.Io.KnownBytes.{Appends}
use Rattle.dsc_terms.specs.Counts.{Rose}
use Rattle.dsc_outside.specs.declared.ends.Ends.{Ghosts}
use Rattle.dsc_node.specs.declared.status.Status.{Status}
use Rattle.dsc_node.specs.declared.status.Status.TheVariants.{Done, WriteFault}
use Rattle.lcm_program.specs.Refusal.{line_of, reason_of}
use Rattle.dsc_outside.specs.Streams.{AppendsPart}

-- it holds the text, and nothing else was added
abbrev pub Holds : {K : Type 0} → Ghosts K → List ℕ → K → K → Type 0
Holds sink text old new = Appends (sink.held old) (sink.held new) text

-- it failed, and holds a part from the front of the text
pub record IsCutShort {K : Type 0} (sink : Ghosts K) (text : List ℕ) (old new : K) : Type 0 where
  pub rose : Rose (sink.faults old) (sink.faults new)
  pub part : AppendsPart (sink.held old) (sink.held new) text

-- the text was printed, or a part from its front where the output failed
abbrev pub PrintsFront : {K : Type 0} → Ghosts K → List ℕ → K → K → Type 0
PrintsFront sink text old new = Holds sink text old new ⊎ IsCutShort sink text old new

abbrev pub PrintsReason : {K : Type 0} → Ghosts K → Option (List ℕ) → K → K → Type 0
PrintsReason sink (Some reason) old new = PrintsFront sink (line_of reason) old new
PrintsReason sink None old new = ⊥

-- the status is a refusal, and its line was printed so
abbrev pub PrintsRefusal : {K : Type 0} → Ghosts K → Status → K → K → Type 0
PrintsRefusal sink status old new = PrintsReason sink (reason_of status) old new

-- how a command ends that prints a text and has nothing more to say
abbrev pub Prints : {K : Type 0} → Ghosts K → List ℕ → Status → K → K → Type 0
Prints sink text Done old new = Holds sink text old new
Prints sink text WriteFault old new = IsCutShort sink text old new
Prints sink text _ old new = ⊥
