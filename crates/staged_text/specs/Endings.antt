-- How the program ends, and what it prints then.
use Rattle.std.specs.Prelude.{◌≡◌, ◌⊎◌, ℕ, List, [], ◌++◌, Option, IfSome, codes, ⊤}
use Rattle.std.specs.Fmt.{decimal}
use Rattle.std.specs.Io.KnownBytes.{Appends}
use Rattle.dsc_terms.specs.Counts.{Rose}
use Rattle.dsc_outside.specs.Streams.{AppendsPart}
use Rattle.dsc_outside.specs.declared.disk.Disk as disks
use Rattle.dsc_outside.specs.declared.ends.Ends as sinks
use Rattle.node_state.specs.declared.event.Stage.{Stage}
use Rattle.node_state.specs.declared.event.Stage.TheVariants.{Pending, Current, Previous}
use Rattle.staged_text.specs.declared.ending.Unshown.{Unshown}
use Rattle.staged_text.specs.declared.ending.Unshown.TheVariants.{DiskFault, NotAStore, Empty, Memory}
use Rattle.staged_text.specs.declared.ending.Ending.{Ending}
use Rattle.staged_text.specs.declared.ending.Ending.TheVariants as endings
use Rattle.staged_text.specs.Texts.{Shows, ShowsNothing}

-- the word that names a stage
abbrev pub name_of : Stage → List ℕ
name_of Pending = codes "pending"
name_of Current = codes "current"
name_of Previous = codes "previous"

-- the number with which the program ends
abbrev pub number_of : Ending → ℕ
number_of endings.Done = 0
number_of endings.Usage = 2
number_of endings.WriteFault = 4
number_of (endings.Unshown DiskFault) = 4
number_of (endings.Unshown (NotAStore at)) = 5
number_of (endings.Unshown Empty) = 7
number_of (endings.Unshown Memory) = 8

-- the line that says why there is no text; out of memory there is none
abbrev pub line_of : Unshown → List ℕ
line_of DiskFault = codes "refused DiskFault\n"
line_of (NotAStore at) = codes "refused NotAStore " ++ decimal at ++ codes "\n"
line_of Empty = codes "refused Empty\n"
line_of Memory = []

-- ---- over a disk and an output

-- why what a disk holds was not read
abbrev pub IsUnread : Type 0 → Unshown → Type 0
IsUnread rose DiskFault = rose
IsUnread rose Memory = ⊤
IsUnread rose Empty = ⊥
IsUnread rose (NotAStore at) = ⊥

-- what the disk read as shows this text at the stage, where the disk shows what it holds
abbrev pub IsShown : {D : Type 0} → disks.Ghosts D → Stage → D → List ℕ → Type 0
IsShown d stage disk text = IfSome (d.shown disk) (λ image. Shows stage image text)

-- why no text was shown: a call of the disk failed, or what it read as shows none
abbrev pub IsUnshown : {D : Type 0} → disks.Ghosts D → Stage → D → D → Unshown → Type 0
IsUnshown d stage old new DiskFault = Rose (d.faults old) (d.faults new)
IsUnshown d stage old new why = IfSome (d.shown old) (λ image. ShowsNothing stage image why)

-- the line was printed, or a part from its front where the output failed
abbrev pub Prints : {K : Type 0} → sinks.Ghosts K → List ℕ → K → K → Type 0
Prints sink line before after =
    Appends (sink.held before) (sink.held after) line ⊎ (Rose (sink.faults before) (sink.faults after) × AppendsPart (sink.held before) (sink.held after) line)

-- how the showing of a stage ends
abbrev pub Ends : {D K : Type 0} → disks.Ghosts D → sinks.Ghosts K → Stage → D → D → K → K → Ending → Type 0
Ends d sink stage old new before after endings.Done =
    (text : List ℕ) × IsShown d stage old text × Appends (sink.held before) (sink.held after) text
Ends d sink stage old new before after endings.WriteFault =
    (text : List ℕ) × IsShown d stage old text × Rose (sink.faults before) (sink.faults after) × AppendsPart (sink.held before) (sink.held after) text
Ends d sink stage old new before after (endings.Unshown why) = IsUnshown d stage old new why × Prints sink (line_of why) before after
Ends d sink stage old new before after endings.Usage = ⊥
