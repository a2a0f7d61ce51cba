-- What the status of a program means, and which run an entry of a command stands for.
use Rattle.std.specs.Prelude.{◌≡◌, ◌≢◌, ℕ, Bool, true, false, List, [], ◌∷◌, ◌++◌, Option, Some, None, Result, Ok, Err, slice_get}
use Rattle.std.specs.Option.{IsSomeAnd, option_map_or}
use Rattle.mof_values.specs.declared.instance.Instance.{Instance}
use Rattle.dsc_document.specs.declared.document.Document.{Document}
use Rattle.dsc_document.specs.declared.document.Resource.{Resource}
use Rattle.resource_kinds.specs.declared.entry.Failure.{Failure}
use Rattle.resource_kinds.specs.declared.entry.Failure.TheVariants.{HostFailed}
use Rattle.resource_kinds.specs.declared.entry.TestAnswer.{TestAnswer}
use Rattle.resource_kinds.specs.declared.entry.TestAnswer.TheVariants as tests
use Rattle.resource_kinds.specs.declared.entry.SetAnswer.{SetAnswer}
use Rattle.resource_kinds.specs.declared.entry.SetAnswer.TheVariants as sets
use Rattle.resource_kinds.specs.declared.entry.Entry.{Entry}
use Rattle.resource_kinds.specs.declared.entry.Entry.TheVariants.{Tested, Set}
use Rattle.resource_kinds.specs.Trace.{place_of}
use Rattle.resource_kinds.specs.True.{IsTold}
use Rattle.command_kind.specs.declared.program.Purpose.TheVariants as purposes
use Rattle.command_kind.specs.declared.spawner.Run.{Run}
use Rattle.command_kind.specs.Programs.{Program, program_of}
use Rattle.command_kind.specs.Spawning.{ran}
use Rattle.command_kind.specs.Tables.{is_command}

-- ---- of a program

-- one run of the program, which gave this status, or none
abbrev pub RanOnce : Program → Option ℕ → List Run → Type 0
RanOnce program status runs = runs ≡ ran program.name program.words status ∷ []

-- one run of the program, which gave another status than this
abbrev pub RanOtherwise : Program → ℕ → List Run → Type 0
RanOtherwise program status runs = (other : ℕ) × (other ≢ status) × RanOnce program (Some other) runs

-- The run that the answer of a Test stands for. It is yes where the program ended with 0, and no where it ended with another status; where
-- the program gave none, the host failed, and no other fault is answered.
abbrev pub TestRan : Program → TestAnswer → List Run → Type 0
TestRan program tests.Yes runs = RanOnce program (Some 0) runs
TestRan program tests.No runs = RanOtherwise program 0 runs
TestRan program (tests.Fault failure) runs = (failure ≡ HostFailed) × RanOnce program None runs
TestRan program tests.Memory runs = runs ≡ []

-- The run that the answer of a Set stands for. It asks for a reboot where the program ended with 194, the low byte of 3010 by which
-- installers ask for one, and is done where it ended with another status.
abbrev pub SetRan : Program → SetAnswer → List Run → Type 0
SetRan program sets.Done runs = RanOtherwise program 194 runs
SetRan program sets.Reboot runs = RanOnce program (Some 194) runs
SetRan program (sets.Fault failure) runs = (failure ≡ HostFailed) × RanOnce program None runs
SetRan program sets.Memory runs = runs ≡ []

-- ---- of a command

-- a command with a fault of its own runs nothing, and its fault is answered
abbrev pub TestOf : Result Program Failure → TestAnswer → List Run → Type 0
TestOf (Ok program) answer runs = TestRan program answer runs
TestOf (Err failure) answer runs = IsTold failure (tests.Fault failure) tests.Memory answer × (runs ≡ [])

abbrev pub SetOf : Result Program Failure → SetAnswer → List Run → Type 0
SetOf (Ok program) answer runs = SetRan program answer runs
SetOf (Err failure) answer runs = IsTold failure (sets.Fault failure) sets.Memory answer × (runs ≡ [])

-- a Test runs the program for the Test, a Set that for the Set
abbrev pub CommandRan : Instance → Entry → List Run → Type 0
CommandRan instance (Tested place answer) runs = TestOf (program_of purposes.Test instance) answer runs
CommandRan instance (Set place answer) runs = SetOf (program_of purposes.Set instance) answer runs

-- ---- of an entry

-- the entry is of a command
abbrev pub is_of_command : Document → Entry → Bool
is_of_command document e = option_map_or (λ (resource : Resource). is_command resource.instance) (slice_get document.resources (place_of e)) false

-- what an entry of a command ran
abbrev pub EntryRan : Document → Entry → List Run → Type 0
EntryRan document e runs = IsSomeAnd (slice_get document.resources (place_of e)) (λ (resource : Resource). CommandRan resource.instance e runs)

-- an entry of any other resource runs nothing
abbrev pub RanBy : Bool → Document → Entry → List Run → Type 0
RanBy true document e runs = EntryRan document e runs
RanBy false document e runs = runs ≡ []

-- ---- of a trace

-- the runs of a trace, in order: those of its first entry, and then those of the others
abbrev pub AreRunsOf : Document → List Entry → List Run → Type 0
AreRunsOf document [] runs = runs ≡ []
AreRunsOf document (e ∷ es) runs =
    (first : List Run) × (rest : List Run) × (runs ≡ first ++ rest) × RanBy (is_of_command document e) document e first × AreRunsOf document es rest
