-- Which answers are true of a machine.
use Rattle.std.specs.Prelude.{◌≡◌, ◌⊎◌, ℕ, true, false, List, Option, Some, None, Result, Ok, Err, ⊤, All, slice_get}
use Rattle.std.specs.Option.{IsSomeAnd}
use Rattle.dsc_outside.specs.Host.{HostState, wants_reboot}
use Rattle.dsc_document.specs.declared.document.Document.{Document}
use Rattle.resource_kinds.specs.declared.entry.Failure.{Failure}
use Rattle.resource_kinds.specs.declared.entry.Failure.TheVariants as faults
use Rattle.resource_kinds.specs.declared.entry.TestAnswer.{TestAnswer}
use Rattle.resource_kinds.specs.declared.entry.TestAnswer.TheVariants as tests
use Rattle.resource_kinds.specs.declared.entry.SetAnswer.{SetAnswer}
use Rattle.resource_kinds.specs.declared.entry.SetAnswer.TheVariants as sets
use Rattle.resource_kinds.specs.declared.entry.Entry.{Entry}
use Rattle.resource_kinds.specs.declared.entry.Entry.TheVariants.{Tested, Set}
use Rattle.resource_kinds.specs.declared.wanted.Wanted.{Wanted}
use Rattle.resource_kinds.specs.Holds.{AsksPath, ChangedTarget, Holds, InTheWay, applied}
use Rattle.resource_kinds.specs.Wanted.{NamesProperty, folded_utf8, wanted_of}
use Rattle.resource_kinds.specs.Trace.{Chain}

-- ---- Test

-- the Test of a resource without a fault of its own: the one fault is the host's
abbrev pub AnswersKnown : HostState → Wanted → TestAnswer → Type 0
AnswersKnown host wanted tests.Yes = Holds host wanted
AnswersKnown host wanted tests.No = Holds host wanted → ⊥
AnswersKnown host wanted (tests.Fault failure) = failure ≡ faults.HostFailed
AnswersKnown host wanted tests.Memory = ⊤

-- the fault is answered, or `Memory` where it names a property, since the name is copied
abbrev pub IsTold : {A : Type 0} → Failure → A → A → A → Type 0
IsTold failure fault memory answer = (answer ≡ fault) ⊎ (NamesProperty failure × (answer ≡ memory))

-- yes where what the resource asks for holds, no where it does not; of one with a fault, its fault
abbrev pub AnswersTrue : HostState → Result Wanted Failure → TestAnswer → Type 0
AnswersTrue host (Ok wanted) answer = AnswersKnown host wanted answer
AnswersTrue host (Err failure) answer = IsTold failure (tests.Fault failure) tests.Memory answer

-- ---- Set

-- nothing was in the way, and this alone was changed
pub record IsSet (before : HostState) (wanted : Wanted) (after : HostState) : Type 0 where
  pub clear : InTheWay before wanted → ⊥
  pub applied : after ≡ applied wanted before

-- the Set did a part at most, and nothing where something was in the way
pub record BrokeOff (before : HostState) (wanted : Wanted) (after : HostState) : Type 0 where
  pub part : ChangedTarget wanted before after
  pub spared : InTheWay before wanted → after ≡ before

-- the one fault besides the host's is that something is in the way
abbrev pub LeavesFaulty : HostState → Wanted → Failure → HostState → Type 0
LeavesFaulty before wanted faults.NoSuchResource after = ⊥
LeavesFaulty before wanted (faults.OutOfProfile name) after = ⊥
LeavesFaulty before wanted faults.BadPath after = ⊥
LeavesFaulty before wanted faults.InTheWay after = InTheWay before wanted × (after ≡ before)
LeavesFaulty before wanted faults.HostFailed after = BrokeOff before wanted after

-- the Set of a resource of that id without a fault of its own
abbrev pub SetsKnown : HostState → List ℕ → Wanted → SetAnswer → HostState → Type 0
SetsKnown before id wanted sets.Done after = IsSet before wanted after × (wants_reboot after.wanting (folded_utf8 id) ≡ false)
SetsKnown before id wanted sets.Reboot after = IsSet before wanted after × (wants_reboot after.wanting (folded_utf8 id) ≡ true)
SetsKnown before id wanted (sets.Fault failure) after = LeavesFaulty before wanted failure after
SetsKnown before id wanted sets.Memory after = BrokeOff before wanted after

-- a resource with a fault is answered with it, and nothing changes
abbrev pub SetsTrue : HostState → List ℕ → Result Wanted Failure → SetAnswer → HostState → Type 0
SetsTrue before id (Ok wanted) answer after = SetsKnown before id wanted answer after
SetsTrue before id (Err failure) answer after = IsTold failure (sets.Fault failure) sets.Memory answer × (after ≡ before)

-- ---- entries

-- an entry over what a host shows: its resource is one of the document, the answer is true, and a Test leaves the host as it was
abbrev pub IsTrueEntry : HostState → Document → Entry → HostState → Type 0
IsTrueEntry before document (Tested place answer) after =
    (after ≡ before) × IsSomeAnd (slice_get document.resources place) (λ resource. AnswersTrue before (wanted_of resource) answer)
IsTrueEntry before document (Set place answer) after =
    IsSomeAnd (slice_get document.resources place) (λ resource. SetsTrue before resource.id (wanted_of resource) answer after)

-- the answers along a trace are true, from a host to a host
abbrev pub True : Document → HostState → List Entry → HostState → Type 0
True document before trace after = Chain (λ a d e b. IsTrueEntry a d e b) (λ a b. a ≡ b) document before trace after

-- ---- what an answer says whatever the host holds

-- the one fault of a Test besides the resource's own is the host's
abbrev pub BlamesHost : TestAnswer → Type 0
BlamesHost tests.Yes = ⊤
BlamesHost tests.No = ⊤
BlamesHost (tests.Fault failure) = failure ≡ faults.HostFailed
BlamesHost tests.Memory = ⊤

-- the faults of a Set besides the resource's own are the host's, and that something is in the way of what stands at a path
abbrev pub BlamesMachine : Wanted → SetAnswer → Type 0
BlamesMachine wanted sets.Done = ⊤
BlamesMachine wanted sets.Reboot = ⊤
BlamesMachine wanted (sets.Fault failure) = (failure ≡ faults.HostFailed) ⊎ ((failure ≡ faults.InTheWay) × AsksPath wanted)
BlamesMachine wanted sets.Memory = ⊤

-- a resource with a fault of its own is answered with it, and no other is
abbrev pub TestKeepsTable : Result Wanted Failure → TestAnswer → Type 0
TestKeepsTable (Ok wanted) answer = BlamesHost answer
TestKeepsTable (Err failure) answer = IsTold failure (tests.Fault failure) tests.Memory answer

abbrev pub SetKeepsTable : Result Wanted Failure → SetAnswer → Type 0
SetKeepsTable (Ok wanted) answer = BlamesMachine wanted answer
SetKeepsTable (Err failure) answer = IsTold failure (sets.Fault failure) sets.Memory answer

-- the resource is one of the document, and so answered
abbrev pub KeepsTable : Document → Entry → Type 0
KeepsTable document (Tested place answer) = IsSomeAnd (slice_get document.resources place) (λ resource. TestKeepsTable (wanted_of resource) answer)
KeepsTable document (Set place answer) = IsSomeAnd (slice_get document.resources place) (λ resource. SetKeepsTable (wanted_of resource) answer)

-- ---- hosts that may show what they hold

-- one entry where the host shows what it holds; where it does not, the faults are still the table's
abbrev pub TellsEntry : Option HostState → Document → Entry → Option HostState → Type 0
TellsEntry None document e after = (after ≡ None) × KeepsTable document e
TellsEntry (Some before) document e after = (state : HostState) × (after ≡ Some state) × IsTrueEntry before document e state

-- a trace where the host shows what it holds; where it does not, the faults are still the table's
abbrev pub TellsTrue : Document → Option HostState → List Entry → Option HostState → Type 0
TellsTrue document None trace after = (after ≡ None) × All (KeepsTable document) trace
TellsTrue document (Some before) trace after = (state : HostState) × (after ≡ Some state) × True document before trace state

-- where the host shows what it holds, this leads from what it held to what it holds
abbrev pub TellsStep : Option HostState → Option HostState → (HostState → HostState → Type 0) → Type 0
TellsStep None after step = after ≡ None
TellsStep (Some before) after step = (state : HostState) × (after ≡ Some state) × step before state

-- ---- kept entries

abbrev pub TestNames : TestAnswer → Type 0
TestNames tests.Yes = ⊥
TestNames tests.No = ⊥
TestNames (tests.Fault failure) = NamesProperty failure
TestNames tests.Memory = ⊥

abbrev pub SetNames : SetAnswer → Type 0
SetNames sets.Done = ⊥
SetNames sets.Reboot = ⊥
SetNames (sets.Fault failure) = NamesProperty failure
SetNames sets.Memory = ⊥

-- an answer as it is kept: itself, or `Memory` where it names a property, since the name is copied
abbrev pub IsKeptTest : TestAnswer → TestAnswer → Type 0
IsKeptTest answer kept = (kept ≡ answer) ⊎ (TestNames answer × (kept ≡ tests.Memory))

abbrev pub IsKeptSet : SetAnswer → SetAnswer → Type 0
IsKeptSet answer kept = (kept ≡ answer) ⊎ (SetNames answer × (kept ≡ sets.Memory))
