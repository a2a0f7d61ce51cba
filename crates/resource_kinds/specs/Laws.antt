-- What the Sets of a run leave after: each makes its resource hold, and what holds of the resources apart from it stays.
use Rattle.std.specs.Prelude.{◌≡◌, ℕ, ⊤, Bool, true, false, IsTrue, List, [], ◌∷◌, ◌++◌, Option, Some, None, All}
use Rattle.dsc_outside.specs.Host.{HostState}
use Rattle.dsc_document.specs.declared.document.Document.{Document}
use Rattle.resource_kinds.specs.declared.entry.Failure.TheVariants.{HostFailed}
use Rattle.resource_kinds.specs.declared.entry.SetAnswer.{SetAnswer}
use Rattle.resource_kinds.specs.declared.entry.SetAnswer.TheVariants as sets
use Rattle.resource_kinds.specs.declared.entry.Entry.{Entry}
use Rattle.resource_kinds.specs.declared.entry.Entry.TheVariants.{Tested, Set}
use Rattle.resource_kinds.specs.declared.wanted.Wanted.{Wanted}
use Rattle.resource_kinds.specs.declared.wanted.Wanted.TheVariants as wants
use Rattle.resource_kinds.specs.Apart.{Apart, AreApart, wanted_at}
use Rattle.resource_kinds.specs.Documents.{Clear}
use Rattle.resource_kinds.specs.Holds.{ChangedTarget, Holds, applied}
use Rattle.resource_kinds.specs.Trace.{Succeeded, last_entry, test_is_yes}
use Rattle.resource_kinds.specs.True.{True}

-- ---- one Set

-- once it is done, what the resource asks for holds
abbrev pub SetMakesHold : Type 0
SetMakesHold = (host : HostState) (wanted : Wanted) → Holds (applied wanted host) wanted

-- what held of a resource apart from it still holds
abbrev pub SetKeepsApart : Type 0
SetKeepsApart = (host : HostState) (set other : Wanted) → AreApart set other → Holds host other → Holds (applied set host) other

-- the resource is a folder
abbrev pub AsksFolder : Wanted → Type 0
AsksFolder (wants.Folder path) = ⊤
AsksFolder _ = ⊥

-- one that failed keeps it too, but where it was to make a folder: what is below the path is apart from it, and may be lost
abbrev pub FailureKeepsApart : Type 0
FailureKeepsApart =
    (before after : HostState) (set other : Wanted) → AreApart set other → (AsksFolder set → ⊥) → ChangedTarget set before after
    → Holds before other → Holds after other

-- where resources are apart and nothing is in the way of any, nothing is after the Set of one either
abbrev pub SetKeepsClear : Type 0
SetKeepsClear =
    (host : HostState) (document : Document) (place : ℕ) (set : Wanted) → Apart document → wanted_at document place ≡ Some set
    → Clear host document → Clear (applied set host) document

-- ---- Sets in turn

-- the machine once each was set in turn
abbrev pub all_applied : List Wanted → HostState → HostState
all_applied [] host = host
all_applied (set ∷ others) host = all_applied others (applied set host)

abbrev pub SetsKeepApart : Type 0
SetsKeepApart =
    (host : HostState) (sets : List Wanted) (other : Wanted) → All (λ set. AreApart set other) sets → Holds host other → Holds (all_applied sets host) other

-- ---- a run

-- a Set that the host failed, or that ran out of memory, may leave anything at its target
abbrev pub MayBreakOff : SetAnswer → Type 0
MayBreakOff sets.Done = ⊥
MayBreakOff sets.Reboot = ⊥
MayBreakOff (sets.Fault failure) = failure ≡ HostFailed
MayBreakOff sets.Memory = ⊤

-- the entry is no Set of a folder that may have broken off
abbrev pub IsWhole : Document → Entry → Type 0
IsWhole document (Tested place answer) = ⊤
IsWhole document (Set place answer) = MayBreakOff answer → (set : Wanted) → wanted_at document place ≡ Some set → AsksFolder set → ⊥

abbrev pub set_is_done : SetAnswer → Bool
set_is_done sets.Done = true
set_is_done sets.Reboot = true
set_is_done (sets.Fault failure) = false
set_is_done sets.Memory = false

-- a Test that answered yes, or a Set that is done
abbrev pub entry_settles : Entry → Bool
entry_settles (Tested place answer) = test_is_yes answer
entry_settles (Set place answer) = set_is_done answer

abbrev pub settles : Option Entry → Bool
settles None = false
settles (Some e) = entry_settles e

-- the resource was made to hold or held in its turn: so says its last entry
abbrev pub IsSettled : List Entry → ℕ → Type 0
IsSettled trace r = IsTrue (settles (last_entry trace r))

-- the trace is true of a document whose resources are apart, and no Set of a folder broke off
pub record KeepsWhole (document : Document) (before : HostState) (trace : List Entry) (after : HostState) : Type 0 where
  pub apart : Apart document
  pub is_true : True document before trace after
  pub whole : All (IsWhole document) trace

-- each resource that was settled in its turn holds at the end, together with all the others
abbrev pub SettledHold : Type 0
SettledHold =
    (document : Document) (before after : HostState) (trace : List Entry) (r : ℕ) (wanted : Wanted)
    → KeepsWhole document before trace after → wanted_at document r ≡ Some wanted → IsSettled trace r → Holds after wanted

-- and so does each that succeeded
abbrev pub SucceededHold : Type 0
SucceededHold =
    (document : Document) (before after : HostState) (trace : List Entry) (r : ℕ) (wanted : Wanted)
    → KeepsWhole document before trace after → wanted_at document r ≡ Some wanted → Succeeded trace r → Holds after wanted

-- the resource was set
abbrev pub IsSetIn : List Entry → ℕ → Type 0
IsSetIn trace r = (front : List Entry) × (answer : SetAnswer) × (rest : List Entry) × (trace ≡ front ++ Set r answer ∷ rest)

-- what held before the run and was not set still holds
abbrev pub UnsetHold : Type 0
UnsetHold =
    (document : Document) (before after : HostState) (trace : List Entry) (r : ℕ) (wanted : Wanted)
    → KeepsWhole document before trace after → wanted_at document r ≡ Some wanted → (IsSetIn trace r → ⊥) → Holds before wanted → Holds after wanted

-- the entry is no Set that may have broken off
abbrev pub IsUnbroken : Entry → Type 0
IsUnbroken (Tested place answer) = ⊤
IsUnbroken (Set place answer) = MayBreakOff answer → ⊥

-- where no Set broke off, a host that was clear still is
abbrev pub ClearStays : Type 0
ClearStays =
    (document : Document) (before after : HostState) (trace : List Entry)
    → Apart document → True document before trace after → All IsUnbroken trace → Clear before document → Clear after document
