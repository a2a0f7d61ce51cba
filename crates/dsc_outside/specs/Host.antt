-- What a machine holds, and what looks at it answer.
use Rattle.std.specs.Prelude.{◌≡◌, ℕ, List, [], ◌++◌, Bool, true, false, ◌&&◌, Option, Some, None, Result, Ok, Err, ⊤, IfOk}
use Rattle.std.specs.List.{list_any}
use Rattle.std.specs.Str.{bytes_eq}
use Rattle.std.specs.Io.{StartsWith}
use Rattle.dsc_outside.specs.Causes.{one_more}
use Rattle.dsc_outside.specs.Paths.{IsStateAt, PathKind, Nothing, is_file_of}
use Rattle.dsc_outside.specs.declared.host.PathState.{PathState}
use Rattle.dsc_outside.specs.declared.entries.LogEntry.{LogEntry}
use Rattle.dsc_outside.specs.declared.entries.Package.{Package}
use Rattle.dsc_outside.specs.declared.host.HostError.{HostError}
use Rattle.dsc_outside.specs.declared.host.HostError.TheVariants as errors

pub record HostState : Type 0 where
  -- what stands at a path
  pub path : List ℕ → PathKind
  -- the bytes of the environment variable that is there, by the UTF-8 bytes of its folded name
  pub variable : List ℕ → Option (List ℕ)
  -- the oldest first
  pub log : List LogEntry
  pub packages : List Package
  -- the UTF-8 bytes of the folded ids of the resources that want a reboot
  pub wanting : List (List ℕ)

-- nothing at any path, no variable, no entry, no package, and nobody wants a reboot
abbrev pub empty_host : HostState
empty_host = record { path = λ path. Nothing; variable = λ name. None; log = []; packages = []; wanting = [] }

abbrev pub has_entry : List LogEntry → List ℕ → List ℕ → Bool
has_entry log id message = list_any (λ e. bytes_eq e.id id && bytes_eq e.message message) log

abbrev pub has_package : List Package → List ℕ → List ℕ → Bool
has_package packages name version = list_any (λ p. bytes_eq p.name name && bytes_eq p.version version) packages

abbrev pub wants_reboot : List (List ℕ) → List ℕ → Bool
wants_reboot wanting id = list_any (λ w. bytes_eq w id) wanting

-- where the host shows what it holds, that is what the call answers by
abbrev pub Tells : {A E : Type 0} → Option HostState → Result A E → (HostState → A → Type 0) → Type 0
Tells None result shows = ⊤
Tells (Some host) result shows = IfOk result (λ answer. shows host answer)

-- what each look at the machine answers, of what the host holds
abbrev pub IsState : List ℕ → HostState → PathState → Type 0
IsState path host state = IsStateAt host.path path state

abbrev pub SaysFile : List ℕ → List ℕ → HostState → Bool → Type 0
SaysFile path bytes host same = same ≡ is_file_of (host.path path) bytes

abbrev pub SaysEntry : List ℕ → List ℕ → HostState → Bool → Type 0
SaysEntry id message host there = there ≡ has_entry host.log id message

abbrev pub SaysPackage : List ℕ → List ℕ → HostState → Bool → Type 0
SaysPackage name version host there = there ≡ has_package host.packages name version

abbrev pub SaysReboot : List ℕ → HostState → Bool → Type 0
SaysReboot id host wanted = wanted ≡ wants_reboot host.wanting id

-- a look-up answers whether the value is there, and appends it
abbrev pub Shows : Option (List ℕ) → Bool → List ℕ → List ℕ → Type 0
Shows (Some value) true old new = new ≡ old ++ value
Shows (Some value) false old new = ⊥
Shows None true old new = ⊥
Shows None false old new = new ≡ old

-- where the host shows what it holds, the variable of that name is what it answers
abbrev pub TellsVariable : {E : Type 0} → Option HostState → List ℕ → Result Bool E → List ℕ → List ℕ → Type 0
TellsVariable None name result old new = ⊤
TellsVariable (Some host) name result old new = IfOk result (λ there. Shows (host.variable name) there old new)

-- the buffer of a look-up: its bytes stay, with a value after them where one is there
abbrev pub LeavesBuffer : {E : Type 0} → Result Bool E → List ℕ → List ℕ → Type 0
LeavesBuffer (Ok true) old new = StartsWith new old
LeavesBuffer (Ok false) old new = new ≡ old
LeavesBuffer (Err e) old new = new ≡ old

-- the count of faults after a call: one more where it failed
abbrev pub host_count_after : {A : Type 0} → ℕ → Result A HostError → ℕ
host_count_after before (Ok answer) = before
host_count_after before (Err errors.Failed) = one_more before
host_count_after before (Err errors.Memory) = before
