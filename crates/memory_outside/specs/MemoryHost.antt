-- A host in memory.
use Rattle.std.specs.Prelude.{◌≡◌, ◌⊎◌, ℕ, List, [], ◌∷◌, Bool, true, false, ◌&&◌, ◌/◌, if◌then◌else◌, Option, Some, None, Result, Ok, Err, IsOk, length, take}
use Rattle.std.specs.Str.{bytes_eq}
use Rattle.dsc_outside.specs.Host.{HostState}
use Rattle.dsc_outside.specs.Causes.{HasCauseOf}
use Rattle.memory_outside.specs.Memory.{CallCount, counted, course_of, unstarted}
use Rattle.dsc_outside.specs.Paths.{PathKind, is_below}
use Rattle.dsc_outside.specs.Paths as kinds
use Rattle.dsc_outside.specs.declared.entries.LogEntry.{LogEntry}
use Rattle.dsc_outside.specs.declared.entries.Package.{Package}
use Rattle.dsc_outside.specs.declared.host.HostError.{HostError}
use Rattle.dsc_outside.specs.declared.host.HostError.TheVariants as errors
use Rattle.memory_outside.specs.declared.contents.HostContents.{HostContents}
use Rattle.memory_outside.specs.declared.paths.PathEntry.{PathEntry}
use Rattle.memory_outside.specs.declared.paths.PathContent.{PathContent}
use Rattle.memory_outside.specs.declared.paths.PathContent.TheVariants as standings
use Rattle.memory_outside.specs.declared.stop.Course.{Course}
use Rattle.memory_outside.specs.declared.stop.Course.TheVariants as courses
use Rattle.memory_outside.specs.declared.stop.Stop.{Stop}
use Rattle.memory_outside.specs.declared.variable.Variable.{Variable}

pub record HostInMemory : Type 0 where
  pub paths : List PathEntry
  pub variables : List Variable
  pub log : List LogEntry
  pub packages : List Package
  pub wanting : List (List ℕ)
  -- a stopped call ran out of memory for the part that it was to leave
  pub short : Bool
  pub calls : CallCount

-- before the first call: a host of these contents
abbrev pub host_with : HostContents → List ℕ → Option Stop → HostInMemory
host_with contents failing stop = record {
  paths = contents.paths.items;
  variables = contents.variables.items;
  log = contents.log.items;
  packages = contents.packages.items;
  wanting = contents.wanting.items;
  short = false;
  calls = unstarted failing stop;
}

-- a host of these variables alone
abbrev pub host_of_variables : List Variable → List ℕ → HostInMemory
host_of_variables variables failing = record { paths = []; variables = variables; log = []; packages = []; wanting = []; short = false; calls = unstarted failing None }

-- these are what the host holds
pub record IsContents (contents : HostContents) (host : HostInMemory) : Type 0 where
  pub paths : contents.paths.items ≡ host.paths
  pub variables : contents.variables.items ≡ host.variables
  pub log : contents.log.items ≡ host.log
  pub packages : contents.packages.items ≡ host.packages
  pub wanting : contents.wanting.items ≡ host.wanting

-- the value of the first of that name
abbrev pub first_named : {X Y : Type 0} → (X → List ℕ) → (X → Y) → List X → List ℕ → Option Y
first_named name value [] key = None
first_named name value (x ∷ xs) key = if bytes_eq (name x) key then Some (value x) else first_named name value xs key

-- the value of the first variable of that name
abbrev pub value_of : List Variable → List ℕ → Option (List ℕ)
value_of = first_named (λ v. v.name) (λ v. v.value)

-- what the first entry of that path says
abbrev pub standing_at : List PathEntry → List ℕ → Option PathContent
standing_at = first_named (λ e. e.path) (λ e. e.stands)

abbrev pub kind_of : Option PathContent → PathKind
kind_of None = kinds.Nothing
kind_of (Some (standings.File bytes)) = kinds.File bytes
kind_of (Some standings.Folder) = kinds.Folder
kind_of (Some standings.Other) = kinds.Other

abbrev pub kind_at : List PathEntry → List ℕ → PathKind
kind_at paths path = kind_of (standing_at paths path)

-- of what two lists of entries say, the first that says something
abbrev pub first_kind : PathKind → PathKind → PathKind
first_kind a b = if kinds.is_nothing a then b else a

abbrev pub folder_if : Bool → PathKind
folder_if wanted = if wanted then kinds.Folder else kinds.Nothing

-- one more entry, which counts where no earlier one does
abbrev pub IsPushed : List ℕ → PathKind → List PathEntry → List PathEntry → Type 0
IsPushed path kind old new = (other : List ℕ) → kind_at new other ≡ first_kind (kind_at old other) (if bytes_eq path other then kind else kinds.Nothing)

-- a folder for each path above that one where nothing stands
abbrev pub AreMissing : List ℕ → List PathEntry → List PathEntry → Type 0
AreMissing path old missing = (other : List ℕ) → kind_at missing other ≡ folder_if (is_below other path && kinds.is_nothing (kind_at old other))

-- the same, and the path itself
abbrev pub Adds : List ℕ → List PathEntry → PathKind → List PathEntry → Type 0
Adds path old kind added = (other : List ℕ) → kind_at added other ≡ first_kind (folder_if (is_below other path && kinds.is_nothing (kind_at old other))) (if bytes_eq path other then kind else kinds.Nothing)

-- what a host in memory shows
abbrev pub shown_of : HostInMemory → HostState
shown_of host = record { path = kind_at host.paths; variable = value_of host.variables; log = host.log; packages = host.packages; wanting = host.wanting }

-- the same, as a clause of every host takes it
abbrev pub exposed_host : HostInMemory → Option HostState
exposed_host host = Some (shown_of host)

-- a call that failed is one of the faults
abbrev pub CountsFault : {A : Type 0} → HostInMemory → HostInMemory → Result A HostError → Type 0
CountsFault old new result = HasCauseOf errors.Failed old.calls.faults new.calls.faults result

-- a look does nothing but count
abbrev pub looked_at : HostInMemory → HostInMemory
looked_at host = record host { calls = counted host.calls }

abbrev pub IsAsBefore : HostInMemory → HostInMemory → Type 0
IsAsBefore old new = (shown_of new ≡ shown_of old) × (new.short ≡ old.short)

abbrev pub IsChanged : (HostState → HostState) → HostInMemory → HostInMemory → Type 0
IsChanged change old new = (shown_of new ≡ change (shown_of old)) × (new.short ≡ old.short)

abbrev pub first_half : List ℕ → List ℕ
first_half bytes = take (length bytes / 2) bytes

-- the bytes of a file that a change puts
abbrev pub part_put : Course → List ℕ → List ℕ
part_put courses.Runs bytes = bytes
part_put courses.Fails bytes = bytes
part_put courses.StopsHalf bytes = first_half bytes
part_put courses.StopsWhole bytes = bytes

-- a stopped call leaves its part, or nothing where it runs out of memory, which is then reported
abbrev pub LeavesPart : (HostState → HostState) → HostInMemory → HostInMemory → Type 0
LeavesPart part old new = IsChanged part old new ⊎ ((shown_of new ≡ shown_of old) × (new.short ≡ true))

-- a change that takes memory: done where the call runs and there is memory, and in its part where it is stopped
abbrev pub ChangesBy : Course → (whole half : HostState → HostState) → HostInMemory → HostInMemory → Result (Unit {0}) HostError → Type 0
ChangesBy courses.Runs whole half old new (Ok done) = IsChanged whole old new
ChangesBy courses.Runs whole half old new (Err errors.Failed) = ⊥
ChangesBy courses.Runs whole half old new (Err errors.Memory) = IsAsBefore old new
ChangesBy courses.Fails whole half old new result = (result ≡ Err errors.Failed) × IsAsBefore old new
ChangesBy courses.StopsHalf whole half old new result = (result ≡ Err errors.Failed) × LeavesPart half old new
ChangesBy courses.StopsWhole whole half old new result = (result ≡ Err errors.Failed) × LeavesPart whole old new

-- a change that takes no memory
abbrev pub TakesBy : Course → (whole : HostState → HostState) → HostInMemory → HostInMemory → Result (Unit {0}) HostError → Type 0
TakesBy courses.Runs whole old new result = IsOk result × IsChanged whole old new
TakesBy courses.Fails whole old new result = (result ≡ Err errors.Failed) × IsAsBefore old new
TakesBy courses.StopsHalf whole old new result = (result ≡ Err errors.Failed) × IsChanged whole old new
TakesBy courses.StopsWhole whole old new result = (result ≡ Err errors.Failed) × IsChanged whole old new

-- the next call is a change that takes memory, which a stop may leave as this half of it
abbrev pub ChangesPart : (whole half : HostState → HostState) → HostInMemory → HostInMemory → Result (Unit {0}) HostError → Type 0
ChangesPart whole half old new result = ChangesBy (course_of old.calls) whole half old new result

-- the next call is one that a stop leaves whole or not at all
abbrev pub ChangesWhole : (whole : HostState → HostState) → HostInMemory → HostInMemory → Result (Unit {0}) HostError → Type 0
ChangesWhole whole old new result = ChangesPart whole whole old new result

-- the next call is a change that takes no memory
abbrev pub TakesWhole : (whole : HostState → HostState) → HostInMemory → HostInMemory → Result (Unit {0}) HostError → Type 0
TakesWhole whole old new result = TakesBy (course_of old.calls) whole old new result

-- the answer of a change that was tried, and whether it reports that it ran out of memory: a stopped call fails, and reports it
abbrev pub SettlesChange : {E : Type 0} → Course → Result (Unit {0}) E → Bool → Bool → Result (Unit {0}) HostError → Type 0
SettlesChange courses.Runs (Ok done) old new result = IsOk result × (new ≡ old)
SettlesChange courses.Runs (Err error) old new result = (result ≡ Err errors.Memory) × (new ≡ old)
SettlesChange courses.Fails (Ok done) old new result = (result ≡ Err errors.Failed) × (new ≡ old)
SettlesChange courses.Fails (Err error) old new result = (result ≡ Err errors.Failed) × (new ≡ true)
SettlesChange courses.StopsHalf (Ok done) old new result = (result ≡ Err errors.Failed) × (new ≡ old)
SettlesChange courses.StopsHalf (Err error) old new result = (result ≡ Err errors.Failed) × (new ≡ true)
SettlesChange courses.StopsWhole (Ok done) old new result = (result ≡ Err errors.Failed) × (new ≡ old)
SettlesChange courses.StopsWhole (Err error) old new result = (result ≡ Err errors.Failed) × (new ≡ true)

-- the answer of a change that takes no memory
abbrev pub answer_of : Course → Result (Unit {0}) HostError
answer_of courses.Runs = Ok tt
answer_of courses.Fails = Err errors.Failed
answer_of courses.StopsHalf = Err errors.Failed
answer_of courses.StopsWhole = Err errors.Failed
