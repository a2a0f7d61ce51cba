-- When what a resource asks for holds on a machine, what a Set makes of the machine, and what is in its way.
use Rattle.std.specs.Prelude.{◌≡◌, ◌⊎◌, ◌↔◌, ℕ, ⊤, Bool, false, IsTrue, List, [], Option, Some, None, Result, unwrap_or}
use Rattle.dsc_outside.specs.Host.{HostState, Tells, has_entry}
use Rattle.dsc_outside.specs.Changes.{AllOrNothing, ChangedPath, ChangedVariable, Does, with_entry, with_file, with_folder, with_variable, without_path, without_variable}
use Rattle.dsc_outside.specs.Paths.{PathKind, Nothing, File, Folder, Other, IsBelow, IsInhabited}
use Rattle.resource_kinds.specs.declared.wanted.Wanted.{Wanted}
use Rattle.resource_kinds.specs.declared.wanted.Wanted.TheVariants as wants
use Rattle.resource_kinds.specs.Entries.{HasEntries, LacksEntries, with_entries, without_entries}

-- ---- holding

abbrev pub IsFile : PathKind → Type 0
IsFile kind = (bytes : List ℕ) × (kind ≡ File bytes)

abbrev pub Holds : HostState → Wanted → Type 0
Holds host (wants.File path None) = IsFile (host.path path)
Holds host (wants.File path (Some contents)) = host.path path ≡ File contents
Holds host (wants.Folder path) = host.path path ≡ Folder
Holds host (wants.NoFile path) = host.path path ≡ Nothing
Holds host (wants.NoFolder path forced) = host.path path ≡ Nothing
Holds host (wants.Variable name value) = host.variable name ≡ Some value
Holds host (wants.Entries name value) = HasEntries (host.variable name) value
Holds host (wants.NoVariable name) = host.variable name ≡ None
Holds host (wants.NoEntries name value) = LacksEntries (host.variable name) value
Holds host (wants.Logged id message) = IsTrue (has_entry host.log id message)

-- the answer is yes exactly where what is asked for holds, where the host shows what it holds
abbrev pub TestsHolding : {E : Type 0} → Wanted → Option HostState → Result Bool E → Type 0
TestsHolding wanted shown result = Tells shown result (λ host yes. IsTrue yes ↔ Holds host wanted)

-- ---- setting

-- the variable is this, or is not there
abbrev pub with_value : List ℕ → Option (List ℕ) → HostState → HostState
with_value name None host = without_variable name host
with_value name (Some value) host = with_variable name value host

-- the machine once it was set; a file without contents is an empty one
abbrev pub applied : Wanted → HostState → HostState
applied (wants.File path contents) host = with_file path (unwrap_or contents []) host
applied (wants.Folder path) host = with_folder path host
applied (wants.NoFile path) host = without_path path host
applied (wants.NoFolder path forced) host = without_path path host
applied (wants.Variable name value) host = with_variable name value host
applied (wants.Entries name value) host = with_value name (with_entries (host.variable name) value) host
applied (wants.NoVariable name) host = without_variable name host
applied (wants.NoEntries name value) host = with_value name (without_entries (host.variable name) value) host
applied (wants.Logged id message) host = with_entry id message host

-- what a Set that failed may leave: anything at its own path or variable, and its entry of the log whole or not at all
abbrev pub ChangedTarget : Wanted → HostState → HostState → Type 0
ChangedTarget (wants.File path contents) old new = ChangedPath path old new
ChangedTarget (wants.Folder path) old new = ChangedPath path old new
ChangedTarget (wants.NoFile path) old new = ChangedPath path old new
ChangedTarget (wants.NoFolder path forced) old new = ChangedPath path old new
ChangedTarget (wants.Variable name value) old new = ChangedVariable name old new
ChangedTarget (wants.Entries name value) old new = ChangedVariable name old new
ChangedTarget (wants.NoVariable name) old new = ChangedVariable name old new
ChangedTarget (wants.NoEntries name value) old new = ChangedVariable name old new
ChangedTarget (wants.Logged id message) old new = AllOrNothing (with_entry id message) old new

-- where the host shows what it holds, the call set what is asked for; where it answered an error, it did at most a part of it
abbrev pub Applies : {A E : Type 0} → Wanted → Option HostState → Option HostState → Result A E → Type 0
Applies wanted old new result = Does old new result (applied wanted) (ChangedTarget wanted)

-- ---- what is in the way

-- where a folder should stand: a file, or something else
abbrev pub BarsFolder : PathKind → Type 0
BarsFolder Nothing = ⊥
BarsFolder (File bytes) = ⊤
BarsFolder Folder = ⊥
BarsFolder Other = ⊤

-- where a file should stand: a folder, or something else
abbrev pub BarsFile : PathKind → Type 0
BarsFile Nothing = ⊥
BarsFile (File bytes) = ⊥
BarsFile Folder = ⊤
BarsFile Other = ⊤

-- above the path something stands that is no folder
abbrev pub IsBarred : (List ℕ → PathKind) → List ℕ → Type 0
IsBarred paths path = (above : List ℕ) × IsBelow above path × BarsFolder (paths above)

-- a folder with something in it, which is not to go by force
abbrev pub IsKeptFolder : (List ℕ → PathKind) → List ℕ → Bool → Type 0
IsKeptFolder paths path forced = (forced ≡ false) × (paths path ≡ Folder) × IsInhabited paths path

-- what is asked for is to stand at a path, or not to
abbrev pub AsksPath : Wanted → Type 0
AsksPath (wants.File path contents) = ⊤
AsksPath (wants.Folder path) = ⊤
AsksPath (wants.NoFile path) = ⊤
AsksPath (wants.NoFolder path forced) = ⊤
AsksPath (wants.Variable name value) = ⊥
AsksPath (wants.Entries name value) = ⊥
AsksPath (wants.NoVariable name) = ⊥
AsksPath (wants.NoEntries name value) = ⊥
AsksPath (wants.Logged id message) = ⊥

abbrev pub InTheWay : HostState → Wanted → Type 0
InTheWay host (wants.File path contents) = IsBarred host.path path ⊎ BarsFile (host.path path)
InTheWay host (wants.Folder path) = IsBarred host.path path ⊎ BarsFolder (host.path path)
InTheWay host (wants.NoFile path) = IsBarred host.path path ⊎ BarsFile (host.path path)
InTheWay host (wants.NoFolder path forced) = IsBarred host.path path ⊎ (BarsFolder (host.path path) ⊎ IsKeptFolder host.path path forced)
InTheWay host (wants.Variable name value) = ⊥
InTheWay host (wants.Entries name value) = ⊥
InTheWay host (wants.NoVariable name) = ⊥
InTheWay host (wants.NoEntries name value) = ⊥
InTheWay host (wants.Logged id message) = ⊥

-- the answer is yes exactly where something is in the way, where the host shows what it holds
abbrev pub TestsInTheWay : {E : Type 0} → Wanted → Option HostState → Result Bool E → Type 0
TestsInTheWay wanted shown result = Tells shown result (λ host yes. IsTrue yes ↔ InTheWay host wanted)
