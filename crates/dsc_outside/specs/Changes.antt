-- What the calls of a host make of what it holds.
use Rattle.std.specs.Prelude.{◌≡◌, ◌⊎◌, ℕ, List, [], ◌∷◌, ◌++◌, true, false, Option, Some, None, Result, Ok, Err}
use Rattle.std.specs.Map.{update}
use Rattle.std.specs.Str.{bytes_eq}
use Rattle.dsc_outside.specs.Host.{HostState}
use Rattle.dsc_outside.specs.Paths.{Nothing, Folder, is_below, is_within, file_put, folder_made, removed}

-- the file alone at the path, and the folders above it that were missing
abbrev pub with_file : List ℕ → List ℕ → HostState → HostState
with_file path bytes host = record host { path = file_put path bytes host.path }

-- a folder at the path, and the folders above it that were missing
abbrev pub with_folder : List ℕ → HostState → HostState
with_folder path host = record host { path = folder_made path host.path }

-- nothing at the path, and nothing below it
abbrev pub without_path : List ℕ → HostState → HostState
without_path path host = record host { path = removed path host.path }

abbrev pub with_variable : List ℕ → List ℕ → HostState → HostState
with_variable name value host = record host { variable = update bytes_eq host.variable name (Some value) }

abbrev pub without_variable : List ℕ → HostState → HostState
without_variable name host = record host { variable = update bytes_eq host.variable name None }

-- one more entry in the log
abbrev pub with_entry : List ℕ → List ℕ → HostState → HostState
with_entry id message host = record host { log = host.log ++ record { id = id; message = message } ∷ [] }

-- one more package
abbrev pub with_package : List ℕ → List ℕ → List ℕ → HostState → HostState
with_package name version bytes host = record host { packages = host.packages ++ record { name = name; version = version; bytes = bytes } ∷ [] }

-- anything at the path and below it, maybe folders above it where they were missing, and no other change
pub record ChangedPath (path : List ℕ) (old new : HostState) : Type 0 where
  pub elsewhere : (other : List ℕ) → is_within path other ≡ false → is_below other path ≡ false → new.path other ≡ old.path other
  pub above : (other : List ℕ) → is_below other path ≡ true → (new.path other ≡ old.path other) ⊎ ((old.path other ≡ Nothing) × (new.path other ≡ Folder))
  pub nothing_else : new ≡ record old { path = new.path }

-- anything at the variable, and no other change
pub record ChangedVariable (name : List ℕ) (old new : HostState) : Type 0 where
  pub others : (other : List ℕ) → bytes_eq name other ≡ false → new.variable other ≡ old.variable other
  pub nothing_else : new ≡ record old { variable = new.variable }

-- the whole change or none of it
abbrev pub AllOrNothing : (HostState → HostState) → HostState → HostState → Type 0
AllOrNothing done old new = (new ≡ old) ⊎ (new ≡ done old)

-- where the host shows what it holds, the call did this to it; where it answered an error, it did at most that part
abbrev pub Does : {A E : Type 0} → Option HostState → Option HostState → Result A E → (HostState → HostState) → (HostState → HostState → Type 0) → Type 0
Does None new result done part = new ≡ None
Does (Some old) new (Ok answer) done part = new ≡ Some (done old)
Does (Some old) new (Err error) done part = (state : HostState) × (new ≡ Some state) × part old state

-- what each call that changes the machine does, from what the host shows before it and after it, and from its answer
abbrev pub PutsFile : {A E : Type 0} → List ℕ → List ℕ → Option HostState → Option HostState → Result A E → Type 0
PutsFile path bytes old new result = Does old new result (with_file path bytes) (ChangedPath path)

abbrev pub MakesFolder : {A E : Type 0} → List ℕ → Option HostState → Option HostState → Result A E → Type 0
MakesFolder path old new result = Does old new result (with_folder path) (ChangedPath path)

abbrev pub RemovesPath : {A E : Type 0} → List ℕ → Option HostState → Option HostState → Result A E → Type 0
RemovesPath path old new result = Does old new result (without_path path) (ChangedPath path)

abbrev pub PutsVariable : {A E : Type 0} → List ℕ → List ℕ → Option HostState → Option HostState → Result A E → Type 0
PutsVariable name value old new result = Does old new result (with_variable name value) (ChangedVariable name)

abbrev pub RemovesVariable : {A E : Type 0} → List ℕ → Option HostState → Option HostState → Result A E → Type 0
RemovesVariable name old new result = Does old new result (without_variable name) (ChangedVariable name)

abbrev pub AddsEntry : {A E : Type 0} → List ℕ → List ℕ → Option HostState → Option HostState → Result A E → Type 0
AddsEntry id message old new result = Does old new result (with_entry id message) (AllOrNothing (with_entry id message))

abbrev pub PutsPackage : {A E : Type 0} → List ℕ → List ℕ → List ℕ → Option HostState → Option HostState → Result A E → Type 0
PutsPackage name version bytes old new result =
    Does old new result (with_package name version bytes) (AllOrNothing (with_package name version bytes))
