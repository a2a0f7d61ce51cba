-- What stands at the paths of a machine. A path is names joined by `/`, none in front; it is shown as its bytes in UTF-8.
use Rattle.std.specs.Prelude.{◌≡◌, ℕ, List, [], ◌∷◌, ◌++◌, Bool, true, false, ◌==◌, ◌&&◌, ◌||◌, if◌then◌else◌}
use Rattle.std.specs.Str.{bytes_eq}
use Rattle.dsc_outside.specs.declared.host.PathState.{PathState}
use Rattle.dsc_outside.specs.declared.host.PathState.TheVariants as states

pub data PathKind : Type 0 where
  Nothing : PathKind
  -- with these bytes
  File : List ℕ → PathKind
  Folder : PathKind
  -- neither of them, as a link
  Other : PathKind

-- the path, a `/`, and something after it
abbrev pub IsBelow : List ℕ → List ℕ → Type 0
IsBelow path other = (rest : List ℕ) × (other ≡ path ++ 47 ∷ rest)

-- the same as a test
abbrev pub is_below : List ℕ → List ℕ → Bool
is_below path [] = false
is_below [] (c ∷ cs) = c == 47
is_below (p ∷ ps) (c ∷ cs) = (p == c) && is_below ps cs

-- the path, or what is below it
abbrev pub is_within : List ℕ → List ℕ → Bool
is_within path other = bytes_eq path other || is_below path other

abbrev pub is_nothing : PathKind → Bool
is_nothing Nothing = true
is_nothing (File bytes) = false
is_nothing Folder = false
is_nothing Other = false

-- a folder where there was nothing
abbrev pub filled : PathKind → PathKind
filled Nothing = Folder
filled (File bytes) = File bytes
filled Folder = Folder
filled Other = Other

-- the folders above the path, of which the missing ones are made
abbrev pub with_folders_above : List ℕ → (List ℕ → PathKind) → List ℕ → PathKind
with_folders_above path paths other = if is_below other path then filled (paths other) else paths other

-- the file alone at the path, whatever was there
abbrev pub file_put : List ℕ → List ℕ → (List ℕ → PathKind) → List ℕ → PathKind
file_put path bytes paths other = if bytes_eq path other then File bytes else if is_below path other then Nothing else with_folders_above path paths other

-- a folder at the path, with all that is below it
abbrev pub folder_made : List ℕ → (List ℕ → PathKind) → List ℕ → PathKind
folder_made path paths other = if bytes_eq path other then Folder else with_folders_above path paths other

-- nothing at the path, and nothing below it
abbrev pub removed : List ℕ → (List ℕ → PathKind) → List ℕ → PathKind
removed path paths other = if is_within path other then Nothing else paths other

-- nothing is below the path
abbrev pub IsEmpty : (List ℕ → PathKind) → List ℕ → Type 0
IsEmpty paths path = (other : List ℕ) → IsBelow path other → paths other ≡ Nothing

-- something is below the path
abbrev pub IsInhabited : (List ℕ → PathKind) → List ℕ → Type 0
IsInhabited paths path = (other : List ℕ) × IsBelow path other × (paths other ≡ Nothing → ⊥)

-- what a look at the path answers
abbrev pub IsStateAt : (List ℕ → PathKind) → List ℕ → PathState → Type 0
IsStateAt paths path states.Nothing = paths path ≡ Nothing
IsStateAt paths path states.File = (bytes : List ℕ) × (paths path ≡ File bytes)
IsStateAt paths path states.EmptyFolder = (paths path ≡ Folder) × IsEmpty paths path
IsStateAt paths path states.Folder = (paths path ≡ Folder) × IsInhabited paths path
IsStateAt paths path states.Other = paths path ≡ Other

-- a file with exactly these bytes
abbrev pub is_file_of : PathKind → List ℕ → Bool
is_file_of Nothing bytes = false
is_file_of (File held) bytes = bytes_eq held bytes
is_file_of Folder bytes = false
is_file_of Other bytes = false
