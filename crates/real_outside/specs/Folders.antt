-- What is looked up in a folder and in its files. Names, folders and texts are their bytes in UTF-8.
use Rattle.std.specs.Prelude.{ℕ, List, [], ◌∷◌, ◌++◌, Bool, not, ◌==◌, ◌||◌, codes}
use Rattle.std.specs.List.{list_any, slice_split}
use Rattle.std.specs.Str.{bytes_eq}
use Rattle.dsc_outside.specs.Host.{wants_reboot}
use Rattle.host_layout.specs.Layout.{is_staging_name}

-- a name in a folder that is held open, of which the path is that of its descriptor
abbrev pub held_place : List ℕ → List ℕ → List ℕ
held_place folder name = folder ++ 47 ∷ name

-- one of the lines is the id
abbrev pub has_line : List ℕ → List ℕ → Bool
has_line text id = wants_reboot (slice_split (λ b. b == 10) text) id

-- the name of something in a folder: neither empty, nor that of the folder itself, nor that of the one above, nor reserved
abbrev pub is_entry_name : List ℕ → Bool
is_entry_name name = not (((bytes_eq name [] || bytes_eq name (codes ".")) || bytes_eq name (codes "..")) || is_staging_name name)

-- one of the names, each with a NUL after it, is that of something in the folder
abbrev pub has_entry_name : List ℕ → Bool
has_entry_name names = list_any is_entry_name (slice_split (λ b. b == 0) names)

-- the seconds after which a change of a file is one of before the host was begun, also where the clock of a file system is late
abbrev pub settled_after : ℕ
settled_after = 10
