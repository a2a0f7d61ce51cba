-- What path a text means as the destination of a file. A path is some names, joined by `/`, below the root of the machine.
use Rattle.std.specs.Prelude.{◌≡◌, ◌≢◌, ◌<◌, ℕ, Bool, true, false, not, ◌&&◌, ◌||◌, ◌==◌, if◌then◌else◌, List, [], ◌∷◌, ◌++◌, length, filter, Option, Some, None, option_map, option_and_then, codes, encode_utf8_all}
use Rattle.std.specs.Char.{is_ascii_alphabetic, to_ascii_uppercase}
use Rattle.std.specs.List.{All, slice_split, join_with_byte, list_any}
use Rattle.std.specs.Str.{bytes_eq}
use Rattle.resource_kinds.specs.declared.paths.PathText.{PathText}

-- ---- segments

-- `/` or `\`
abbrev pub is_separator : ℕ → Bool
is_separator c = (c == 47) || (c == 92)

-- the text divided at its separators
abbrev pub segments : List ℕ → List (List ℕ)
segments text = slice_split is_separator text

-- neither empty nor `.`
abbrev pub is_kept : List ℕ → Bool
is_kept segment = not (bytes_eq segment [] || bytes_eq segment (codes "."))

abbrev pub kept_segments : List (List ℕ) → List (List ℕ)
kept_segments all = filter is_kept all

-- `..`
abbrev pub is_parent : List ℕ → Bool
is_parent segment = bytes_eq segment (codes "..")

-- ---- forms

-- the end of the text, or a separator and what is after it
abbrev pub ends_drive : List ℕ → Bool
ends_drive [] = true
ends_drive (c ∷ cs) = is_separator c

-- a letter, `:`, then a separator or the end: the letter in upper case is the first segment
abbrev pub on_drive : ℕ → List ℕ → Option (List (List ℕ))
on_drive letter [] = None
on_drive letter (colon ∷ rest) =
    if (is_ascii_alphabetic letter && colon == 58) && ends_drive rest then Some ((to_ascii_uppercase letter ∷ []) ∷ segments rest) else None

-- all segments of a path text: on a drive, or after a first `/`
abbrev pub rooted : List ℕ → Option (List (List ℕ))
rooted [] = None
rooted (c ∷ cs) = if c == 47 then Some (segments cs) else on_drive c cs

-- ---- paths

-- some segments
abbrev pub if_filled : List (List ℕ) → Option (List (List ℕ))
if_filled [] = None
if_filled (name ∷ names) = Some (name ∷ names)

-- the names that segments mean: those that are kept, of which there are some, where none is `..`
abbrev pub names_of : List (List ℕ) → Option (List (List ℕ))
names_of all = if list_any is_parent all then None else if_filled (kept_segments all)

-- the names on the path that a text means; one with a NUL means none
abbrev pub path_segments : List ℕ → Option (List (List ℕ))
path_segments text = if list_any (λ c. c == 0) text then None else option_and_then names_of (rooted text)

-- the names with `/` between, in UTF-8
abbrev pub joined_path : List (List ℕ) → List ℕ
joined_path names = encode_utf8_all (join_with_byte 47 names)

-- the path that a text means
abbrev pub path_of : List ℕ → Option (List ℕ)
path_of text = option_map joined_path (path_segments text)

-- ---- the code

-- the drive's letter as a segment
abbrev pub drive_segments : Option ℕ → List (List ℕ)
drive_segments None = []
drive_segments (Some letter) = (letter ∷ []) ∷ []

-- all segments of a text that was taken apart
abbrev pub all_segments : PathText → List (List ℕ)
all_segments parts = drive_segments parts.drive ++ segments parts.rest.now

-- a path that is not empty, with `/` after it
abbrev pub separated : List ℕ → List ℕ
separated [] = []
separated (b ∷ bs) = (b ∷ bs) ++ 47 ∷ []

-- one more name after a path
abbrev pub put : List ℕ → List ℕ → List ℕ
put path name = separated path ++ encode_utf8_all name

-- ---- what a path is to a host

-- a name in a folder: not empty, neither `.` nor `..`, with no separator and no NUL in it
pub record IsName (name : List ℕ) : Type 0 where
  pub filled : 0 < length name
  pub here : name ≢ codes "."
  pub up : name ≢ codes ".."
  pub whole : All (λ c. is_separator c ≡ false) name
  pub no_nul : All (λ c. c ≢ 0) name

-- one name or more, with `/` between, in UTF-8
pub record IsHostPath (path : List ℕ) : Type 0 where
  pub names : List (List ℕ)
  pub some : 0 < length names
  pub each : All IsName names
  pub joined : path ≡ joined_path names
