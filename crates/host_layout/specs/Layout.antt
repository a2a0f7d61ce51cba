-- Where a folder that stands for a machine keeps what it holds. Names, folders and paths are their bytes in UTF-8.
use Rattle.std.specs.Prelude.{ℕ, List, [], ◌∷◌, ◌++◌, Bool, not, ◌==◌, ◌&&◌, codes}
use Rattle.std.specs.List.{list_all, list_any, slice_split, starts_with}
use Rattle.std.specs.Path.{path_join, path_with_file_name}
use Rattle.std.specs.Str.{bytes_eq}
use Rattle.hex.specs.Hex.{encode_upper}
use Rattle.sha2.specs.Sha256.{sha256}

-- the front of the names that are reserved for files that are being written
abbrev pub staging_name : List ℕ
staging_name = codes ".nimchout-staged"

abbrev pub is_staging_name : List ℕ → Bool
is_staging_name name = starts_with ◌==◌ name staging_name

-- a name that stays in the folder it is looked for in: neither empty, nor `.`, nor `..`, without a NUL, and not reserved
abbrev pub is_plain_name : List ℕ → Bool
is_plain_name name = not (bytes_eq name []) && (not (bytes_eq name (codes ".")) && (not (bytes_eq name (codes "..")) && (not (list_any (λ b. b == 0) name) && not (is_staging_name name))))

-- the same of what has no `/` in it
abbrev pub is_single_name : List ℕ → Bool
is_single_name name = is_plain_name name && not (list_any (λ b. b == 47) name)

-- each name of the path is plain
abbrev pub is_plain_path : List ℕ → Bool
is_plain_path path = list_all is_plain_name (slice_split (λ b. b == 47) path)

-- what stands for the path of the machine, below the host's folder as the places that follow
abbrev pub root_place : List ℕ → List ℕ
root_place path = path_join (codes "root") path

-- the file of the variable of that name
abbrev pub variable_place : List ℕ → List ℕ
variable_place name = path_join (codes "env") (encode_upper name)

-- two texts with a line feed between
abbrev pub two_lines : List ℕ → List ℕ → List ℕ
two_lines first second = first ++ 10 ∷ second

-- a text that is not one line, so that two of them with a line feed between may be those of another pair
abbrev pub has_line_feed : List ℕ → Bool
has_line_feed text = list_any (λ b. b == 10) text

-- the file of an entry of the log, which holds its id, a line feed, and its message
abbrev pub entry_place : List ℕ → List ℕ
entry_place entry = path_join (codes "log") (encode_upper (sha256 entry))

-- the file of a package
abbrev pub package_place : List ℕ → List ℕ → List ℕ
package_place name version = path_join (codes "packages") (encode_upper (sha256 (two_lines name version)))

-- the name under which a file with that mark is written before it takes its place
abbrev pub staged_name : List ℕ → List ℕ
staged_name mark = staging_name ++ 45 ∷ encode_upper mark

-- where it is written: beside its place
abbrev pub staging_place : List ℕ → List ℕ → List ℕ
staging_place place mark = path_with_file_name place (staged_name mark)
