-- Where a folder that is a shelf keeps what it holds. Names, folders and paths are their bytes in UTF-8.
use Rattle.std.specs.Prelude.{ℕ, List, ◌++◌, Bool, not, ◌==◌, ◌&&◌, codes}
use Rattle.std.specs.List.{list_any, starts_with}
use Rattle.std.specs.Path.{path_join}

-- a name that something on a shelf can have: it does not begin with a dot, and has no slash, no backslash and no NUL
abbrev pub is_shelf_name : List ℕ → Bool
is_shelf_name name = not (starts_with ◌==◌ name (codes ".")) && (not (list_any (λ b. b == 47) name) && (not (list_any (λ b. b == 92) name) && not (list_any (λ b. b == 0) name)))

-- the file of the configuration of that name
abbrev pub configuration_place : List ℕ → List ℕ → List ℕ
configuration_place folder name = path_join (path_join folder (codes "configurations")) (name ++ codes ".mof")

-- the file of the package of the module of that name and version
abbrev pub package_place : List ℕ → List ℕ → List ℕ → List ℕ
package_place folder name version = path_join (path_join folder (codes "modules")) (name ++ codes "_" ++ version ++ codes ".zip")

-- the file of the keys
abbrev pub keys_place : List ℕ → List ℕ
keys_place folder = path_join folder (codes "keys")
