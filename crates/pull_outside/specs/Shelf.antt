-- What a shelf holds, and what a look for an item answers.
use Rattle.std.specs.Prelude.{◌≡◌, ℕ, ◌+◌, ◌≤◌, Bool, true, false, ◌&&◌, if◌then◌else◌, List, [], ◌∷◌, ◌++◌, length, bytes_eq, slice_get, Option, Some, None, option_map, Result, Ok, Err, ⊤}
use Rattle.std.specs.Io.{StartsWith}
use Rattle.dsc_outside.specs.declared.entries.Package.{Package}
use Rattle.pull_outside.specs.declared.shelf.ShelfError.{ShelfError}
use Rattle.pull_outside.specs.declared.shelf.TheConstants.{LONGEST_ITEM}
use Rattle.pull_outside.specs.declared.memory.contents.Configuration.{Configuration}

-- configurations by name, packages of modules by name and version, and keys in order; of several of one name the first counts
pub record Contents : Type 0 where
  pub configurations : List Configuration
  pub packages : List Package
  pub keys : List (List ℕ)

-- the content of the configuration of that name
abbrev pub content_named : List ℕ → List Configuration → Option (List ℕ)
content_named name [] = None
content_named name (item ∷ items) = if bytes_eq item.name name then Some item.content else content_named name items

-- the package of the module of that name and version
abbrev pub package_named : List ℕ → List ℕ → List Package → Option (List ℕ)
package_named name version [] = None
package_named name version (item ∷ items) =
    if bytes_eq item.name name && bytes_eq item.version version then Some item.bytes else package_named name version items

abbrev pub configuration_of : List ℕ → Contents → Option (List ℕ)
configuration_of name shelf = content_named name shelf.configurations

abbrev pub package_of : List ℕ → List ℕ → Contents → Option (List ℕ)
package_of name version shelf = package_named name version shelf.packages

abbrev pub key_of : ℕ → Contents → Option (List ℕ)
key_of index shelf = slice_get shelf.keys index

-- what a look for an item answers that is there, or is not
abbrev pub Gives : Option (List ℕ) → Bool → List ℕ → List ℕ → Type 0
Gives None there old new = (there ≡ false) × (new ≡ old)
Gives (Some item) there old new = (there ≡ true) × (new ≡ old ++ item) × (length item ≤ LONGEST_ITEM)

-- the same where the shelf shows what it holds; a call that failed says nothing of it
abbrev pub Finds : Option (Option (List ℕ)) → Result Bool ShelfError → List ℕ → List ℕ → Type 0
Finds None result old new = ⊤
Finds (Some item) (Ok there) old new = Gives item there old new
Finds (Some item) (Err error) old new = ⊤

-- a look for the configuration of that name
abbrev pub FindsConfiguration : List ℕ → Option Contents → Result Bool ShelfError → List ℕ → List ℕ → Type 0
FindsConfiguration name shelf = Finds (option_map (configuration_of name) shelf)

-- a look for the package of that name and version
abbrev pub FindsPackage : List ℕ → List ℕ → Option Contents → Result Bool ShelfError → List ℕ → List ℕ → Type 0
FindsPackage name version shelf = Finds (option_map (package_of name version) shelf)

-- a look for the key of that index
abbrev pub FindsKey : ℕ → Option Contents → Result Bool ShelfError → List ℕ → List ℕ → Type 0
FindsKey index shelf = Finds (option_map (key_of index) shelf)

-- the buffer after a look: as it was, with the item after it where there is one
abbrev pub Leaves : Result Bool ShelfError → List ℕ → List ℕ → Type 0
Leaves (Ok true) old new = StartsWith new old × (length new ≤ length old + LONGEST_ITEM)
Leaves (Ok false) old new = new ≡ old
Leaves (Err error) old new = new ≡ old
