-- A shelf in memory none of whose calls fails.
use Rattle.std.specs.Prelude.{ℕ, ◌≤◌, List, [], ◌∷◌, ◌++◌, length, Option, Some, None, ⊤}
use Rattle.std.specs.List.{AllByRecursion}
use Rattle.dsc_outside.specs.declared.entries.Package.{Package}
use Rattle.pull_outside.specs.declared.shelf.TheConstants.{LONGEST_ITEM}
use Rattle.pull_outside.specs.declared.memory.contents.Configuration.{Configuration}
use Rattle.pull_outside.specs.Shelf.{Contents}

-- an item that is not too long
abbrev pub FitsItem : List ℕ → Type 0
FitsItem item = length item ≤ LONGEST_ITEM

abbrev pub FitsFound : Option (List ℕ) → Type 0
FitsFound None = ⊤
FitsFound (Some item) = FitsItem item

abbrev pub FitsConfigurations : List Configuration → Type 0
FitsConfigurations items = AllByRecursion (λ item. FitsItem item.content) items

abbrev pub FitsPackages : List Package → Type 0
FitsPackages items = AllByRecursion (λ item. FitsItem item.bytes) items

abbrev pub FitsKeys : List (List ℕ) → Type 0
FitsKeys keys = AllByRecursion FitsItem keys

-- a shelf on which nothing stands
abbrev pub empty_shelf : Contents
empty_shelf = record { configurations = []; packages = []; keys = [] }

abbrev pub configuration : List ℕ → List ℕ → Configuration
configuration name content = record { name = name; content = content }

-- with this configuration before the others, so that it counts of its name
abbrev pub with_configuration : List ℕ → List ℕ → Contents → Contents
with_configuration name content shelf = record shelf { configurations = configuration name content ∷ shelf.configurations }

-- with this package before the others, so that it counts of its name and version
abbrev pub with_package : Package → Contents → Contents
with_package added shelf = record shelf { packages = added ∷ shelf.packages }

-- with this key behind the others
abbrev pub with_key : List ℕ → Contents → Contents
with_key key shelf = record shelf { keys = shelf.keys ++ key ∷ [] }
