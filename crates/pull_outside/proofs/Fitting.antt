-- What is found on a shelf of items that are not too long is not too long.
use Rattle.std.proofs.Common.{ℕ, Bool, true, false, List, [], ◌∷◌, bytes_eq, ◌&&◌, if◌then◌else◌, Option, Some}
use Rattle.dsc_outside.specs.declared.entries.Package.{Package}
use Rattle.pull_outside.specs.declared.memory.contents.Configuration.{Configuration}
use Rattle.pull_outside.specs.ReliableShelf.{FitsConfigurations, FitsFound, FitsItem, FitsPackages}
use Rattle.pull_outside.specs.Shelf.{content_named, package_named}

-- the first item or one of the others
chosen_fits : (is : Bool) (first : List ℕ) (other : Option (List ℕ)) → FitsItem first → FitsFound other → FitsFound (if is then Some first else other)
chosen_fits true first other fits rest = fits
chosen_fits false first other fits rest = rest

pub content_fits : (name : List ℕ) (items : List Configuration) → FitsConfigurations items → FitsFound (content_named name items)
content_fits name [] fits = fits
content_fits name (item ∷ items) fits =
    chosen_fits (bytes_eq item.name name) item.content (content_named name items) fits.0 (content_fits name items fits.1)

pub package_fits : (name version : List ℕ) (items : List Package) → FitsPackages items → FitsFound (package_named name version items)
package_fits name version [] fits = fits
package_fits name version (item ∷ items) fits =
    chosen_fits (bytes_eq item.name name && bytes_eq item.version version) item.bytes (package_named name version items) fits.0
    (package_fits name version items fits.1)
