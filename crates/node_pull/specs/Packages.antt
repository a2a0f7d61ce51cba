-- The packages of modules that a document's resources name, and how they come to a machine.
use Rattle.std.specs.Prelude.{◌≡◌, ◌⊎◌, ⊤, ℕ, ◌≤◌, Bool, true, false, not, ◌&&◌, List, [], ◌∷◌, ◌++◌, Option, Some, None, Result, Ok, Err, IfSome, IsTrue, All, Any, bytes_eq, codes, encode_utf8_all, filter_map, if◌then◌else◌}
use Rattle.std.specs.List.{list_any}
use Rattle.dsc_terms.specs.Counts.{Rose}
use Rattle.dsc_outside.specs.Host.{has_package}
use Rattle.dsc_outside.specs.declared.entries.Package.{Package}
use Rattle.mof_values.specs.Fold.{same_name}
use Rattle.mof_values.specs.Values.{text_named}
use Rattle.dsc_document.specs.declared.document.Document.{Document}
use Rattle.dsc_document.specs.declared.document.Resource.{Resource}
use Rattle.meta_config.specs.declared.server.Server.{Server}
use Rattle.meta_config.specs.Words.{is_name}
use Rattle.resource_kinds.specs.Packages.{AddsPackage}
use Rattle.pull_client.specs.Asks.{Asks}
use Rattle.pull_client.specs.declared.error.PeerError.{PeerError}
use Rattle.pull_client.specs.Content.{GivesBody}
use Rattle.pull_client.specs.Requests.{module_request}
use Rattle.node_pull.specs.declared.error.PullFault.{PullFault}
use Rattle.node_pull.specs.declared.error.PullFault.TheVariants.{Host, Memory}
use Rattle.node_pull.specs.declared.modules.Module.{Module}
use Rattle.node_pull.specs.Errors.{error_of}
use Rattle.dsc_outside.specs.Link.{LinkView}
use Rattle.node_pull.specs.Views.{Accepts, MadeSince}

-- ---- which packages

-- the module that every machine has
abbrev pub is_own : List ℕ → Bool
is_own name = same_name name (codes "PSDesiredStateConfiguration")

-- the module of a name and a version of 1 to 255 bytes of UTF-8, unless every machine has it
abbrev pub module_by : Option (List ℕ) → Option (List ℕ) → Option Module
module_by None version = None
module_by (Some name) None = None
module_by (Some name) (Some version) =
    if is_name name && (is_name version && not (is_own name)) then Some (record { name = name; version = version }) else None

-- the module that a resource names, by its ModuleName and ModuleVersion, where both are texts
abbrev pub module_of : Resource → Option Module
module_of resource = module_by (text_named (codes "ModuleName") resource.instance) (text_named (codes "ModuleVersion") resource.instance)

abbrev pub same_module : Module → Module → Bool
same_module a b = bytes_eq a.name b.name && bytes_eq a.version b.version

-- with the module, but where it is there
abbrev pub with_module : List Module → Module → List Module
with_module kept wanted = if list_any (same_module wanted) kept then kept else kept ++ wanted ∷ []

-- the modules that are kept, and each other one once
abbrev pub with_modules : List Module → List Module → List Module
with_modules kept [] = kept
with_modules kept (wanted ∷ modules) = with_modules (with_module kept wanted) modules

-- the modules that the document's resources name, in their order and each once
abbrev pub modules_of : Document → List Module
modules_of document = with_modules [] (filter_map module_of document.resources)

-- ---- how they come

-- whether the machine has the package of the module, where it shows its packages
abbrev pub Has : {S : Type 0} → (S → Option (List Package)) → S → Module → Bool → Type 0
Has packages state wanted there = IfSome (packages state) (λ list. there ≡ has_package list (encode_utf8_all wanted.name) (encode_utf8_all wanted.version))

abbrev pub SamePackages : {S : Type 0} → (S → Option (List Package)) → S → S → Type 0
SamePackages packages before after = packages after ≡ packages before

abbrev pub Adds : {S : Type 0} → (S → Option (List Package)) → Module → List ℕ → S → S → Type 0
Adds packages wanted body before after = AddsPackage (packages before) (packages after) (encode_utf8_all wanted.name) (encode_utf8_all wanted.version) body

abbrev pub AsksModule : Server → Module → LinkView → LinkView → Result (List ℕ) PeerError → Type 0
AsksModule server wanted before after result = Asks server (module_request server wanted.name wanted.version) GivesBody before after result

-- the package of one module: where the machine does not have it, it is fetched, and its accepted body is kept there
pub data OnePackage {S : Type 0} (packages : S → Option (List Package)) (faults : S → ℕ) (server : Server) (wanted : Module) : LinkView → LinkView → S → S → Result (Unit {0}) PullFault → Type 0 where
  is_there : (view : LinkView) (old new : S) → Has packages old wanted true → SamePackages packages old new
      → OnePackage packages faults server wanted view view old new (Ok tt)
  is_added : (before after : LinkView) (old looked new : S) (body : List ℕ)
      → Has packages old wanted false → SamePackages packages old looked → AsksModule server wanted before after (Ok body)
      → Adds packages wanted body looked new
      → OnePackage packages faults server wanted before after old new (Ok tt)
  not_looked : (view : LinkView) (old new : S) → Rose (faults old) (faults new) → SamePackages packages old new
      → OnePackage packages faults server wanted view view old new (Err Host)
  not_given : (before after : LinkView) (old new : S) (error : PeerError)
      → Has packages old wanted false → SamePackages packages old new → AsksModule server wanted before after (Err error)
      → OnePackage packages faults server wanted before after old new (Err (error_of error))
  not_added : (before after : LinkView) (old looked new : S) (body : List ℕ)
      → Has packages old wanted false → SamePackages packages old looked → AsksModule server wanted before after (Ok body)
      → faults old ≤ faults looked → Rose (faults looked) (faults new) → (SamePackages packages looked new ⊎ Adds packages wanted body looked new)
      → OnePackage packages faults server wanted before after old new (Err Host)
  no_memory : (view : LinkView) (old new : S) → SamePackages packages old new → OnePackage packages faults server wanted view view old new (Err Memory)
  no_memory_to_add : (before after : LinkView) (old looked new : S) (body : List ℕ)
      → Has packages old wanted false → SamePackages packages old looked → AsksModule server wanted before after (Ok body)
      → (SamePackages packages looked new ⊎ Adds packages wanted body looked new)
      → OnePackage packages faults server wanted before after old new (Err Memory)

-- that of each module, one after the other, up to the first that does not come; the machine's count of faults does not fall
pub data Packages {S : Type 0} (packages : S → Option (List Package)) (faults : S → ℕ) (server : Server) : List Module → LinkView → LinkView → S → S → Result (Unit {0}) PullFault → Type 0 where
  no_more : (view : LinkView) (state : S) → Packages packages faults server [] view view state state (Ok tt)
  one_more : (wanted : Module) (modules : List Module) (before mid after : LinkView) (old next new : S) (result : Result (Unit {0}) PullFault)
      → OnePackage packages faults server wanted before mid old next (Ok tt) → faults old ≤ faults next
      → Packages packages faults server modules mid after next new result
      → Packages packages faults server (wanted ∷ modules) before after old new result
  ended : (wanted : Module) (modules : List Module) (before after : LinkView) (old new : S) (error : PullFault)
      → OnePackage packages faults server wanted before after old new (Err error)
      → Packages packages faults server (wanted ∷ modules) before after old new (Err error)

-- ---- what was accepted

-- the package is that of the module, and the server was asked for it since and gave its bytes, accepted under the digest that was announced
-- for them
pub record WasGiven (server : Server) (before after : LinkView) (found : Package) (wanted : Module) : Type 0 where
  pub name : found.name ≡ encode_utf8_all wanted.name
  pub version : found.version ≡ encode_utf8_all wanted.version
  pub accepted : MadeSince (Accepts server (module_request server wanted.name wanted.version) GivesBody found.bytes) before after

-- none of the packages was there before it was added
abbrev pub AreLacking : List Package → List Package → Type 0
AreLacking there [] = ⊤
AreLacking there (found ∷ added) = (has_package there found.name found.version ≡ false) × AreLacking (there ++ found ∷ []) added

-- where the packages are shown, those that came stand after those that were there, none of them was there, and each was given for one of
-- the modules
abbrev pub AddsAccepted : Server → List Module → LinkView → LinkView → Option (List Package) → Option (List Package) → Type 0
AddsAccepted server modules before after None packages = packages ≡ None
AddsAccepted server modules before after (Some old) packages =
    (added : List Package) × (packages ≡ Some (old ++ added)) × AreLacking old added × All (λ found. Any (WasGiven server before after found) modules) added

-- where the packages are shown, that of each module is there
abbrev pub HasAll : List Module → Option (List Package) → Type 0
HasAll modules shown = IfSome shown (λ list. All (λ wanted. IsTrue (has_package list (encode_utf8_all wanted.name) (encode_utf8_all wanted.version))) modules)
