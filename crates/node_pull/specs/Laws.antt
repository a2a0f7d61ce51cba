-- Laws of the definitions.
use Rattle.std.specs.Prelude.{ℕ, List, Option, Result, Ok}
use Rattle.meta_config.specs.declared.server.Server.{Server}
use Rattle.dsc_outside.specs.declared.entries.Package.{Package}
use Rattle.node_pull.specs.declared.error.PullFault.{PullFault}
use Rattle.node_pull.specs.declared.modules.Module.{Module}
use Rattle.node_pull.specs.Packages.{AddsAccepted, HasAll, Packages}
use Rattle.dsc_outside.specs.Link.{LinkView}

-- each package that a machine has after a pull and not before was given by the server for one of the modules
abbrev pub PackagesAreAccepted : {S : Type 0} → (S → Option (List Package)) → (S → ℕ) → Type 0
PackagesAreAccepted {S} packages faults =
    (server : Server) (modules : List Module) (before after : LinkView) (old new : S) (result : Result (Unit {0}) PullFault)
    → Packages packages faults server modules before after old new result
    → AddsAccepted server modules before after (packages old) (packages new)

-- and where they all came, the machine has that of each module
abbrev pub PackagesAreThere : {S : Type 0} → (S → Option (List Package)) → (S → ℕ) → Type 0
PackagesAreThere {S} packages faults =
    (server : Server) (modules : List Module) (before after : LinkView) (old new : S)
    → Packages packages faults server modules before after old new (Ok tt)
    → HasAll modules (packages new)
