-- The packages of a machine.
use Rattle.std.specs.Prelude.{◌≡◌, ◌⊎◌, ℕ, Bool, List, [], ◌∷◌, ◌++◌, Option, Some, None, Result, IfOk, IfSome, option_map}
use Rattle.dsc_outside.specs.Host.{HostState, has_package}
use Rattle.dsc_outside.specs.declared.entries.Package.{Package}

-- those of a host that shows what it holds
abbrev pub packages_of : Option HostState → Option (List Package)
packages_of shown = option_map (λ host. host.packages) shown

-- where the packages are shown, the answer is whether one of that name and version is among them
abbrev pub TellsPackage : {E : Type 0} → Option (List Package) → List ℕ → List ℕ → Result Bool E → Type 0
TellsPackage packages name version result = IfSome packages (λ list. IfOk result (λ there. there ≡ has_package list name version))

-- where the packages are shown, there is one more, the last
abbrev pub AddsPackage : Option (List Package) → Option (List Package) → List ℕ → List ℕ → List ℕ → Type 0
AddsPackage None after name version bytes = after ≡ None
AddsPackage (Some before) after name version bytes = after ≡ Some (before ++ record { name = name; version = version; bytes = bytes } ∷ [])

-- that, or the packages are as they were
abbrev pub AddsAtMost : Option (List Package) → Option (List Package) → List ℕ → List ℕ → List ℕ → Type 0
AddsAtMost before after name version bytes = (after ≡ before) ⊎ AddsPackage before after name version bytes

-- where the host shows what it holds, nothing has changed but its packages
abbrev pub ChangesPackages : Option HostState → Option HostState → Type 0
ChangesPackages None after = after ≡ None
ChangesPackages (Some before) after = (state : HostState) × (after ≡ Some state) × (state ≡ record before { packages = state.packages })
