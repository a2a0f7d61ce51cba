-- Partial configurations: how a node comes to the part of each, and their order by the names in their own DependsOn. Names compare by fold.
use Rattle.std.specs.Prelude.{◌≡◌, ◌⊎◌, ℕ, Bool, true, false, List, Option, Any, IsSomeAnd, find, length, slice_get, unwrap_or}
use Rattle.std.specs.List.{AllZip}
use Rattle.std.specs.Global.{Vec}
use Rattle.mof_values.specs.Fold.{SameName, same_name}
use Rattle.depend_order.specs.Cycle.{DependsOn, IsCycle}
use Rattle.depend_order.specs.Order.{IsOrder}
use Rattle.meta_config.specs.declared.meta.Meta.{Meta}
use Rattle.meta_config.specs.declared.meta.Partial.{Partial}
use Rattle.meta_config.specs.declared.modes.RefreshMode.{RefreshMode}
use Rattle.meta_config.specs.declared.modes.RefreshMode.TheVariants.{Push, Pull, Disabled}
use Rattle.meta_config.specs.Making.{usual}
use Rattle.meta_config.specs.Refusals.{Means}

-- some bytes declare the meta-configuration, or it is the usual one
abbrev pub IsMeta : Meta → Type 0
IsMeta meta = ((bytes : List ℕ) × Means bytes meta) ⊎ (meta ≡ usual)

-- ---- how a node comes to a part

-- the mode of a partial configuration: its own, or else that of the meta-configuration
abbrev pub mode_in : Meta → Partial → RefreshMode
mode_in meta partial = unwrap_or partial.refresh meta.refresh

abbrev pub is_pull : RefreshMode → Bool
is_pull Push = false
is_pull Pull = true
is_pull Disabled = false

-- its mode is Pull
abbrev pub is_pulled : Meta → Partial → Bool
is_pulled meta partial = is_pull (mode_in meta partial)

-- the first partial configuration that has the name
abbrev pub partial_named : List Partial → List ℕ → Option Partial
partial_named partials name = find (λ partial. same_name name partial.name) partials

-- ---- their order

-- the name is by fold that of the partial configuration at place q
abbrev pub MeansPart : List Partial → List ℕ → ℕ → Type 0
MeansPart partials name q = IsSomeAnd (slice_get partials q) (λ partial. SameName name partial.name)

-- the k-th name in the DependsOn of the partial configuration at place r means q
abbrev pub NamesPart : Meta → ℕ → ℕ → ℕ → Type 0
NamesPart meta r k q =
    IsSomeAnd (slice_get meta.partials r) (λ partial.
    IsSomeAnd (slice_get partial.depends k) (λ name. MeansPart meta.partials name q))

abbrev pub IsOrderOfParts : Meta → List ℕ → Type 0
IsOrderOfParts meta order = IsOrder (length meta.partials) (DependsOn (NamesPart meta)) order

abbrev pub IsCycleOfParts : Meta → List ℕ → Type 0
IsCycleOfParts meta cycle = IsCycle (length meta.partials) (NamesPart meta) cycle

-- the partial configurations have an order
abbrev pub HasPartsOrder : Meta → Type 0
HasPartsOrder meta = (order : List ℕ) × IsOrderOfParts meta order

-- a partial configuration has the name, by fold
abbrev pub IsPartName : List Partial → List ℕ → Type 0
IsPartName partials name = Any (λ partial. SameName name partial.name) partials

-- the k-th number for a partial configuration is the place that the k-th name in its DependsOn means
abbrev pub AreResolvedParts : List Partial → List Partial → List (Vec ℕ) → Type 0
AreResolvedParts all partials depends =
    AllZip (λ partial places. AllZip (MeansPart all) partial.depends places.items) partials depends
