-- Orders and cycles of the resources of a document.
use Rattle.std.specs.Prelude.{◌≡◌, ◌↔◌, ◌+◌, ◌*◌, ℕ, List, length}
use Rattle.std.specs.List.{sum_by}
use Rattle.std.specs.Global.{Vec}
use Rattle.dsc_document.specs.declared.document.Document.{Document}
use Rattle.dsc_document.specs.declared.document.Resource.{Resource}
use Rattle.dsc_document.specs.Dependencies.{IsDependency, Names}
use Rattle.depend_order.specs.Cycle.{IsCycle}
use Rattle.depend_order.specs.Numbers.{AreBelow, Lists}
use Rattle.depend_order.specs.Order.{IsOrder}

-- how many names the resources list in all
abbrev pub names_in : List Resource → ℕ
names_in resources = sum_by (λ resource. length resource.depends) resources

abbrev pub IsOrderOfDocument : Document → List ℕ → Type 0
IsOrderOfDocument document order = IsOrder (length document.resources) (IsDependency document) order

abbrev pub IsCycleOfDocument : Document → List ℕ → Type 0
IsCycleOfDocument document cycle = IsCycle (length document.resources) (Names document) cycle

-- no list of all resources is their order
abbrev pub IsUnordered : Document → Type 0
IsUnordered document = (order : List ℕ) → IsOrderOfDocument document order → ⊥

-- the most steps in which the names in each DependsOn are found, and those in which an order is
abbrev pub steps_of_names : Document → ℕ
steps_of_names document = length document.resources + names_in document.resources

abbrev pub steps_of_order : Document → ℕ
steps_of_order document = 3 * length document.resources + 2 * names_in document.resources

-- for each resource the places that the names in its DependsOn mean, in their order
pub record AreDependencies (document : Document) (depends : List (Vec ℕ)) : Type 0 where
  pub count : length depends ≡ length document.resources
  pub below : AreBelow (length depends) depends
  pub listed : (r k q : ℕ) → Lists depends r k q ↔ Names document r k q
