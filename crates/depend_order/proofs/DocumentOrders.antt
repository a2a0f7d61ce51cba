-- The places of the order of a document.
use Rattle.std.proofs.Common.{◌<◌, ◌≤◌, ℕ, List, length, All}
use Rattle.dsc_document.specs.declared.document.Document.{Document}
use Rattle.dsc_document.specs.Dependencies.{IsDependency}
use Rattle.depend_order.specs.Documents.{IsOrderOfDocument}
use Rattle.depend_order.proofs.Orders.{earliest_below, earliest_count}

module _ (document : Document) (order : List ℕ) (is : IsOrderOfDocument document order) where
  -- the places of the order are places of the document
  pub order_below : All (λ r. r < length document.resources) order
  order_below = earliest_below (length document.resources) (IsDependency document) order is.earliest

  -- it has no more places than the document
  pub order_count : length order ≤ length document.resources
  order_count = earliest_count (length document.resources) (IsDependency document) order is.earliest
