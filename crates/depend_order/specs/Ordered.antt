-- A document together with what its order is.
use Rattle.std.specs.Prelude.{◌<◌, ◌^◌, length}
use Rattle.dsc_document.specs.Dependencies.{HasDistinctIds, NamesResources}
use Rattle.depend_order.specs.Documents.{AreDependencies, IsOrderOfDocument}
use Rattle.depend_order.specs.declared.ordered.OrderedDocument.{OrderedDocument}

-- ids differ, each dependency is a resource, and the order and the places are those of the document
pub record IsOrdered (ordered : OrderedDocument) : Type 0 where
  pub few : length ordered.document.resources < 2 ^ 32
  pub distinct : HasDistinctIds ordered.document
  pub known : NamesResources ordered.document
  pub order : IsOrderOfDocument ordered.document ordered.order
  pub depends : AreDependencies ordered.document ordered.depends
