-- The document that parts are merged to.
use Rattle.std.specs.Prelude.{ℕ, List}
use Rattle.dsc_document.specs.declared.document.Document.{Document}
use Rattle.dsc_document.specs.Dependencies.{NamesResources}
use Rattle.dsc_document.specs.Sizes.{DocumentInSize}
use Rattle.depend_order.specs.declared.ordered.OrderedDocument.{OrderedDocument}
use Rattle.depend_order.specs.Documents.{IsOrderOfDocument}
use Rattle.depend_order.specs.Ordered.{IsOrdered}
use Rattle.partial_merge.specs.declared.part.Part.{Part}
use Rattle.partial_merge.specs.Parts.{AreParts}

-- the document is that of the parts, each dependency is a resource, and the resources have an order
pub record Merged (parts : List Part) (document : Document) : Type 0 where
  pub parts_are : AreParts parts document
  pub known : NamesResources document
  pub ordered : (order : List ℕ) × IsOrderOfDocument document order

-- the document of the parts, with its order
pub record IsDocumentOf (parts : List Part) (document : OrderedDocument) : Type 0 where
  pub merged : Merged parts document.document
  pub ordered : IsOrdered document
  pub in_size : DocumentInSize document.document
