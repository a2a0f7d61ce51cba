-- Why a document has no order. A reason stands only where none that wins over it does.
use Rattle.std.specs.Prelude.{⊤}
use Rattle.dsc_document.specs.declared.document.Document.{Document}
use Rattle.dsc_document.specs.Dependencies.{HasDistinctIds, IsFirstUnknownId, NamesResources}
use Rattle.depend_order.specs.declared.error.InOrderError.{InOrderError}
use Rattle.depend_order.specs.declared.error.InOrderError.TheVariants.{DuplicateId, DependsUnknown, Cycle, Memory}
use Rattle.depend_order.specs.Documents.{IsCycleOfDocument}
use Rattle.depend_order.specs.Repeats.{IsFirstRepeatedId}

-- the ids repeat, or they differ and one that is depended on is unknown. Out of memory has no cause here
abbrev pub IsNameFault : Document → InOrderError → Type 0
IsNameFault document (DuplicateId first second) = IsFirstRepeatedId document.resources first second
IsNameFault document (DependsUnknown spot name) = HasDistinctIds document × IsFirstUnknownId document spot name
IsNameFault document (Cycle cycle) = ⊥
IsNameFault document Memory = ⊤

-- the same, or the dependencies are resources and form a cycle
abbrev pub HasNoOrder : Document → InOrderError → Type 0
HasNoOrder document (DuplicateId first second) = IsFirstRepeatedId document.resources first second
HasNoOrder document (DependsUnknown spot name) = HasDistinctIds document × IsFirstUnknownId document spot name
HasNoOrder document (Cycle cycle) = HasDistinctIds document × NamesResources document × IsCycleOfDocument document cycle
HasNoOrder document Memory = ⊤
