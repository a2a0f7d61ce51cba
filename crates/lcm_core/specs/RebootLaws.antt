-- Laws of repairs that nothing is in the way of: how near a run that ends with a reboot comes to its end, and that one that comes to its last
-- resource is compliant.
use Rattle.std.specs.Prelude.{◌≡◌, ℕ, ◌<◌, List, length}
use Rattle.dsc_outside.specs.Host.{HostState}
use Rattle.dsc_document.specs.declared.document.Document.{Document}
use Rattle.depend_order.specs.Documents.{IsOrderOfDocument}
use Rattle.resource_kinds.specs.declared.entry.Entry.{Entry}
use Rattle.resource_kinds.specs.Apart.{Apart}
use Rattle.resource_kinds.specs.Documents.{Clear}
use Rattle.resource_kinds.specs.Holding.{unheld}
use Rattle.resource_kinds.specs.Trace.{Compliant, EndsInReboot, host_failures}
use Rattle.resource_kinds.specs.True.{True}
use Rattle.lcm_core.specs.declared.modes.RunMode.TheVariants.{Repair}
use Rattle.lcm_core.specs.Legal.{GoesOn, Legal}
use Rattle.lcm_core.specs.RepairLaws.{BlamesNothing, IsKnown}
use Rattle.lcm_core.specs.Whole.{Whole}

-- no resource has a fault of its own
abbrev pub AllKnown : Document → Type 0
AllKnown document = (r : ℕ) → r < length document.resources → IsKnown document r

-- a repair of resources that are apart and without a fault, on a host that shows what it holds, is clear for them, and of which no call failed
pub record IsClearRepair (document : Document) (order : List ℕ) (before : HostState) (trace : List Entry) (after : HostState) : Type 0 where
  pub legal : Legal document Repair order trace
  pub is_true : True document before trace after
  pub apart : Apart document
  pub known : AllKnown document
  pub clear : Clear before document
  pub unfailed : host_failures trace ≡ 0

-- no entry says that something is in the way
abbrev pub NothingIsInTheWay : Type 0
NothingIsInTheWay =
    (document : Document) (order : List ℕ) (before after : HostState) (trace : List Entry) → IsClearRepair document order before trace after → BlamesNothing trace

-- fewer resources are left that do not hold, and the host is still clear
pub record ComesNearer (document : Document) (before after : HostState) : Type 0 where
  pub fewer : unheld after document < unheld before document
  pub clear : Clear after document

abbrev pub RebootsComeNearer : Type 0
RebootsComeNearer =
    (document : Document) (order : List ℕ) (before after : HostState) (trace : List Entry)
    → IsClearRepair document order before trace after → EndsInReboot trace → ComesNearer document before after

abbrev pub ClearRepairsComply : Type 0
ClearRepairsComply =
    (document : Document) (order : List ℕ) (before after : HostState) (trace : List Entry)
    → IsClearRepair document order before trace after → IsOrderOfDocument document order → Whole document Repair order trace → GoesOn trace → Compliant document trace
