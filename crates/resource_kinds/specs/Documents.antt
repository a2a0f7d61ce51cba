-- What holds of the resources of a document on a machine.
use Rattle.std.specs.Prelude.{◌≡◌, ℕ, ◌<◌, length, Some}
use Rattle.std.specs.Option.{IsSomeAnd}
use Rattle.dsc_outside.specs.Host.{HostState}
use Rattle.dsc_document.specs.declared.document.Document.{Document}
use Rattle.resource_kinds.specs.declared.wanted.Wanted.{Wanted}
use Rattle.resource_kinds.specs.Apart.{wanted_at}
use Rattle.resource_kinds.specs.Holds.{Holds, InTheWay}

-- no resource has a fault of its own, and what each asks for holds
abbrev pub AllHold : HostState → Document → Type 0
AllHold host document = (r : ℕ) → r < length document.resources → IsSomeAnd (wanted_at document r) (Holds host)

-- nothing is in the way of the Set of any resource
abbrev pub Clear : HostState → Document → Type 0
Clear host document = (r : ℕ) (wanted : Wanted) → wanted_at document r ≡ Some wanted → InTheWay host wanted → ⊥
