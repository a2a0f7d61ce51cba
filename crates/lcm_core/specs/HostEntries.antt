-- Laws of repairs in which some entries are of a host that shows what it holds, and others are not: what those of a resource without a fault
-- of its own say, where nothing is in its way.
use Rattle.std.specs.Prelude.{◌≡◌, ℕ, Bool, true, List, ◌∷◌, ◌++◌, filter, Some}
use Rattle.dsc_outside.specs.Host.{HostState}
use Rattle.dsc_document.specs.declared.document.Document.{Document}
use Rattle.resource_kinds.specs.declared.entry.SetAnswer.{SetAnswer}
use Rattle.resource_kinds.specs.declared.entry.Entry.{Entry}
use Rattle.resource_kinds.specs.declared.entry.Entry.TheVariants.{Set}
use Rattle.resource_kinds.specs.declared.wanted.Wanted.{Wanted}
use Rattle.resource_kinds.specs.Apart.{Apart, wanted_at}
use Rattle.resource_kinds.specs.Documents.{Clear}
use Rattle.resource_kinds.specs.Holds.{Holds}
use Rattle.resource_kinds.specs.Trace.{EndsInMemory, host_failures, place_of}
use Rattle.resource_kinds.specs.True.{True}
use Rattle.lcm_core.specs.declared.modes.RunMode.TheVariants.{Repair}
use Rattle.lcm_core.specs.LastingRuns.{IsFault, NeverNo}
use Rattle.lcm_core.specs.Legal.{Legal}

-- A repair of resources that are apart. The entries that are of the host are true of it, it is clear for the resources, no entry says that the
-- machine failed, and memory did not run out.
pub record IsClearBeside (document : Document) (is_of_host : Entry → Bool) (order : List ℕ) (before : HostState) (trace : List Entry) (after : HostState) : Type 0 where
  pub legal : Legal document Repair order trace
  pub is_true : True document before (filter is_of_host trace) after
  pub apart : Apart document
  pub clear : Clear before document
  pub unfailed : host_failures trace ≡ 0
  pub fed : EndsInMemory trace → ⊥

-- What the entries say of a resource that asks for this: none is a fault; where it held before the run no Test of it answers no, and it holds
-- after the run; and so it is after a Set of it.
pub record EntriesLast (wanted : Wanted) (r : ℕ) (before : HostState) (trace : List Entry) (after : HostState) : Type 0 where
  pub faultless : (front : List Entry) (e : Entry) (rest : List Entry) → trace ≡ front ++ e ∷ rest → place_of e ≡ r → IsFault e → ⊥
  pub held : Holds before wanted → NeverNo r trace × Holds after wanted
  pub set : (front : List Entry) (answer : SetAnswer) (rest : List Entry) → trace ≡ front ++ Set r answer ∷ rest → NeverNo r rest × Holds after wanted

-- nothing is in the way after the run
abbrev pub StaysClearBeside : Type 0
StaysClearBeside =
    (document : Document) (is_of_host : Entry → Bool) (order : List ℕ) (before after : HostState) (trace : List Entry)
    → IsClearBeside document is_of_host order before trace after → Clear after document

-- so say the entries of each resource that are of the host
abbrev pub HostEntriesLast : Type 0
HostEntriesLast =
    (document : Document) (is_of_host : Entry → Bool) (order : List ℕ) (before after : HostState) (trace : List Entry) (r : ℕ) (wanted : Wanted)
    → IsClearBeside document is_of_host order before trace after → wanted_at document r ≡ Some wanted → ((e : Entry) → place_of e ≡ r → is_of_host e ≡ true)
    → EntriesLast wanted r before trace after
