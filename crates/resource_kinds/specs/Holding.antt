-- Whether what a resource asks for holds on a machine, as a test, and how many resources of a document do not hold.
use Rattle.std.specs.Prelude.{◌≡◌, ◌↔◌, ◌<◌, ◌≤◌, ℕ, Bool, true, false, not, IsTrue, List, length, Option, Some, None, is_none, count_by}
use Rattle.std.specs.List.{list_all}
use Rattle.std.specs.Str.{bytes_eq}
use Rattle.dsc_terms.specs.Lists.{places_below}
use Rattle.dsc_outside.specs.Host.{HostState, has_entry}
use Rattle.dsc_outside.specs.Paths.{PathKind, Nothing, File, Folder, Other, is_file_of, is_nothing}
use Rattle.dsc_document.specs.declared.document.Document.{Document}
use Rattle.resource_kinds.specs.declared.wanted.Wanted.{Wanted}
use Rattle.resource_kinds.specs.declared.wanted.Wanted.TheVariants as wants
use Rattle.resource_kinds.specs.Apart.{wanted_at}
use Rattle.resource_kinds.specs.Documents.{AllHold}
use Rattle.resource_kinds.specs.Entries.{entries, entries_of, is_among, wanted_entries}
use Rattle.resource_kinds.specs.Holds.{Holds}

-- ---- one resource

abbrev pub is_file : PathKind → Bool
is_file Nothing = false
is_file (File bytes) = true
is_file Folder = false
is_file Other = false

abbrev pub is_folder : PathKind → Bool
is_folder Nothing = false
is_folder (File bytes) = false
is_folder Folder = true
is_folder Other = false

-- a variable of this value
abbrev pub is_value : Option (List ℕ) → List ℕ → Bool
is_value None value = false
is_value (Some old) value = bytes_eq old value

-- the variable is there, and each wanted entry is among its own
abbrev pub has_entries : Option (List ℕ) → List ℕ → Bool
has_entries None value = false
has_entries (Some old) value = list_all (is_among (entries old)) (wanted_entries value)

-- no wanted entry is among the variable's
abbrev pub lacks_entries : Option (List ℕ) → List ℕ → Bool
lacks_entries old value = list_all (λ entry. not (is_among (entries_of old) entry)) (wanted_entries value)

abbrev pub holds : HostState → Wanted → Bool
holds host (wants.File path None) = is_file (host.path path)
holds host (wants.File path (Some contents)) = is_file_of (host.path path) contents
holds host (wants.Folder path) = is_folder (host.path path)
holds host (wants.NoFile path) = is_nothing (host.path path)
holds host (wants.NoFolder path forced) = is_nothing (host.path path)
holds host (wants.Variable name value) = is_value (host.variable name) value
holds host (wants.Entries name value) = has_entries (host.variable name) value
holds host (wants.NoVariable name) = is_none (host.variable name)
holds host (wants.NoEntries name value) = lacks_entries (host.variable name) value
holds host (wants.Logged id message) = has_entry host.log id message

-- the test agrees with what holding means
abbrev pub HoldsIsTested : Type 0
HoldsIsTested = (host : HostState) (wanted : Wanted) → IsTrue (holds host wanted) ↔ Holds host wanted

-- ---- a document

-- what is asked for holds; where nothing is, since the resource has a fault of its own, it does not
abbrev pub is_held : HostState → Option Wanted → Bool
is_held host None = false
is_held host (Some wanted) = holds host wanted

-- how many resources of the document do not hold; one with a fault of its own is among them
abbrev pub unheld : HostState → Document → ℕ
unheld host document = count_by (λ r. not (is_held host (wanted_at document r))) (places_below (length document.resources))

-- there are no more of them than resources
abbrev pub UnheldIsBounded : Type 0
UnheldIsBounded = (host : HostState) (document : Document) → unheld host document ≤ length document.resources

-- there are none exactly where all hold
abbrev pub NoneIsUnheld : Type 0
NoneIsUnheld = (host : HostState) (document : Document) → (unheld host document ≡ 0) ↔ AllHold host document

-- what held is kept from one state of the machine to another
abbrev pub KeepsHeld : HostState → HostState → Document → Type 0
KeepsHeld before after document = (r : ℕ) (wanted : Wanted) → wanted_at document r ≡ Some wanted → Holds before wanted → Holds after wanted

-- a resource of the document that did not hold does
pub record IsGained (before after : HostState) (document : Document) (r : ℕ) : Type 0 where
  pub place : r < length document.resources
  pub wanted : Wanted
  pub asks : wanted_at document r ≡ Some wanted
  pub lacked : Holds before wanted → ⊥
  pub holds : Holds after wanted

-- where what held is kept and another resource holds too, fewer are left
abbrev pub UnheldFalls : Type 0
UnheldFalls =
    (before after : HostState) (document : Document) (r : ℕ) → KeepsHeld before after document → IsGained before after document r
    → unheld after document < unheld before document
