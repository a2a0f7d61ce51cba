-- The printed lines of a run.
use Rattle.std.specs.Prelude.{◌≡◌, ◌⊎◌, ◌==◌, ℕ, Bool, true, false, List, [], ◌++◌, length, Option, Some, None, codes, slice_get, if◌then◌else◌}
use Rattle.std.specs.List.{flat_map}
use Rattle.std.specs.Fmt.{decimal}
use Rattle.dsc_node.specs.Quoted.{quoted}
use Rattle.dsc_document.specs.declared.document.Document.{Document}
use Rattle.dsc_document.specs.declared.document.Resource.{Resource}
use Rattle.resource_kinds.specs.declared.entry.TestAnswer.{TestAnswer}
use Rattle.resource_kinds.specs.declared.entry.TestAnswer.TheVariants as tests
use Rattle.resource_kinds.specs.declared.entry.SetAnswer.{SetAnswer}
use Rattle.resource_kinds.specs.declared.entry.SetAnswer.TheVariants as sets
use Rattle.resource_kinds.specs.declared.entry.Entry.{Entry}
use Rattle.resource_kinds.specs.declared.entry.Entry.TheVariants.{Tested, Set}
use Rattle.resource_kinds.specs.Apart.{Apart, Overlap}
use Rattle.resource_kinds.specs.Names.{failure_name}
use Rattle.resource_kinds.specs.Trace.{missed_count, succeeded_count}

abbrev pub test_words : TestAnswer → List ℕ
test_words tests.Yes = codes " yes"
test_words tests.No = codes " no"
test_words (tests.Fault failure) = codes " fault " ++ failure_name failure
test_words tests.Memory = []  -- a run that ends so is not printed

abbrev pub set_words : SetAnswer → List ℕ
set_words sets.Done = codes " done"
set_words sets.Reboot = codes " reboot"
set_words (sets.Fault failure) = codes " fault " ++ failure_name failure
set_words sets.Memory = []

abbrev pub id_of : Option Resource → List ℕ
id_of None = []
id_of (Some resource) = resource.id

abbrev pub id_at : Document → ℕ → List ℕ
id_at document place = id_of (slice_get document.resources place)

-- what was done with which resource, and the answer
abbrev pub line_of : Document → Entry → List ℕ
line_of document (Tested place answer) = codes "test " ++ quoted (id_at document place) ++ test_words answer ++ codes "\n"
line_of document (Set place answer) = codes "set " ++ quoted (id_at document place) ++ set_words answer ++ codes "\n"

-- by how many resources did not succeed
abbrev pub verdict : ℕ → List ℕ
verdict missed = if missed == 0 then codes "compliant\n" else codes "not compliant " ++ decimal missed ++ codes "\n"

-- how many resources there are, and how many succeeded
abbrev pub resources_line : ℕ → ℕ → List ℕ
resources_line total succeeded = codes "resources " ++ decimal total ++ codes " succeeded " ++ decimal succeeded ++ codes "\n"

-- the same, and the verdict on how many did not
abbrev pub summary : ℕ → ℕ → ℕ → List ℕ
summary total succeeded missed = resources_line total succeeded ++ verdict missed

abbrev pub overlap_line : Bool → List ℕ
overlap_line true = codes "overlapping\n"
overlap_line false = []

-- a line for each entry, how many resources succeeded, and the verdict
abbrev pub run_lines : Document → List Entry → List ℕ
run_lines document trace =
    flat_map (line_of document) trace ++ summary (length document.resources) (succeeded_count document trace) (missed_count document trace)

-- the text of a run: its lines, and `overlapping` after them exactly where resources of the document overlap
abbrev pub IsRunText : Document → List Entry → List ℕ → Type 0
IsRunText document trace text =
    (Apart document × (text ≡ run_lines document trace)) ⊎ (Overlap document × (text ≡ run_lines document trace ++ codes "overlapping\n"))
