-- What matters of a resource where it meets others, as the code finds it from the texts of the resource.
use Rattle.std.specs.Prelude.{ℕ, Bool, not, ◌||◌, if◌then◌else◌, List, Option, Some, None, encode_utf8_all}
use Rattle.mof_values.specs.declared.instance.Instance.{Instance}
use Rattle.resource_kinds.specs.Apart.{Matter, MattersMeet, Path, Variable, LogEntry, matter_of}
use Rattle.resource_kinds.specs.PathOrder.{path_left}
use Rattle.resource_kinds.specs.Tables.{is_absent, is_directory}
use Rattle.resource_kinds.specs.Wanted.{folded_utf8}
use Rattle.resource_kinds.specs.declared.path_order.PathRest.{PathRest}
use Rattle.resource_kinds.specs.declared.subjects.Subject.{Subject}
use Rattle.resource_kinds.specs.declared.subjects.Subject.TheVariants as subjects
use Rattle.resource_kinds.specs.declared.wanted.Wanted.{Wanted}

-- something is asked for, and it meets
abbrev pub AsksMeeting : Option Wanted → Matter → Type 0
AsksMeeting None matter = ⊥
AsksMeeting (Some wanted) matter = MattersMeet (matter_of wanted) matter

-- the instance asks for no folder
abbrev pub is_closed : Instance → Bool
is_closed instance = is_absent instance || not (is_directory instance)

-- of a path, where a folder may be asked for
abbrev pub matter_at : List ℕ → Bool → Matter
matter_at path closed = record { target = Path path; closed = if closed then Some path else None }

abbrev pub path_matter : PathRest → Instance → Matter
path_matter path instance = matter_at (encode_utf8_all (path_left path)) (is_closed instance)

abbrev pub variable_matter : List ℕ → Matter
variable_matter name = record { target = Variable (folded_utf8 name); closed = None }

abbrev pub entry_matter : List ℕ → List ℕ → Matter
entry_matter id message = record { target = LogEntry (folded_utf8 id) (encode_utf8_all message); closed = None }

abbrev pub subject_matter : Subject → Matter
subject_matter (subjects.Path path instance) = path_matter path instance.now
subject_matter (subjects.Variable name) = variable_matter name.now
subject_matter (subjects.Logged id message) = entry_matter id.now message.now
