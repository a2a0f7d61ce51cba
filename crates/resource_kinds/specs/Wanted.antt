-- What a resource asks for, by the table of its kind, or its fault.
use Rattle.std.specs.Prelude.{◌≡◌, ℕ, ⊤, if◌then◌else◌, List, [], Option, Some, None, option_map, unwrap_or, Result, Ok, Err, codes, encode_utf8_all}
use Rattle.mof_values.specs.Fold.{fold_case}
use Rattle.mof_values.specs.declared.instance.Instance.{Instance}
use Rattle.mof_values.specs.declared.instance.Property.{Property}
use Rattle.dsc_document.specs.declared.document.Resource.{Resource}
use Rattle.resource_kinds.specs.declared.entry.Failure.{Failure}
use Rattle.resource_kinds.specs.declared.entry.Failure.TheVariants.{NoSuchResource, OutOfProfile, BadPath, InTheWay, HostFailed}
use Rattle.resource_kinds.specs.declared.tables.Kind.{Kind}
use Rattle.resource_kinds.specs.declared.tables.Kind.TheVariants as kinds
use Rattle.resource_kinds.specs.declared.wanted.Wanted.{Wanted}
use Rattle.resource_kinds.specs.declared.wanted.Wanted.TheVariants.{File, Folder, NoFile, NoFolder, Variable, Entries, NoVariable, NoEntries, Logged}
use Rattle.resource_kinds.specs.declared.wanted.WantedError.{WantedError}
use Rattle.resource_kinds.specs.declared.wanted.WantedError.TheVariants as errors
use Rattle.resource_kinds.specs.Paths.{path_of}
use Rattle.mof_values.specs.Values.{text_named}
use Rattle.resource_kinds.specs.Tables.{first_wrong, is_absent, is_directory, key_of, kind_of, rows_of, says_yes}

-- a name as a host has it
abbrev pub folded_utf8 : List ℕ → List ℕ
folded_utf8 name = encode_utf8_all (fold_case name)

-- the UTF-8 of its contents, where it has any
abbrev pub contents_of : Instance → Option (List ℕ)
contents_of instance = option_map encode_utf8_all (text_named (codes "Contents") instance)

-- the UTF-8 of its value, which is empty where it has none
abbrev pub value_of : Instance → List ℕ
value_of instance = encode_utf8_all (unwrap_or (text_named (codes "Value") instance) [])

-- what is to stand at the path, or not to
abbrev pub directory_at : Instance → List ℕ → Wanted
directory_at instance path = if is_absent instance then NoFolder path (says_yes (codes "Force") instance) else Folder path

abbrev pub file_at : Instance → List ℕ → Wanted
file_at instance path = if is_absent instance then NoFile path else File path (contents_of instance)

abbrev pub standing_at : Instance → List ℕ → Wanted
standing_at instance path = if is_directory instance then directory_at instance path else file_at instance path

abbrev pub on_path : Instance → Option (List ℕ) → Result Wanted Failure
on_path instance None = Err BadPath
on_path instance (Some path) = Ok (standing_at instance path)

-- the variable of that name, whole or entry by entry
abbrev pub no_variable : Instance → List ℕ → Wanted
no_variable instance name = if says_yes (codes "Path") instance then NoEntries name (value_of instance) else NoVariable name

abbrev pub a_variable : Instance → List ℕ → Wanted
a_variable instance name = if says_yes (codes "Path") instance then Entries name (value_of instance) else Variable name (value_of instance)

abbrev pub variable_of : Instance → List ℕ → Wanted
variable_of instance name = if is_absent instance then no_variable instance name else a_variable instance name

-- by the text of its key
abbrev pub by_key : Kind → Resource → List ℕ → Result Wanted Failure
by_key kinds.File resource text = on_path resource.instance (path_of text)
by_key kinds.Environment resource text = Ok (variable_of resource.instance (folded_utf8 text))
by_key kinds.Log resource text = Ok (Logged (folded_utf8 resource.id) (encode_utf8_all text))

-- a wrong property is reported before a missing key, and a key that is no path last
abbrev pub by_table : Kind → Resource → Option Property → Option (List ℕ) → Result Wanted Failure
by_table kind resource (Some property) text = Err (OutOfProfile property.name)
by_table kind resource None None = Err (OutOfProfile (key_of kind))
by_table kind resource None (Some text) = by_key kind resource text

abbrev pub of_kind : Option Kind → Resource → Result Wanted Failure
of_kind None resource = Err NoSuchResource
of_kind (Some kind) resource = by_table kind resource (first_wrong (rows_of kind resource.instance) resource.instance) (text_named (key_of kind) resource.instance)

-- what a resource asks for, or its fault
abbrev pub wanted_of : Resource → Result Wanted Failure
wanted_of resource = of_kind (kind_of resource.instance) resource

-- ---- what takes memory

-- the fault names a property
abbrev pub NamesProperty : Failure → Type 0
NamesProperty NoSuchResource = ⊥
NamesProperty (OutOfProfile name) = ⊤
NamesProperty BadPath = ⊥
NamesProperty InTheWay = ⊥
NamesProperty HostFailed = ⊥

-- why there is nothing that is asked for: the fault, or that there was no memory to make what is asked for or to copy the
-- name of a property
abbrev pub IsWhy : Result Wanted Failure → WantedError → Type 0
IsWhy wanted (errors.Fault failure) = wanted ≡ Err failure
IsWhy (Ok wanted) errors.Memory = ⊤
IsWhy (Err failure) errors.Memory = NamesProperty failure
