-- The kinds of resources, and the table of each: its properties, and what their values may be. Names compare by fold.
use Rattle.std.specs.Prelude.{ℕ, Bool, true, false, not, ◌&&◌, ◌||◌, if◌then◌else◌, List, [], ◌∷◌, Option, Some, None, is_some, find, codes}
use Rattle.std.specs.List.{list_any}
use Rattle.std.specs.Option.{option_map_or}
use Rattle.mof_values.specs.declared.instance.Instance.{Instance}
use Rattle.mof_values.specs.declared.instance.Property.{Property}
use Rattle.mof_values.specs.declared.value.Value.{Value}
use Rattle.mof_values.specs.declared.value.Value.TheVariants.{One}
use Rattle.mof_values.specs.declared.value.Scalar.TheVariants as scalars
use Rattle.mof_values.specs.Fold.{same_name}
use Rattle.mof_values.specs.Values.{text_of, text_named, value_named}
use Rattle.resource_kinds.specs.declared.tables.Kind.{Kind}
use Rattle.resource_kinds.specs.declared.tables.Kind.TheVariants.{File, Environment, Log}
use Rattle.resource_kinds.specs.declared.tables.Table.{Table}
use Rattle.resource_kinds.specs.declared.tables.Table.TheVariants as tables

-- ---- values

abbrev pub is_null : Value → Bool
is_null (One scalars.Null) = true
is_null _ = false

-- a single text
abbrev pub is_text : Value → Bool
is_text value = is_some (text_of value)

abbrev pub is_given : Option (List ℕ) → Bool
is_given (Some (c ∷ cs)) = true
is_given _ = false

-- a single text that is not empty
abbrev pub is_filled_text : Value → Bool
is_filled_text value = is_given (text_of value)

-- there is a text, and it is this word
abbrev pub is_word : List ℕ → Option (List ℕ) → Bool
is_word word None = false
is_word word (Some text) = same_name text word

-- a single text that is one of two words
abbrev pub is_either : List ℕ → List ℕ → Value → Bool
is_either first second value = is_word first (text_of value) || is_word second (text_of value)

abbrev pub is_kind_of_file : Value → Bool
is_kind_of_file value = is_either (codes "File") (codes "Directory") value

abbrev pub is_presence : Value → Bool
is_presence value = is_either (codes "Present") (codes "Absent") value

abbrev pub is_truth_value : Value → Bool
is_truth_value (One (scalars.Bool b)) = true
is_truth_value _ = false

abbrev pub is_true : Value → Bool
is_true (One (scalars.Bool b)) = b
is_true _ = false

-- ---- what an instance says

-- its property of that name is this word
abbrev pub says : List ℕ → List ℕ → Instance → Bool
says name word instance = is_word word (text_named name instance)

-- its property of that name is true
abbrev pub says_yes : List ℕ → Instance → Bool
says_yes name instance = option_map_or is_true (value_named name instance) false

-- a file unless it says otherwise
abbrev pub is_directory : Instance → Bool
is_directory instance = says (codes "Type") (codes "Directory") instance

-- present unless it says otherwise
abbrev pub is_absent : Instance → Bool
is_absent instance = says (codes "Ensure") (codes "Absent") instance

-- ---- kinds

-- the kind of a class
abbrev pub kind_of_class : List ℕ → Option Kind
kind_of_class class =
    if same_name class (codes "MSFT_FileDirectoryConfiguration") then Some File
    else if same_name class (codes "MSFT_EnvironmentResource") then Some Environment
    else if same_name class (codes "MSFT_LogResource") then Some Log
    else None

abbrev pub kind_of : Instance → Option Kind
kind_of instance = kind_of_class instance.class

-- the property that each instance of the kind must have
abbrev pub key_of : Kind → List ℕ
key_of File = codes "DestinationPath"
key_of Environment = codes "Name"
key_of Log = codes "Message"

-- ---- tables

-- a row of a kind's table: a property, and what its value may be
pub record Row : Type 0 where
  pub name : List ℕ
  pub fits : Value → Bool

-- properties of every kind, of any value
abbrev pub common : List (List ℕ)
common =
    codes "ResourceID" ∷ codes "ModuleName" ∷ codes "ModuleVersion" ∷ codes "SourceInfo" ∷ codes "ConfigurationName" ∷ codes "DependsOn" ∷ []

abbrev pub directory_rows : List Row
directory_rows =
    record { name = codes "DestinationPath"; fits = is_text }
    ∷ record { name = codes "Type"; fits = is_kind_of_file }
    ∷ record { name = codes "Ensure"; fits = is_presence }
    ∷ record { name = codes "Force"; fits = is_truth_value }
    ∷ []

-- a directory has no contents
abbrev pub file_rows : List Row
file_rows = record { name = codes "Contents"; fits = is_text } ∷ directory_rows

abbrev pub environment_rows : List Row
environment_rows =
    record { name = codes "Name"; fits = is_filled_text }
    ∷ record { name = codes "Value"; fits = is_text }
    ∷ record { name = codes "Ensure"; fits = is_presence }
    ∷ record { name = codes "Path"; fits = is_truth_value }
    ∷ []

abbrev pub log_rows : List Row
log_rows = record { name = codes "Message"; fits = is_text } ∷ []

-- the table of each kind
abbrev pub rows_of : Kind → Instance → List Row
rows_of File instance = if is_directory instance then directory_rows else file_rows
rows_of Environment instance = environment_rows
rows_of Log instance = log_rows

-- the rows of a table
abbrev pub rows_in : Table → List Row
rows_in tables.Directory = directory_rows
rows_in tables.File = file_rows
rows_in tables.Environment = environment_rows
rows_in tables.Log = log_rows

-- ---- properties

abbrev pub is_common : Property → Bool
is_common property = list_any (same_name property.name) common

abbrev pub fits_row : Property → Row → Bool
fits_row property row = same_name property.name row.name && row.fits property.value

-- a property of no value, one of every kind, or one that fits a row
abbrev pub may_stand : List Row → Property → Bool
may_stand rows property = is_null property.value || (is_common property || list_any (fits_row property) rows)

-- the first property in the instance's text that may not stand there
abbrev pub first_wrong : List Row → Instance → Option Property
first_wrong rows instance = find (λ property. not (may_stand rows property)) instance.properties
