-- The members of a JSON object (RFC 8259, section 4), as the tables of messages ask for them.
use Rattle.std.specs.Prelude.{ℕ, List, [], ◌∷◌, length, Bool, false, nat_le, if◌then◌else◌, Option, Some, None, option_and_then, option_map, is_some, Result, Ok, Err, codes}
use Rattle.std.specs.Option.{ok_or, option_map_or}
use Rattle.std.specs.Int.{w128, from_be_bytes}
use Rattle.std.specs.Str.{chars, encode_utf8_all, str_eq_ignore_ascii_case}
use Rattle.serde_json.specs.Data.{Data, Items, no_items, item}
use Rattle.serde_json.specs.Events.{items_len}
use Rattle.serde_json.specs.Find.{get, as_null, as_str, as_array, as_object}
use Rattle.uuid.specs.Text.{parsed}
use Rattle.pull_messages.specs.declared.error.MessageError.{MessageError}
use Rattle.pull_messages.specs.declared.error.MessageError.TheVariants.{Missing, Wrong}
use Rattle.pull_messages.specs.declared.field.Field.{Field}
use Rattle.pull_messages.specs.declared.limits.Limit.{Limit}
use Rattle.pull_messages.specs.declared.limits.Limit.TheVariants.{Free, Name}
use Rattle.pull_messages.specs.declared.limits.TheConstants.{MAX_LIST_ITEMS}
use Rattle.pull_messages.specs.Limits.{is_within}
use Rattle.pull_messages.specs.Names.{name_of}
use Rattle.pull_messages.specs.Results.{◌>>=◌}

-- ---- members of an object

abbrev pub not_null : Data → Option Data
not_null value = if is_some (as_null value) then None else Some value

-- the member of that name; one that is null counts as absent
abbrev pub member_of : Field → Data → Option Data
member_of field value = option_and_then not_null (get (name_of field) value)

abbrev pub present : Field → Data → Result Data MessageError
present field value = ok_or (member_of field value) (Missing field)

-- a member that must be there
abbrev pub required : {A : Type 0} → (Field → Data → Result A MessageError) → Field → Data → Result A MessageError
required read field value = present field value >>= read field

-- a member that has a default where it is absent
abbrev pub optional : {A : Type 0} → (Field → Data → Result A MessageError) → A → Field → Data → Result A MessageError
optional read default field value = option_map_or (read field) (member_of field value) (Ok default)

-- ---- kinds of values

abbrev pub an_object : Field → Data → Result Data MessageError
an_object field value = if is_some (as_object value) then Ok value else Err (Wrong field)

-- the characters of a string
abbrev pub a_string : Field → Data → Result (List ℕ) MessageError
a_string field value = ok_or (option_map chars (as_str value)) (Wrong field)

unfoldable pub within : Limit → Field → List ℕ → Result (List ℕ) MessageError
within limit field text = if is_within limit (length (encode_utf8_all text)) then Ok text else Err (Wrong field)

-- a text within the limit
abbrev pub a_text : Limit → Field → Data → Result (List ℕ) MessageError
a_text limit field value = a_string field value >>= within limit field

-- the number of an identifier, in any form of RFC 9562 that `uuid` reads
unfoldable pub id_of : List ℕ → Option ℕ
id_of text = option_map (from_be_bytes w128) (parsed text)

abbrev pub an_id : Field → Data → Result ℕ MessageError
an_id field value = ok_or (option_and_then id_of (as_str value)) (Wrong field)

-- `SHA-256` by fold
abbrev pub is_sha256 : List ℕ → Bool
is_sha256 text = str_eq_ignore_ascii_case text (codes "SHA-256")

abbrev pub sha256 : Field → Data → Result (Unit {0}) MessageError
sha256 field value = if option_map_or is_sha256 (as_str value) false then Ok tt else Err (Wrong field)

-- ---- lists

-- what is read of each element, or the first refusal
abbrev pub each : {A : Type 0} → (Data → Result A MessageError) → Items → Result (List A) MessageError
each read no_items = Ok []
each read (item value values) = do
  first ← read value
  others ← each read values
  Ok (first ∷ others)

abbrev pub a_list : Field → Data → Result Items MessageError
a_list field value = ok_or (as_array value) (Wrong field)

-- few enough elements
abbrev pub few : Field → Items → Result Items MessageError
few field values = if nat_le (items_len values) MAX_LIST_ITEMS then Ok values else Err (Wrong field)

abbrev pub texts : Field → Data → Result (List (List ℕ)) MessageError
texts field value = do
  values ← a_list field value
  each (a_text Free field) values

-- few enough names
abbrev pub names : Field → Data → Result (List (List ℕ)) MessageError
names field value = do
  values ← a_list field value
  values ← few field values
  each (a_text Name field) values

abbrev pub objects : Field → Data → Result Items MessageError
objects field value = do
  values ← a_list field value
  seen ← each (an_object field) values
  Ok values

-- few enough objects
abbrev pub few_objects : Field → Data → Result Items MessageError
few_objects field value = do
  values ← objects field value
  few field values
