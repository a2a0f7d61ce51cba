-- How many resources are not in the desired state, as a report says it.
use Rattle.std.specs.Prelude.{ℕ, List, [], ◌∷◌, length, codes, encode_utf8_all, Option, None, option_and_then, unwrap_or}
use Rattle.serde_json.specs.Data.{Data}
use Rattle.serde_json.specs.Read.{read}
use Rattle.serde_json.specs.Find.{get, as_number, as_u64}

-- the member of that name, where it is a number without sign and fraction
abbrev pub number_of : Data → Option ℕ
number_of value = option_and_then as_u64 (option_and_then as_number (get (codes "NumberNotInDesiredState") value))

-- in a text that is a JSON value
unfoldable pub number_in : List ℕ → Option ℕ
number_in text = option_and_then number_of (read (encode_utf8_all text))

-- in the first text of a report's status data
abbrev pub number_said : List (List ℕ) → Option ℕ
number_said [] = None
number_said (text ∷ texts) = number_in text

-- A report lists the first of many: so it is the number that it says, or how many it lists where it says none.
abbrev pub count_of : List (List ℕ) → List (List ℕ) → ℕ
count_of errors status_data = unwrap_or (number_said status_data) (length errors)
