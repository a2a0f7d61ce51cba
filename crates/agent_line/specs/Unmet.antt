-- The resources that a report names as not in the desired state. A node writes an error as the resource's id, a colon and a space,
-- and the reason, which has none of these.
use Rattle.std.specs.Prelude.{ℕ, suc, ◌+◌, ◌==◌, ◌&&◌, Bool, nat_le, if◌then◌else◌, List, [], ◌∷◌, map, length, take, drop, get_or, codes, Option, Some, None}
use Rattle.serde_json.specs.Data.{Data, array, object, no_members, member}
use Rattle.serde_json.specs.View.{items_of}
use Rattle.serde_json.specs.Written.{compact_text}
use Rattle.pull_messages.specs.Writing.{text_data}

-- it begins with a colon and a space
abbrev pub is_mark : List ℕ → Bool
is_mark text = nat_le 2 (length text) && ((get_or text 0 0 == 58) && (get_or text 1 0 == 32))

-- one place further, or this place where it is one
abbrev pub behind : Bool → Option ℕ → Option ℕ
behind here (Some at) = Some (suc at)
behind here None = if here then Some 0 else None

-- for private clauses: the last place in a text of which so many characters were passed, with this place found among them
abbrev pub onward : ℕ → Option ℕ → Option ℕ → Option ℕ
onward passed found None = found
onward passed found (Some at) = Some (passed + at)

-- the place of the last colon with a space after it
abbrev pub last_mark : List ℕ → Option ℕ
last_mark [] = None
last_mark (c ∷ rest) = behind (is_mark (c ∷ rest)) (last_mark rest)

-- what stands before it, or all
abbrev pub before : Option ℕ → List ℕ → List ℕ
before None error = error
before (Some at) error = take at error

-- what stands after it, or nothing
abbrev pub after : Option ℕ → List ℕ → List ℕ
after None error = []
after (Some at) error = drop (at + 2) error

abbrev pub id_in : List ℕ → List ℕ
id_in error = before (last_mark error) error

abbrev pub reason_in : List ℕ → List ℕ
reason_in error = after (last_mark error) error

abbrev pub unmet_data : List ℕ → Data
unmet_data error = object (member (codes "id") (text_data (id_in error)) (member (codes "reason") (text_data (reason_in error)) no_members))

abbrev pub unmet_items : List (List ℕ) → Data
unmet_items errors = array (items_of (map unmet_data errors))

-- as compact JSON
unfoldable pub unmet_json : List (List ℕ) → List ℕ
unmet_json errors = compact_text (unmet_items errors)
