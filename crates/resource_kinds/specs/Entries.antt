-- The entries of a variable that is a list of paths: the pieces between its `;`. They compare byte by byte.
use Rattle.std.specs.Prelude.{ℕ, ◌==◌, Bool, true, false, not, List, [], ◌∷◌, ◌++◌, Option, Some, None, All, Contains, unwrap_or}
use Rattle.std.specs.List.{filter, list_any, slice_split, join_with_byte}
use Rattle.std.specs.Str.{bytes_eq}

-- the pieces between the `;`; the empty value has one, which is empty
abbrev pub entries : List ℕ → List (List ℕ)
entries value = slice_split (λ b. b == 59) value

-- the pieces with one `;` between each two
abbrev pub joined : List (List ℕ) → List ℕ
joined pieces = join_with_byte 59 pieces

-- of a variable that is not there there are none
abbrev pub entries_of : Option (List ℕ) → List (List ℕ)
entries_of None = []
entries_of (Some old) = entries old

abbrev pub is_filled : List ℕ → Bool
is_filled [] = false
is_filled (b ∷ bs) = true

-- a resource asks for the entries of its value that are not empty
abbrev pub wanted_entries : List ℕ → List (List ℕ)
wanted_entries value = filter is_filled (entries value)

-- ---- what holds

-- the variable is there, and each wanted entry is among its own
abbrev pub HasEntries : Option (List ℕ) → List ℕ → Type 0
HasEntries None value = ⊥
HasEntries (Some old) value = All (Contains (entries old)) (wanted_entries value)

-- no wanted entry is among the variable's
abbrev pub LacksEntries : Option (List ℕ) → List ℕ → Type 0
LacksEntries old value = All (λ entry. Contains (entries_of old) entry → ⊥) (wanted_entries value)

-- ---- what a Set makes

abbrev pub is_among : List (List ℕ) → List ℕ → Bool
is_among pieces entry = list_any (bytes_eq entry) pieces

-- each once, where it first stands
abbrev pub each_once : List (List ℕ) → List (List ℕ)
each_once [] = []
each_once (entry ∷ others) = entry ∷ filter (λ other. not (bytes_eq entry other)) (each_once others)

-- the wanted entries that are not among the variable's, each once
abbrev pub missing_entries : Option (List ℕ) → List ℕ → List (List ℕ)
missing_entries old value = each_once (filter (λ entry. not (is_among (entries_of old) entry)) (wanted_entries value))

-- more entries after a value; the empty value makes way for them
abbrev pub appended : List ℕ → List (List ℕ) → List ℕ
appended [] more = joined more
appended (b ∷ bs) [] = b ∷ bs
appended (b ∷ bs) (entry ∷ more) = (b ∷ bs) ++ 59 ∷ joined (entry ∷ more)

-- the variable once the missing entries were appended
abbrev pub with_entries : Option (List ℕ) → List ℕ → Option (List ℕ)
with_entries old value = Some (appended (unwrap_or old []) (missing_entries old value))

-- the entries that are not wanted away
abbrev pub kept_entries : List ℕ → List ℕ → List (List ℕ)
kept_entries old value = filter (λ entry. not (is_among (wanted_entries value) entry)) (entries old)

-- a variable of these entries; without any it is not there
abbrev pub variable_with : List (List ℕ) → Option (List ℕ)
variable_with [] = None
variable_with (entry ∷ more) = Some (joined (entry ∷ more))

-- the variable once the wanted entries were taken out
abbrev pub without_entries : Option (List ℕ) → List ℕ → Option (List ℕ)
without_entries None value = None
without_entries (Some old) value = variable_with (kept_entries old value)
