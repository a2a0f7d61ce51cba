-- Sets of entries.
use Rattle.std.specs.Prelude.{◌≡◌, ℕ, Bool, List}
use Rattle.std.specs.BTreeSet.{contains_by}
use Rattle.std.specs.Cmp.Lexicographic.{slice_cmp}
use Rattle.std.specs.Ordering.{nat_cmp}
use Rattle.resource_kinds.specs.declared.entry_sets.EntrySet.{EntrySet}
use Rattle.resource_kinds.specs.Entries.{is_among}

-- the entry is in the set
unfoldable pub is_in : EntrySet → List ℕ → Bool
is_in set entry = contains_by (λ kept. slice_cmp nat_cmp entry kept.now) set.entries

-- the set holds the entries of this list
abbrev pub IsSetOf : EntrySet → List (List ℕ) → Type 0
IsSetOf set pieces = (entry : List ℕ) → is_in set entry ≡ is_among pieces entry
