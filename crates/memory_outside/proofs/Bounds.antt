-- What the changes of a host leave as it was.
use Rattle.std.proofs.Common.{◌≡◌, ◌⊎◌, ℕ, List, true, false, inl, inr, refl}
use Rattle.std.specs.Str.{bytes_eq}
use Rattle.std.proofs.lemmas.Bool.{both_ways, false_from_ne_true, or_parts}
use Rattle.dsc_outside.proofs.Below.{not_below_both}
use Rattle.memory_outside.proofs.PathEntries.{at_path}
use Rattle.dsc_outside.specs.Changes.{ChangedPath, ChangedVariable, with_file, with_folder, with_variable, without_path, without_variable}
use Rattle.dsc_outside.specs.Host.{HostState}
use Rattle.dsc_outside.specs.Paths.{PathKind, Nothing, File, Folder, Other, filled, is_below}

filled_is : (k : PathKind) → (filled k ≡ k) ⊎ ((k ≡ Nothing) × (filled k ≡ Folder))
filled_is Nothing = inr (refl, refl)
filled_is (File bytes) = inl refl
filled_is Folder = inl refl
filled_is Other = inl refl

above_is_apart : (path other : List ℕ) → is_below other path ≡ true → (bytes_eq path other ≡ false) × (is_below path other ≡ false)
above_is_apart path other above = (false_from_ne_true _ (λ same. both_ways _ (at_path path other same) above), not_below_both other path above)

pub path_stays : (path : List ℕ) (s : HostState) → ChangedPath path s s
path_stays path s = record { elsewhere = λ other within above. refl; above = λ other above. inl refl; nothing_else = refl }

pub path_put : (path bytes : List ℕ) (s : HostState) → ChangedPath path s (with_file path bytes s)
path_put path bytes s = record {
  elsewhere = λ other within above. let parts = or_parts (bytes_eq path other) (is_below path other) within in rw (parts.0, parts.1, above) refl;
  above = λ other above. let apart = above_is_apart path other above in rw (apart.0, apart.1, above) (filled_is (s.path other));
  nothing_else = refl;
}

pub path_made : (path : List ℕ) (s : HostState) → ChangedPath path s (with_folder path s)
path_made path s = record {
  elsewhere = λ other within above. let parts = or_parts (bytes_eq path other) (is_below path other) within in rw (parts.0, above) refl;
  above = λ other above. let apart = above_is_apart path other above in rw (apart.0, above) (filled_is (s.path other));
  nothing_else = refl;
}

pub path_removed : (path : List ℕ) (s : HostState) → ChangedPath path s (without_path path s)
path_removed path s = record {
  elsewhere = λ other within above. rw within refl;
  above = λ other above. let apart = above_is_apart path other above in rw (apart.0, apart.1) (inl refl);
  nothing_else = refl;
}

pub variable_stays : (name : List ℕ) (s : HostState) → ChangedVariable name s s
variable_stays name s = record { others = λ other apart. refl; nothing_else = refl }

pub variable_put : (name value : List ℕ) (s : HostState) → ChangedVariable name s (with_variable name value s)
variable_put name value s = record { others = λ other apart. rw apart refl; nothing_else = refl }

pub variable_removed : (name : List ℕ) (s : HostState) → ChangedVariable name s (without_variable name s)
variable_removed name s = record { others = λ other apart. rw apart refl; nothing_else = refl }
