-- What a Set that is done changes is its own target.
use Rattle.std.proofs.Common.{◌≡◌, ◌⊎◌, ℕ, List, [], Bool, true, false, ◌||◌, inl, inr, Option, Some, None, Ok, Err, length, refl, ap, ◌∙◌, arith}
use Rattle.std.specs.Prelude.{IfSome, unwrap_or}
use Rattle.std.specs.Str.{bytes_eq}
use Rattle.std.proofs.lemmas.Bool.{false_from_ne_true}
use Rattle.std.proofs.lemmas.Slice.Eq.{bytes_eq-Decides}
use Rattle.dsc_outside.specs.Changes.{ChangedPath, ChangedVariable, Does, with_file, with_folder, without_path}
use Rattle.dsc_outside.specs.Host.{HostState}
use Rattle.dsc_outside.specs.Paths.{PathKind, Nothing, File, Folder, Other, filled, is_below}
use Rattle.dsc_outside.specs.declared.host.HostError.{HostError}
use Rattle.dsc_outside.proofs.Below.{below_longer, not_below_both}
use Rattle.resource_kinds.specs.declared.wanted.Wanted.{Wanted}
use Rattle.resource_kinds.specs.declared.wanted.Wanted.TheVariants as wants
use Rattle.resource_kinds.specs.Entries.{with_entries, without_entries}
use Rattle.resource_kinds.specs.Holds.{ChangedTarget, InTheWay, applied, with_value}
use Rattle.resource_kinds.specs.True.{BrokeOff, TellsStep}

-- what is above a path is not that path
not_itself : (path other : List ℕ) → is_below other path ≡ true → bytes_eq path other ≡ false
not_itself path other above =
    false_from_ne_true _ (λ same. omega (arith, below_longer other path above, ap length ((bytes_eq-Decides path other).0 same)))

-- what is neither at the path nor below it is not at the path
first_is_false : (a b : Bool) → (a || b) ≡ false → a ≡ false
first_is_false true b e = e
first_is_false false b e = refl

apart_below : (a b : Bool) → (a || b) ≡ false → b ≡ false
apart_below true b e = absurd (cc (e))
apart_below false b e = e

-- a folder that was missing, or nothing
maybe_filled : (kind : PathKind) → (filled kind ≡ kind) ⊎ ((kind ≡ Nothing) × (filled kind ≡ Folder))
maybe_filled Nothing = inr (refl, refl)
maybe_filled (File bytes) = inl refl
maybe_filled Folder = inl refl
maybe_filled Other = inl refl

module _ (path : List ℕ) (host : HostState) where
  put_changes : (bytes : List ℕ) → ChangedPath path host (with_file path bytes host)
  put_changes bytes = record {
    elsewhere = λ other outside apart. rw (first_is_false (bytes_eq path other) (is_below path other) outside, apart_below (bytes_eq path other) (is_below path other) outside, apart) refl;
    above = λ other is. rw (not_itself path other is, not_below_both other path is, is) (maybe_filled (host.path other));
    nothing_else = refl;
  }

  made_changes : ChangedPath path host (with_folder path host)
  made_changes = record {
    elsewhere = λ other outside apart. rw (first_is_false (bytes_eq path other) (is_below path other) outside, apart) refl;
    above = λ other is. rw (not_itself path other is, is) (maybe_filled (host.path other));
    nothing_else = refl;
  }

  removal_changes : ChangedPath path host (without_path path host)
  removal_changes = record {
    elsewhere = λ other outside apart. rw outside refl;
    above = λ other is. inl (rw (not_itself path other is, not_below_both other path is) refl);
    nothing_else = refl;
  }

module _ (name : List ℕ) (host : HostState) where
  value_changes : (value : Option (List ℕ)) → ChangedVariable name host (with_value name value host)
  value_changes None = record { others = λ other apart. rw apart refl; nothing_else = refl }
  value_changes (Some value) = record { others = λ other apart. rw apart refl; nothing_else = refl }

-- the whole change is one of the target
pub applied_changes : (wanted : Wanted) (host : HostState) → ChangedTarget wanted host (applied wanted host)
applied_changes (wants.File path contents) host = put_changes path host (unwrap_or contents [])
applied_changes (wants.Folder path) host = made_changes path host
applied_changes (wants.NoFile path) host = removal_changes path host
applied_changes (wants.NoFolder path forced) host = removal_changes path host
applied_changes (wants.Variable name value) host = value_changes name host (Some value)
applied_changes (wants.Entries name value) host = value_changes name host (with_entries (host.variable name) value)
applied_changes (wants.NoVariable name) host = value_changes name host None
applied_changes (wants.NoEntries name value) host = value_changes name host (without_entries (host.variable name) value)
applied_changes (wants.Logged id message) host = inr refl

-- a change that was made where nothing was in the way, and a look after it
pub changed_then_looked : (before between after : Option HostState) (wanted : Wanted) → IfSome before (λ host. InTheWay host wanted → ⊥)
    → Does {A = Unit {0}} {E = HostError} before between (Ok tt) (applied wanted) (ChangedTarget wanted) → after ≡ between
    → TellsStep before after (λ from to. BrokeOff from wanted to)
changed_then_looked None between after wanted clear change same = same ∙ change
changed_then_looked (Some host) between after wanted clear change same =
    (applied wanted host, same ∙ change, record { part = applied_changes wanted host; spared = λ way. absurd (clear way) })

-- a change that broke off where nothing was in the way
pub changed_in_part : (before after : Option HostState) (wanted : Wanted) (error : HostError) → IfSome before (λ host. InTheWay host wanted → ⊥)
    → Does {A = Unit {0}} {E = HostError} before after (Err error) (applied wanted) (ChangedTarget wanted) → TellsStep before after (λ from to. BrokeOff from wanted to)
changed_in_part None after wanted error clear change = change
changed_in_part (Some host) after wanted error clear change = (change.0, change.1, record { part = change.2; spared = λ way. absurd (clear way) })
