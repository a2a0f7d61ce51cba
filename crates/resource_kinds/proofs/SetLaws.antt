-- What a Set leaves of its own resource, and of the resources apart from it.
use Rattle.std.proofs.Common.{◌≡◌, inl, inr, ℕ, Bool, true, false, cond, ◌||◌, ◌&&◌, IsTrue, List, [], ◌∷◌, ◌++◌, Option, Some, None, unwrap_or, refl, sym, ◌∙◌, ap, ap₂, subst}
use Rattle.std.proofs.lemmas.Bool.{and_from, cases_Bool}
use Rattle.std.proofs.lemmas.List.Elements.{All-head, All-tail}
use Rattle.std.proofs.lemmas.List.Folds.{list_any-append}
use Rattle.std.specs.Map.{update}
use Rattle.std.specs.Str.{bytes_eq}
use Rattle.dsc_outside.specs.Host.{HostState, has_entry}
use Rattle.dsc_outside.specs.Paths.{PathKind, Folder, IsBelow, is_below, is_within, file_put, folder_made, removed}
use Rattle.dsc_outside.specs.Changes.{ChangedPath, ChangedVariable, without_path}
use Rattle.dsc_outside.specs.declared.entries.LogEntry.{LogEntry}
use Rattle.resource_kinds.specs.declared.wanted.Wanted.{Wanted}
use Rattle.resource_kinds.specs.declared.wanted.Wanted.TheVariants as wants
use Rattle.resource_kinds.specs.Apart.{Path, Variable, AreApart, closed_path, target_of}
use Rattle.resource_kinds.specs.Entries.{HasEntries, LacksEntries, with_entries, without_entries}
use Rattle.resource_kinds.specs.Holds.{Holds, IsFile, applied, with_value}
use Rattle.resource_kinds.specs.Laws.{FailureKeepsApart, SetKeepsApart, SetMakesHold, SetsKeepApart}
use Rattle.resource_kinds.proofs.PathSets.{same_bytes, other_bytes, not_below, file_at_path, folder_at_path, nothing_at_path, file_elsewhere, folder_elsewhere, removed_elsewhere, filled_elsewhere, folder_above}

-- ---- variables

pub value_here : (name : List ℕ) (value : Option (List ℕ)) (host : HostState) → (with_value name value host).variable name ≡ value
value_here name None host = ap (λ b. cond b None (host.variable name)) (same_bytes name)
value_here name (Some value) host = ap (λ b. cond b (Some value) (host.variable name)) (same_bytes name)

pub value_elsewhere : (name : List ℕ) (value : Option (List ℕ)) (host : HostState) (other : List ℕ) → (name ≡ other → ⊥)
    → (with_value name value host).variable other ≡ host.variable other
value_elsewhere name None host other apart = ap (λ b. cond b None (host.variable other)) (other_bytes name other apart)
value_elsewhere name (Some value) host other apart = ap (λ b. cond b (Some value) (host.variable other)) (other_bytes name other apart)

-- ---- what the Sets make

pub or_right : (a b : Bool) → b ≡ true → (a || b) ≡ true
or_right true b is = refl
or_right false b is = is

logged_here : (log : List LogEntry) (id message : List ℕ) → IsTrue (has_entry (log ++ record { id = id; message = message } ∷ []) id message)
logged_here log id message =
    list_any-append (λ e. bytes_eq e.id id && bytes_eq e.message message) log _
    ∙ or_right (has_entry log id message) _ (ap (λ b. b || false) (and_from _ _ (same_bytes id) (same_bytes message)))

-- `present` and `absent` are the laws of entries
pub makes_hold : ((old : Option (List ℕ)) (value : List ℕ) → HasEntries (with_entries old value) value)
    → ((old : Option (List ℕ)) (value : List ℕ) → LacksEntries (without_entries old value) value) → SetMakesHold
makes_hold present absent host (wants.File path None) = ([], file_at_path path [] host.path)
makes_hold present absent host (wants.File path (Some contents)) = file_at_path path contents host.path
makes_hold present absent host (wants.Folder path) = folder_at_path path host.path
makes_hold present absent host (wants.NoFile path) = nothing_at_path path host.path
makes_hold present absent host (wants.NoFolder path forced) = nothing_at_path path host.path
makes_hold present absent host (wants.Variable name value) = value_here name (Some value) host
makes_hold present absent host (wants.Entries name value) =
    let made = with_entries (host.variable name) value in
    subst (λ v. HasEntries v value) (sym (value_here name made host)) (present (host.variable name) value)
makes_hold present absent host (wants.NoVariable name) = value_here name None host
makes_hold present absent host (wants.NoEntries name value) =
    let made = without_entries (host.variable name) value in
    subst (λ v. LacksEntries v value) (sym (value_here name made host)) (absent (host.variable name) value)
makes_hold present absent host (wants.Logged id message) = logged_here host.log id message

-- ---- what holds where one part of the machine is another

pub paths_keep : (host : HostState) (paths : List ℕ → PathKind) (other : Wanted)
    → ((path : List ℕ) → target_of other ≡ Path path → closed_path other ≡ Some path → paths path ≡ host.path path)
    → ((path : List ℕ) → target_of other ≡ Path path → host.path path ≡ Folder → paths path ≡ Folder)
    → Holds host other → Holds (record host { path = paths }) other
paths_keep host paths (wants.File path None) stays folders holds = subst IsFile (sym (stays path refl refl)) holds
paths_keep host paths (wants.File path (Some contents)) stays folders holds = stays path refl refl ∙ holds
paths_keep host paths (wants.Folder path) stays folders holds = folders path refl holds
paths_keep host paths (wants.NoFile path) stays folders holds = stays path refl refl ∙ holds
paths_keep host paths (wants.NoFolder path forced) stays folders holds = stays path refl refl ∙ holds
paths_keep host paths (wants.Variable name value) stays folders holds = holds
paths_keep host paths (wants.Entries name value) stays folders holds = holds
paths_keep host paths (wants.NoVariable name) stays folders holds = holds
paths_keep host paths (wants.NoEntries name value) stays folders holds = holds
paths_keep host paths (wants.Logged id message) stays folders holds = holds

pub variables_keep : (host : HostState) (variables : List ℕ → Option (List ℕ)) (other : Wanted)
    → ((name : List ℕ) → target_of other ≡ Variable name → variables name ≡ host.variable name)
    → Holds host other → Holds (record host { variable = variables }) other
variables_keep host variables (wants.File path None) stays holds = holds
variables_keep host variables (wants.File path (Some contents)) stays holds = holds
variables_keep host variables (wants.Folder path) stays holds = holds
variables_keep host variables (wants.NoFile path) stays holds = holds
variables_keep host variables (wants.NoFolder path forced) stays holds = holds
variables_keep host variables (wants.Variable name value) stays holds = stays name refl ∙ holds
variables_keep host variables (wants.Entries name value) stays holds = subst (λ v. HasEntries v value) (sym (stays name refl)) holds
variables_keep host variables (wants.NoVariable name) stays holds = stays name refl ∙ holds
variables_keep host variables (wants.NoEntries name value) stays holds = subst (λ v. LacksEntries v value) (sym (stays name refl)) holds
variables_keep host variables (wants.Logged id message) stays holds = holds

pub log_keeps : (host : HostState) (more : List LogEntry) (other : Wanted) → Holds host other → Holds (record host { log = host.log ++ more }) other
log_keeps host more (wants.File path None) holds = holds
log_keeps host more (wants.File path (Some contents)) holds = holds
log_keeps host more (wants.Folder path) holds = holds
log_keeps host more (wants.NoFile path) holds = holds
log_keeps host more (wants.NoFolder path forced) holds = holds
log_keeps host more (wants.Variable name value) holds = holds
log_keeps host more (wants.Entries name value) holds = holds
log_keeps host more (wants.NoVariable name) holds = holds
log_keeps host more (wants.NoEntries name value) holds = holds
log_keeps host more (wants.Logged id message) holds =
    list_any-append (λ e. bytes_eq e.id id && bytes_eq e.message message) host.log more ∙ ap (λ b. b || has_entry more id message) holds

-- ---- what is apart

-- the paths of resources that are apart differ
pub other_path : (set other : Wanted) (path q : List ℕ) → AreApart set other → target_of set ≡ Path path → target_of other ≡ Path q → path ≡ q → ⊥
other_path set other path q apart at there same = apart (inl (at ∙ ap Path same ∙ sym there))

-- below a path at which no folder is asked for, nothing else is asked for
pub not_inside : (set other : Wanted) (path q : List ℕ) → AreApart set other → closed_path set ≡ Some path → target_of other ≡ Path q → IsBelow path q → ⊥
not_inside set other path q apart shut there under = apart (inr (inl (path, q, shut, there, under)))

pub not_around : (set other : Wanted) (path q : List ℕ) → AreApart set other → target_of set ≡ Path path → closed_path other ≡ Some q → IsBelow q path → ⊥
not_around set other path q apart at shut over = apart (inr (inr (q, path, shut, at, over)))

without_keeps : (host : HostState) (set other : Wanted) (path : List ℕ) → target_of set ≡ Path path → closed_path set ≡ Some path
    → AreApart set other → Holds host other → Holds (without_path path host) other
without_keeps host set other path at shut apart holds =
    let stays = λ (q : List ℕ) (there : target_of other ≡ Path q).
    removed_elsewhere path host.path q (other_path set other path q apart at there) (not_inside set other path q apart shut there) in
    paths_keep host (removed path host.path) other (λ q there closed. stays q there) (λ q there is. stays q there ∙ is) holds

value_keeps : (host : HostState) (name : List ℕ) (value : Option (List ℕ)) (other : Wanted)
    → (Variable name ≡ target_of other → ⊥) → Holds host other → Holds (with_value name value host) other
value_keeps host name None other apart holds =
    variables_keep host (update bytes_eq host.variable name None) other
    (λ q there. value_elsewhere name None host q (λ same. apart (ap Variable same ∙ sym there))) holds
value_keeps host name (Some value) other apart holds =
    variables_keep host (update bytes_eq host.variable name (Some value)) other
    (λ q there. value_elsewhere name (Some value) host q (λ same. apart (ap Variable same ∙ sym there))) holds

pub keeps_apart : SetKeepsApart
keeps_apart host (wants.File path contents) other apart holds =
    let set = wants.File path contents in
    let bytes = unwrap_or contents [] in
    let put = λ (q : List ℕ) (there : target_of other ≡ Path q).
    file_elsewhere path bytes host.path q (other_path set other path q apart refl there) (not_inside set other path q apart refl there) in
    paths_keep host (file_put path bytes host.path) other
    (λ q there shut. put q there ∙ filled_elsewhere path host.path q (not_around set other path q apart refl shut))
    (λ q there is. put q there ∙ folder_above path host.path q is) holds
keeps_apart host (wants.Folder path) other apart holds =
    let set = wants.Folder path in
    let made = λ (q : List ℕ) (there : target_of other ≡ Path q). folder_elsewhere path host.path q (other_path set other path q apart refl there) in
    paths_keep host (folder_made path host.path) other
    (λ q there shut. made q there ∙ filled_elsewhere path host.path q (not_around set other path q apart refl shut))
    (λ q there is. made q there ∙ folder_above path host.path q is) holds
keeps_apart host (wants.NoFile path) other apart holds = without_keeps host (wants.NoFile path) other path refl refl apart holds
keeps_apart host (wants.NoFolder path forced) other apart holds = without_keeps host (wants.NoFolder path forced) other path refl refl apart holds
keeps_apart host (wants.Variable name value) other apart holds = value_keeps host name (Some value) other (λ same. apart (inl same)) holds
keeps_apart host (wants.Entries name value) other apart holds =
    value_keeps host name (with_entries (host.variable name) value) other (λ same. apart (inl same)) holds
keeps_apart host (wants.NoVariable name) other apart holds = value_keeps host name None other (λ same. apart (inl same)) holds
keeps_apart host (wants.NoEntries name value) other apart holds =
    value_keeps host name (without_entries (host.variable name) value) other (λ same. apart (inl same)) holds
keeps_apart host (wants.Logged id message) other apart holds = log_keeps host (record { id = id; message = message } ∷ []) other holds

-- ---- a Set that failed

within_none : (path other : List ℕ) → (path ≡ other → ⊥) → (IsBelow path other → ⊥) → is_within path other ≡ false
within_none path other apart above = ap₂ (λ b c. b || c) (other_bytes path other apart) (not_below path other above)

-- a folder above the path stays
changed_above : (path other : List ℕ) (old new : HostState) → is_within path other ≡ false → ChangedPath path old new → old.path other ≡ Folder → new.path other ≡ Folder
changed_above path other old new outside changed is = elim (cases_Bool (is_below other path)) [
  | inl over ↦ elim (changed.above other over) [
    | inl same ↦ same ∙ is
    | inr filled ↦ filled.1
  ]
  | inr not_over ↦ changed.elsewhere other outside not_over ∙ is
]

path_failed : (old new : HostState) (set other : Wanted) (path : List ℕ) → target_of set ≡ Path path → closed_path set ≡ Some path → AreApart set other
    → ChangedPath path old new → Holds old other → Holds new other
path_failed old new set other path at shut apart changed holds =
    let outside = λ (q : List ℕ) (there : target_of other ≡ Path q).
    within_none path q (other_path set other path q apart at there) (not_inside set other path q apart shut there) in
    subst (λ h. Holds h other) (sym changed.nothing_else)
    (paths_keep old new.path other
    (λ q there closed. changed.elsewhere q (outside q there) (not_below q path (not_around set other path q apart at closed)))
    (λ q there is. changed_above path q old new (outside q there) changed is) holds)

variable_failed : (old new : HostState) (name : List ℕ) (other : Wanted) → (Variable name ≡ target_of other → ⊥) → ChangedVariable name old new
    → Holds old other → Holds new other
variable_failed old new name other apart changed holds =
    subst (λ h. Holds h other) (sym changed.nothing_else)
    (variables_keep old new.variable other (λ q there. changed.others q (other_bytes name q (λ same. apart (ap Variable same ∙ sym there)))) holds)

pub failure_keeps : FailureKeepsApart
failure_keeps old new (wants.File path contents) other apart closed changed holds = path_failed old new (wants.File path contents) other path refl refl apart changed holds
failure_keeps old new (wants.Folder path) other apart closed changed holds = absurd (closed tt)
failure_keeps old new (wants.NoFile path) other apart closed changed holds = path_failed old new (wants.NoFile path) other path refl refl apart changed holds
failure_keeps old new (wants.NoFolder path forced) other apart closed changed holds = path_failed old new (wants.NoFolder path forced) other path refl refl apart changed holds
failure_keeps old new (wants.Variable name value) other apart closed changed holds = variable_failed old new name other (λ same. apart (inl same)) changed holds
failure_keeps old new (wants.Entries name value) other apart closed changed holds = variable_failed old new name other (λ same. apart (inl same)) changed holds
failure_keeps old new (wants.NoVariable name) other apart closed changed holds = variable_failed old new name other (λ same. apart (inl same)) changed holds
failure_keeps old new (wants.NoEntries name value) other apart closed changed holds = variable_failed old new name other (λ same. apart (inl same)) changed holds
failure_keeps old new (wants.Logged id message) other apart closed changed holds = elim changed [
  | inl same ↦ subst (λ h. Holds h other) (sym same) holds
  | inr done ↦ subst (λ h. Holds h other) (sym done) (log_keeps old (record { id = id; message = message } ∷ []) other holds)
]

-- ---- Sets in turn

pub in_turn : SetsKeepApart
in_turn host [] other apart holds = holds
in_turn host (set ∷ sets) other apart holds =
    in_turn (applied set host) sets other (All-tail (λ s. AreApart s other) set sets apart)
    (keeps_apart host set other (All-head (λ s. AreApart s other) set sets apart) holds)
