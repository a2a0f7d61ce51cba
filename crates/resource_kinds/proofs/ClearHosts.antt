-- A Set that is done leaves nothing in the way of a resource that is apart from it, or of its own.
use Rattle.std.proofs.Common.{◌≡◌, ◌⊎◌, inl, inr, ℕ, ◌+◌, Bool, true, false, cond, List, [], ◌∷◌, ◌++◌, length, slice_get, Option, Some, None, Result, Ok, Err, option_and_then, unwrap_or, refl, sym, ◌∙◌, ap, subst, arith, length-append, All}
use Rattle.std.specs.Option.{IsSomeAnd}
use Rattle.std.specs.Result.{result_ok}
use Rattle.std.specs.Str.{bytes_eq}
use Rattle.std.proofs.lemmas.Bool.{cases_Bool, cases_eq, false≢true}
use Rattle.std.proofs.lemmas.List.{append_assoc}
use Rattle.std.proofs.lemmas.List.Elements.{All-head, All-tail}
use Rattle.std.proofs.lemmas.Option.{same_Some}
use Rattle.dsc_outside.specs.Host.{HostState}
use Rattle.dsc_outside.specs.Paths.{PathKind, Nothing, File, Folder, Other, IsBelow, filled, is_below, is_within, file_put, folder_made, removed}
use Rattle.dsc_document.specs.declared.document.Document.{Document}
use Rattle.dsc_document.specs.declared.document.Resource.{Resource}
use Rattle.resource_kinds.specs.declared.entry.Failure.{Failure}
use Rattle.resource_kinds.specs.declared.entry.Failure.TheVariants as faults
use Rattle.resource_kinds.specs.declared.entry.SetAnswer.{SetAnswer}
use Rattle.resource_kinds.specs.declared.entry.SetAnswer.TheVariants as sets
use Rattle.resource_kinds.specs.declared.entry.Entry.{Entry}
use Rattle.resource_kinds.specs.declared.entry.Entry.TheVariants.{Tested, Set}
use Rattle.resource_kinds.specs.declared.wanted.Wanted.{Wanted}
use Rattle.resource_kinds.specs.declared.wanted.Wanted.TheVariants as wants
use Rattle.resource_kinds.specs.Apart.{Apart, AreApart, Path, closed_path, target_of, wanted_at}
use Rattle.resource_kinds.specs.Documents.{Clear}
use Rattle.resource_kinds.specs.Entries.{with_entries, without_entries}
use Rattle.resource_kinds.specs.Holds.{BarsFile, BarsFolder, InTheWay, applied, with_value}
use Rattle.resource_kinds.specs.Laws.{ClearStays, IsUnbroken, MayBreakOff, SetKeepsClear}
use Rattle.resource_kinds.specs.True.{IsTrueEntry, SetsTrue, True}
use Rattle.resource_kinds.specs.Wanted.{wanted_of}
use Rattle.resource_kinds.proofs.PathSets.{other_bytes, not_below, file_at_path, folder_at_path, nothing_at_path, file_elsewhere, folder_elsewhere, removed_elsewhere, filled_elsewhere}
use Rattle.resource_kinds.proofs.RunLaws.{apart_at, asked_at}
use Rattle.resource_kinds.proofs.SetLaws.{not_around, not_inside, other_path}

-- ---- where something else stands

bars_filled : (kind : PathKind) → BarsFolder (filled kind) → BarsFolder kind
bars_filled Nothing bars = absurd bars
bars_filled (File bytes) bars = bars
bars_filled Folder bars = bars
bars_filled Other bars = bars

bars_above : (over : Bool) (kind : PathKind) → BarsFolder (cond over (filled kind) kind) → BarsFolder kind
bars_above true kind bars = bars_filled kind bars
bars_above false kind bars = bars

bars_beside : (under over : Bool) (kind : PathKind) → BarsFolder (cond under Nothing (cond over (filled kind) kind)) → BarsFolder kind
bars_beside true over kind bars = absurd bars
bars_beside false over kind bars = bars_above over kind bars

bars_unless : (gone : Bool) (kind : PathKind) → BarsFolder (cond gone Nothing kind) → BarsFolder kind
bars_unless true kind bars = absurd bars
bars_unless false kind bars = bars

bars_made : (here over : Bool) (kind : PathKind) → BarsFolder (cond here Folder (cond over (filled kind) kind)) → BarsFolder kind
bars_made true over kind bars = absurd bars
bars_made false over kind bars = bars_above over kind bars

nothing_twice : (gone : Bool) (kind : PathKind) → kind ≡ Nothing → cond gone Nothing kind ≡ Nothing
nothing_twice true kind is = refl
nothing_twice false kind is = is

-- what bars a folder at another place barred one before
put_bars : (path bytes : List ℕ) (paths : List ℕ → PathKind) (x : List ℕ) → (path ≡ x → ⊥) → BarsFolder (file_put path bytes paths x) → BarsFolder (paths x)
put_bars path bytes paths x differ bars =
    let kinds = λ (b : Bool). BarsFolder (cond b (File bytes) (cond (is_below path x) Nothing (cond (is_below x path) (filled (paths x)) (paths x)))) in
    bars_beside (is_below path x) (is_below x path) (paths x) (subst kinds (other_bytes path x differ) bars)

made_bars : (path : List ℕ) (paths : List ℕ → PathKind) (x : List ℕ) → BarsFolder (folder_made path paths x) → BarsFolder (paths x)
made_bars path paths x bars = bars_made (bytes_eq path x) (is_below x path) (paths x) bars

removed_bars : (path : List ℕ) (paths : List ℕ → PathKind) (x : List ℕ) → BarsFolder (removed path paths x) → BarsFolder (paths x)
removed_bars path paths x bars = bars_unless (is_within path x) (paths x) bars

-- where there was nothing there still is, but at the path and above it
put_nothing : (path bytes : List ℕ) (paths : List ℕ → PathKind) (x : List ℕ) → (path ≡ x → ⊥) → (IsBelow x path → ⊥) → paths x ≡ Nothing → file_put path bytes paths x ≡ Nothing
put_nothing path bytes paths x differ apart is = elim (cases_Bool (is_below path x)) [
  | inl under ↦
      ap (λ (b : Bool). cond b (File bytes) (cond (is_below path x) Nothing (cond (is_below x path) (filled (paths x)) (paths x)))) (other_bytes path x differ)
      ∙ ap (λ (b : Bool). cond b Nothing (cond (is_below x path) (filled (paths x)) (paths x))) under
  | inr beside ↦
      ap (λ (b : Bool). cond b (File bytes) (cond (is_below path x) Nothing (cond (is_below x path) (filled (paths x)) (paths x)))) (other_bytes path x differ)
      ∙ ap (λ (b : Bool). cond b Nothing (cond (is_below x path) (filled (paths x)) (paths x))) beside
      ∙ ap (λ (b : Bool). cond b (filled (paths x)) (paths x)) (not_below x path apart) ∙ is
]

made_nothing : (path : List ℕ) (paths : List ℕ → PathKind) (x : List ℕ) → (path ≡ x → ⊥) → (IsBelow x path → ⊥) → paths x ≡ Nothing → folder_made path paths x ≡ Nothing
made_nothing path paths x differ apart is = folder_elsewhere path paths x differ ∙ filled_elsewhere path paths x apart ∙ is

-- ---- paths

below_differs : (x path : List ℕ) → IsBelow x path → path ≡ x → ⊥
below_differs x path under same = omega (arith, ap length same, ap length under.1, length-append x (47 ∷ under.0))

below_both : (a b c : List ℕ) → IsBelow a b → IsBelow b c → IsBelow a c
below_both a b c first second = (
  first.0 ++ 47 ∷ second.0,
  second.1 ∙ ap (λ (l : List ℕ). l ++ 47 ∷ second.0) first.1 ∙ append_assoc a (47 ∷ first.0) (47 ∷ second.0),
)

-- ---- what is in the way

-- what is in the way of a resource was in its way before
record IsNoWorse (old new : List ℕ → PathKind) (other : Wanted) : Type 0 where
  above : (q x : List ℕ) → target_of other ≡ Path q → IsBelow x q → BarsFolder (new x) → BarsFolder (old x)
  stays : (q : List ℕ) → target_of other ≡ Path q → closed_path other ≡ Some q → new q ≡ old q
  at : (q : List ℕ) → target_of other ≡ Path q → BarsFolder (new q) → BarsFolder (old q)
  below : (q x : List ℕ) → target_of other ≡ Path q → closed_path other ≡ Some q → IsBelow q x → old x ≡ Nothing → new x ≡ Nothing

was_in_the_way : (host new : HostState) (other : Wanted) → IsNoWorse host.path new.path other → InTheWay new other → InTheWay host other
was_in_the_way host new (wants.File q contents) is (inl (x, under, bars)) = inl (x, under, is.above q x refl under bars)
was_in_the_way host new (wants.File q contents) is (inr bars) = inr (subst BarsFile (is.stays q refl refl) bars)
was_in_the_way host new (wants.Folder q) is (inl (x, under, bars)) = inl (x, under, is.above q x refl under bars)
was_in_the_way host new (wants.Folder q) is (inr bars) = inr (is.at q refl bars)
was_in_the_way host new (wants.NoFile q) is (inl (x, under, bars)) = inl (x, under, is.above q x refl under bars)
was_in_the_way host new (wants.NoFile q) is (inr bars) = inr (subst BarsFile (is.stays q refl refl) bars)
was_in_the_way host new (wants.NoFolder q forced) is (inl (x, under, bars)) = inl (x, under, is.above q x refl under bars)
was_in_the_way host new (wants.NoFolder q forced) is (inr (inl bars)) = inr (inl (is.at q refl bars))
was_in_the_way host new (wants.NoFolder q forced) is (inr (inr (unforced, folder, (x, under, there)))) =
    inr (inr (unforced, sym (is.stays q refl refl) ∙ folder, (x, under, λ nothing. there (is.below q x refl refl under nothing))))
was_in_the_way host new (wants.Variable name value) is way = way
was_in_the_way host new (wants.Entries name value) is way = way
was_in_the_way host new (wants.NoVariable name) is way = way
was_in_the_way host new (wants.NoEntries name value) is way = way
was_in_the_way host new (wants.Logged id message) is way = way

same_paths : (old new : List ℕ → PathKind) (other : Wanted) → new ≡ old → IsNoWorse old new other
same_paths old new other same = record {
  above = λ q x there under bars. subst (λ (paths : List ℕ → PathKind). BarsFolder (paths x)) same bars;
  stays = λ q there shut. ap (λ (paths : List ℕ → PathKind). paths q) same;
  at = λ q there bars. subst (λ (paths : List ℕ → PathKind). BarsFolder (paths q)) same bars;
  below = λ q x there shut under is. ap (λ (paths : List ℕ → PathKind). paths x) same ∙ is;
}

put_no_worse : (paths : List ℕ → PathKind) (path bytes : List ℕ) (set other : Wanted) → target_of set ≡ Path path → closed_path set ≡ Some path → AreApart set other
    → IsNoWorse paths (file_put path bytes paths) other
put_no_worse paths path bytes set other at shut apart = record {
  above = λ q x there under bars.
      put_bars path bytes paths x (λ same. not_inside set other path q apart shut there (subst (λ (p : List ℕ). IsBelow p q) (sym same) under)) bars;
  stays = λ q there closed.
      file_elsewhere path bytes paths q (other_path set other path q apart at there) (not_inside set other path q apart shut there)
      ∙ filled_elsewhere path paths q (not_around set other path q apart at closed);
  at = λ q there bars. put_bars path bytes paths q (other_path set other path q apart at there) bars;
  below = λ q x there closed under is.
      put_nothing path bytes paths x (λ same. not_around set other path q apart at closed (subst (IsBelow q) (sym same) under))
      (λ over. not_around set other path q apart at closed (below_both q x path under over)) is;
}

made_no_worse : (paths : List ℕ → PathKind) (path : List ℕ) (set other : Wanted) → target_of set ≡ Path path → AreApart set other → IsNoWorse paths (folder_made path paths) other
made_no_worse paths path set other at apart = record {
  above = λ q x there under bars. made_bars path paths x bars;
  stays = λ q there closed.
      folder_elsewhere path paths q (other_path set other path q apart at there) ∙ filled_elsewhere path paths q (not_around set other path q apart at closed);
  at = λ q there bars. made_bars path paths q bars;
  below = λ q x there closed under is.
      made_nothing path paths x (λ same. not_around set other path q apart at closed (subst (IsBelow q) (sym same) under))
      (λ over. not_around set other path q apart at closed (below_both q x path under over)) is;
}

removed_no_worse : (paths : List ℕ → PathKind) (path : List ℕ) (set other : Wanted) → target_of set ≡ Path path → closed_path set ≡ Some path → AreApart set other
    → IsNoWorse paths (removed path paths) other
removed_no_worse paths path set other at shut apart = record {
  above = λ q x there under bars. removed_bars path paths x bars;
  stays = λ q there closed. removed_elsewhere path paths q (other_path set other path q apart at there) (not_inside set other path q apart shut there);
  at = λ q there bars. removed_bars path paths q bars;
  below = λ q x there closed under is. nothing_twice (is_within path x) (paths x) is;
}

value_path : (name : List ℕ) (value : Option (List ℕ)) (host : HostState) → (with_value name value host).path ≡ host.path
value_path name None host = refl
value_path name (Some value) host = refl

no_worse : (host : HostState) (set other : Wanted) → AreApart set other → IsNoWorse host.path (applied set host).path other
no_worse host (wants.File path contents) other apart = put_no_worse host.path path (unwrap_or contents []) (wants.File path contents) other refl refl apart
no_worse host (wants.Folder path) other apart = made_no_worse host.path path (wants.Folder path) other refl apart
no_worse host (wants.NoFile path) other apart = removed_no_worse host.path path (wants.NoFile path) other refl refl apart
no_worse host (wants.NoFolder path forced) other apart = removed_no_worse host.path path (wants.NoFolder path forced) other refl refl apart
no_worse host (wants.Variable name value) other apart = same_paths host.path host.path other refl
no_worse host (wants.Entries name value) other apart =
    same_paths host.path (with_value name (with_entries (host.variable name) value) host).path other (value_path name (with_entries (host.variable name) value) host)
no_worse host (wants.NoVariable name) other apart = same_paths host.path host.path other refl
no_worse host (wants.NoEntries name value) other apart =
    same_paths host.path (with_value name (without_entries (host.variable name) value) host).path other (value_path name (without_entries (host.variable name) value) host)
no_worse host (wants.Logged id message) other apart = same_paths host.path host.path other refl

-- ---- its own way

nothing_is_no_folder : (kind : PathKind) → kind ≡ Nothing → kind ≡ Folder → ⊥
nothing_is_no_folder kind is folder = absurd cc

own_way : (host : HostState) (set : Wanted) → InTheWay (applied set host) set → InTheWay host set
own_way host (wants.File path contents) (inl (x, under, bars)) = inl (x, under, put_bars path (unwrap_or contents []) host.path x (below_differs x path under) bars)
own_way host (wants.File path contents) (inr bars) = absurd (subst BarsFile (file_at_path path (unwrap_or contents []) host.path) bars)
own_way host (wants.Folder path) (inl (x, under, bars)) = inl (x, under, made_bars path host.path x bars)
own_way host (wants.Folder path) (inr bars) = absurd (subst BarsFolder (folder_at_path path host.path) bars)
own_way host (wants.NoFile path) (inl (x, under, bars)) = inl (x, under, removed_bars path host.path x bars)
own_way host (wants.NoFile path) (inr bars) = absurd (subst BarsFile (nothing_at_path path host.path) bars)
own_way host (wants.NoFolder path forced) (inl (x, under, bars)) = inl (x, under, removed_bars path host.path x bars)
own_way host (wants.NoFolder path forced) (inr (inl bars)) = absurd (subst BarsFolder (nothing_at_path path host.path) bars)
own_way host (wants.NoFolder path forced) (inr (inr (unforced, folder, inhabited))) =
    absurd (nothing_is_no_folder (removed path host.path path) (nothing_at_path path host.path) folder)
own_way host (wants.Variable name value) way = way
own_way host (wants.Entries name value) way = way
own_way host (wants.NoVariable name) way = way
own_way host (wants.NoEntries name value) way = way
own_way host (wants.Logged id message) way = way

pub keeps_clear : SetKeepsClear
keeps_clear host document place set apart asks clear r wanted asks_r way = elim (cases_eq place r) [
  | inl same ↦
      let is : set ≡ wanted = same_Some set wanted (sym asks ∙ ap (wanted_at document) same ∙ asks_r) in
      clear place set asks (own_way host set (subst (InTheWay (applied set host)) (sym is) way))
  | inr differ ↦
      clear r wanted asks_r (was_in_the_way host (applied set host) wanted (no_worse host set wanted (apart_at document place r set wanted apart differ asks asks_r)) way)
]

-- ---- a run

-- a Set that did not break off did all or nothing
whole_step : (before after : HostState) (id : List ℕ) (asks : Result Wanted Failure) (answer : SetAnswer) → (MayBreakOff answer → ⊥) → SetsTrue before id asks answer after
    → (after ≡ before) ⊎ ((set : Wanted) × (asks ≡ Ok set) × (after ≡ applied set before))
whole_step before after id (Ok set) sets.Done whole shown = inr (set, refl, shown.0.applied)
whole_step before after id (Ok set) sets.Reboot whole shown = inr (set, refl, shown.0.applied)
whole_step before after id (Ok set) (sets.Fault faults.NoSuchResource) whole shown = absurd shown
whole_step before after id (Ok set) (sets.Fault (faults.OutOfProfile name)) whole shown = absurd shown
whole_step before after id (Ok set) (sets.Fault faults.BadPath) whole shown = absurd shown
whole_step before after id (Ok set) (sets.Fault faults.InTheWay) whole shown = inl shown.1
whole_step before after id (Ok set) (sets.Fault faults.HostFailed) whole shown = absurd (whole refl)
whole_step before after id (Ok set) sets.Memory whole shown = absurd (whole tt)
whole_step before after id (Err failure) answer whole shown = inl shown.1

set_clear : (document : Document) (before after : HostState) (place : ℕ) (answer : SetAnswer) (resource : Option Resource) → slice_get document.resources place ≡ resource → Apart document
    → (MayBreakOff answer → ⊥) → IsSomeAnd resource (λ x. SetsTrue before x.id (wanted_of x) answer after) → Clear before document → Clear after document
set_clear document before after place answer None at apart whole shown clear = absurd shown
set_clear document before after place answer (Some resource) at apart whole shown clear = elim (whole_step before after resource.id (wanted_of resource) answer whole shown) [
  | inl same ↦ subst (λ (h : HostState). Clear h document) (sym same) clear
  | inr (set, is, made) ↦
      subst (λ (h : HostState). Clear h document) (sym made) (keeps_clear before document place set apart (asked_at document place resource set at is) clear)
]

entry_clear : (document : Document) (before after : HostState) (e : Entry) → Apart document → IsUnbroken e → IsTrueEntry before document e after → Clear before document → Clear after document
entry_clear document before after (Tested place answer) apart whole shown clear = subst (λ (h : HostState). Clear h document) (sym shown.0) clear
entry_clear document before after (Set place answer) apart whole shown clear =
    set_clear document before after place answer (slice_get document.resources place) refl apart whole shown clear

pub clear_stays : ClearStays
clear_stays document before after [] apart shown whole clear = subst (λ (h : HostState). Clear h document) shown clear
clear_stays document before after (e ∷ es) apart shown whole clear =
    clear_stays document shown.0 after es apart shown.2 (All-tail IsUnbroken e es whole)
    (entry_clear document before shown.0 e apart (All-head IsUnbroken e es whole) shown.1 clear)
