-- What the entries of a host in memory say of its paths.
use Rattle.std.proofs.Common.{◌≡◌, ℕ, ◌+◌, ◌<◌, List, [], ◌∷◌, ◌++◌, Bool, true, false, not, cond, ◌==◌, ◌&&◌, ◌||◌, Option, Some, None, inl, inr, length, take, get_or, refl, sym, ap, subst, ◌∙◌}
use Rattle.std.specs.List.{filter, list_any}
use Rattle.std.specs.Str.{bytes_eq}
use Rattle.std.proofs.lemmas.Bool.{cases_Bool, both_ways, or_parts}
use Rattle.std.proofs.lemmas.List.{take_more}
use Rattle.dsc_outside.proofs.Below.{below_found, below_says, below_push, not_below_both, not_below_itself}
use Rattle.memory_outside.proofs.Named.{bytes_own, bytes_same, bytes_swap, named_filter}
use Rattle.memory_outside.specs.MemoryHost.{Adds, AreMissing, IsPushed, first_kind, folder_if, kind_at, kind_of, standing_at}
use Rattle.dsc_outside.specs.Paths.{IsEmpty, IsInhabited, PathKind, Nothing, File, Folder, Other, file_put, filled, folder_made, is_below, is_nothing, is_within, removed}
use Rattle.memory_outside.specs.declared.paths.PathEntry.{PathEntry}
use Rattle.memory_outside.specs.declared.paths.PathContent.{PathContent}
use Rattle.memory_outside.specs.declared.paths.PathContent.TheVariants as standings

pub stands : (s : PathContent) → is_nothing (kind_of (Some s)) ≡ false
stands (standings.File bytes) = refl
stands standings.Folder = refl
stands standings.Other = refl

pub not_nothing : (s : PathContent) → kind_of (Some s) ≡ Nothing → ⊥
not_nothing s e = both_ways _ (stands s) (ap is_nothing e)

pub kind_append : (xs ys : List PathEntry) (path : List ℕ) → kind_at (xs ++ ys) path ≡ first_kind (kind_at xs path) (kind_at ys path)
kind_append [] ys path = refl
kind_append (x ∷ xs) ys path = elim (cases_Bool (bytes_eq x.path path)) [
  | inl same ↦ rw (same, stands x.stands) refl
  | inr apart ↦ rw apart (kind_append xs ys path)
]

kind_alone : (b : Bool) (s : PathContent) → kind_of (cond b (Some s) None) ≡ cond b (kind_of (Some s)) Nothing
kind_alone true s = refl
kind_alone false s = refl

pub kind_pushed : (e : PathEntry) (path : List ℕ) (stands : PathContent) (old now : List PathEntry) → now ≡ old ++ e ∷ [] → e ≡ record { path = path; stands = stands } → IsPushed path (kind_of (Some stands)) old now
kind_pushed e path stands old now pushed is other =
    rw (pushed, is) (kind_append old (record { path = path; stands = stands } ∷ []) other ∙ ap (first_kind (kind_at old other)) (kind_alone (bytes_eq path other) stands))

kind_gone : (gone : Bool) (o : Option PathContent) → kind_of (cond gone None o) ≡ cond gone Nothing (kind_of o)
kind_gone true o = refl
kind_gone false o = refl

-- what is left where some paths are gone
pub kind_filter : (gone : List ℕ → Bool) (es : List PathEntry) (path : List ℕ) → kind_at (filter (λ e. not (gone e.path)) es) path ≡ cond (gone path) Nothing (kind_at es path)
kind_filter gone es path = ap kind_of (named_filter (λ e. e.path) (λ e. e.stands) gone es path) ∙ kind_gone (gone path) _

pub kind_removed : (path : List ℕ) (es : List PathEntry) → kind_at (filter (λ e. not (is_within path e.path)) es) ≡ removed path (kind_at es)
kind_removed path es = λ i other. kind_filter (is_within path) es other i

as_it_is : (k : PathKind) → first_kind k (first_kind (folder_if false) Nothing) ≡ k
as_it_is Nothing = refl
as_it_is (File bytes) = refl
as_it_is Folder = refl
as_it_is Other = refl

as_filled : (k : PathKind) → first_kind k (first_kind (folder_if (is_nothing k)) Nothing) ≡ filled k
as_filled Nothing = refl
as_filled (File bytes) = refl
as_filled Folder = refl
as_filled Other = refl

-- above a path, or beside it
beside : (path other : List ℕ) (k : PathKind) → first_kind k (first_kind (folder_if (is_below other path && is_nothing k)) Nothing) ≡ cond (is_below other path) (filled k) k
beside path other k = elim (cases_Bool (is_below other path)) [
  | inl above ↦ rw above (as_filled k)
  | inr apart ↦ rw apart (as_it_is k)
]

pub at_path : (path other : List ℕ) → bytes_eq path other ≡ true → is_below other path ≡ false
at_path path other same = subst (λ (p : List ℕ). is_below p path ≡ false) (bytes_same path other same) (not_below_itself path)

put_at : (path other : List ℕ) (k kind : PathKind)
    → first_kind (cond (is_within path other) Nothing k) (first_kind (folder_if (is_below other path && is_nothing k)) (cond (bytes_eq path other) kind Nothing))
    ≡ cond (bytes_eq path other) kind (cond (is_below path other) Nothing (cond (is_below other path) (filled k) k))
put_at path other k kind = elim (cases_Bool (bytes_eq path other)) [
  | inl same ↦ rw (same, at_path path other same) refl
  | inr apart ↦ elim (cases_Bool (is_below path other)) [
    | inl below ↦ rw (apart, below, not_below_both path other below) refl
    | inr not_below ↦ rw (apart, not_below) (beside path other k)
  ]
]

pub kind_put : (path bytes : List ℕ) (old rest added : List PathEntry) → kind_at rest ≡ removed path (kind_at old) → Adds path old (File bytes) added
    → kind_at (rest ++ added) ≡ file_put path bytes (kind_at old)
kind_put path bytes old rest added left adds = λ i other. put other i
  where
    put : (other : List ℕ) → kind_at (rest ++ added) other ≡ file_put path bytes (kind_at old) other
    put other = kind_append rest added other ∙ (rw (ap (λ (f : List ℕ → PathKind). f other) left, adds other) (put_at path other (kind_at old other) (File bytes)))

made_at : (path other : List ℕ) (k : PathKind)
    → first_kind (cond (bytes_eq other path) Nothing k) (first_kind (folder_if (is_below other path && is_nothing k)) (cond (bytes_eq path other) Folder Nothing))
    ≡ cond (bytes_eq path other) Folder (cond (is_below other path) (filled k) k)
made_at path other k = rw (bytes_swap other path) (elim (cases_Bool (bytes_eq path other)) [
  | inl same ↦ rw (same, at_path path other same) refl
  | inr apart ↦ rw apart (beside path other k)
])

pub kind_made : (path : List ℕ) (old added : List PathEntry) → Adds path old Folder added
    → kind_at (filter (λ e. not (bytes_eq e.path path)) old ++ added) ≡ folder_made path (kind_at old)
kind_made path old added adds = λ i other. made other i
  where
    made : (other : List ℕ) → kind_at (filter (λ e. not (bytes_eq e.path path)) old ++ added) other ≡ folder_made path (kind_at old) other
    made other = kind_append (filter (λ e. not (bytes_eq e.path path)) old) added other
        ∙ (rw (kind_filter (λ p. bytes_eq p path) old other, adds other) (made_at path other (kind_at old other)))

both_missing : (b q n : Bool) → first_kind (folder_if (b && n)) (folder_if (q && n)) ≡ folder_if ((b || q) && n)
both_missing true true true = refl
both_missing true true false = refl
both_missing true false true = refl
both_missing true false false = refl
both_missing false true true = refl
both_missing false true false = refl
both_missing false false true = refl
both_missing false false false = refl

-- a folder that is added where nothing stands, and none where something stands
pub missing_pushed : (folder : List ℕ) (paths : List PathEntry) (other : List ℕ) → is_nothing (kind_at paths folder) ≡ true
    → cond (bytes_eq folder other) Folder Nothing ≡ folder_if (bytes_eq folder other && is_nothing (kind_at paths other))
missing_pushed folder paths other free = elim (cases_Bool (bytes_eq folder other)) [
  | inl same ↦ let free_there = subst (λ (p : List ℕ). is_nothing (kind_at paths p) ≡ true) (bytes_same folder other same) free in rw (same, free_there) refl
  | inr apart ↦ rw apart refl
]

first_alone : (k : PathKind) → first_kind k Nothing ≡ k
first_alone Nothing = refl
first_alone (File bytes) = refl
first_alone Folder = refl
first_alone Other = refl

pub taken_stays : (folder : List ℕ) (paths missing : List PathEntry) (other : List ℕ) → is_nothing (kind_at paths folder) ≡ false
    → kind_at missing other ≡ first_kind (kind_at missing other) (folder_if (bytes_eq folder other && is_nothing (kind_at paths other)))
taken_stays folder paths missing other taken = elim (cases_Bool (bytes_eq folder other)) [
  | inl same ↦ let taken_there = subst (λ (p : List ℕ). is_nothing (kind_at paths p) ≡ false) (bytes_same folder other same) taken in rw (same, taken_there) (sym (first_alone _))
  | inr apart ↦ rw apart (sym (first_alone _))
]

further : (path : List ℕ) (at : ℕ) (other : List ℕ) → at < length path → is_below other (take (at + 1) path) ≡ (is_below other (take at path) || (get_or path at 0 == 47 && bytes_eq other (take at path)))
further path at other lt = ap (is_below other) (take_more path at 0 lt) ∙ below_push other (take at path) (get_or path at 0)

pub missing_more : (path : List ℕ) (at : ℕ) (old missing new : List PathEntry) → at < length path → (get_or path at 0 == 47) ≡ true → AreMissing (take at path) old missing
    → ((other : List ℕ) → kind_at new other ≡ first_kind (kind_at missing other) (folder_if (bytes_eq (take at path) other && is_nothing (kind_at old other))))
    → AreMissing (take (at + 1) path) old new
missing_more path at old missing new lt slash had adds other =
    adds other ∙ (rw (had other, further path at other lt, slash, bytes_swap (take at path) other) (both_missing (is_below other (take at path)) (bytes_eq other (take at path)) (is_nothing (kind_at old other))))

pub missing_same : (path : List ℕ) (at : ℕ) (old missing : List PathEntry) → at < length path → (get_or path at 0 == 47) ≡ false → AreMissing (take at path) old missing
    → AreMissing (take (at + 1) path) old missing
missing_same path at old missing lt no_slash had other =
    had other ∙ (rw (further path at other lt, no_slash) (same_or (is_below other (take at path)) (is_nothing (kind_at old other))))
  where
    same_or : (b n : Bool) → folder_if (b && n) ≡ folder_if ((b || false) && n)
    same_or true n = refl
    same_or false n = refl

-- what is below something
pub inhabited : (path : List ℕ) (es : List PathEntry) → list_any (λ e. is_below path e.path) es ≡ true → IsInhabited (kind_at es) path
inhabited path [] e = absurd (both_ways _ refl e)
inhabited path (x ∷ es) e = elim (cases_Bool (is_below path x.path)) [
  | inl below ↦ (x.path, below_says path x.path below, λ none. not_nothing x.stands (subst (λ (b : Bool). kind_of (cond b (Some x.stands) (standing_at es x.path)) ≡ Nothing) (bytes_own x.path) none))
  | inr apart ↦
      let rest = inhabited path es (rw apart at e) in (
        rest.0,
        rest.1,
        λ none. elim (cases_Bool (bytes_eq x.path rest.0)) [
          | inl same ↦ not_nothing x.stands (subst (λ (b : Bool). kind_of (cond b (Some x.stands) (standing_at es rest.0)) ≡ Nothing) same none)
          | inr other ↦ rest.2 (subst (λ (b : Bool). kind_of (cond b (Some x.stands) (standing_at es rest.0)) ≡ Nothing) other none)
        ],
      )
]

pub empty : (path : List ℕ) (es : List PathEntry) → list_any (λ e. is_below path e.path) es ≡ false → IsEmpty (kind_at es) path
empty path [] e other below = refl
empty path (x ∷ es) e other below =
    let parts = or_parts (is_below path x.path) (list_any (λ y. is_below path y.path) es) e in
    elim (cases_Bool (bytes_eq x.path other)) [
      | inl same ↦ absurd (both_ways _ parts.0 (ap (is_below path) (bytes_same x.path other same) ∙ below_found path other below))
      | inr apart ↦ rw apart (empty path es parts.1 other below)
    ]
