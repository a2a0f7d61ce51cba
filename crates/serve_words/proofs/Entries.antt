-- The rows of a walk without faults: each option at most once, each with one value that its parser takes.
use Rattle.std.proofs.Common.{◌≡◌, ◌∙◌, ◌++◌, Bool, true, false, not, List, [], ◌∷◌, refl, sym, ap, subst, map, Option, Some, None, bytes_eq, cond, ◌&&◌, ◌||◌, if◌then◌else◌}
use Rattle.std.specs.Prelude.{find, fold}
use Rattle.std.specs.Option.{option_map_or}
use Rattle.std.proofs.lemmas.List.{append-nil, map_push}
use Rattle.clap.specs.Facts.{explicit_source}
use Rattle.clap.specs.Faults.{check_fault, settle_fault, use_fault}
use Rattle.clap.specs.Takes.{is_given}
use Rattle.clap.specs.Walk.{Held, Row, Text, at_row, finished, has_row, more_values, reading_by, settled, used, with_default, with_values, without}
use Rattle.clap.specs.ValueTests.{accepts}
use Rattle.clap.specs.declared.error.kind.ErrorKind.{ErrorKind}
use Rattle.clap.specs.declared.error.kind.ErrorKind.TheVariants as kind
use Rattle.clap.specs.declared.parser.matches.ValueSource.TheVariants.{CommandLine}
use Rattle.serve_words.proofs.Options.{Which, connections, help, listen, name, parser, rule, rules, same_option, shape, shelf, store}
use Rattle.serve_words.proofs.Turns.{Place, closed, first_empty, full, held_at, opened, settled_at, some_empty}

abbrev pub Entry : Type 0
Entry = Which × Text

abbrev pub row : Entry → Row
row e = record { id = name e.0; values = e.1 ∷ []; count = None; source = Some CommandLine; reading = reading_by (rule e.0) }

abbrev pub rows_of : List Entry → List Row
rows_of = map row

abbrev pub Takes : Entry → Type 0
Takes e = accepts false (parser e.0) e.1 ≡ true

abbrev pub Each : (Entry → Type 0) → List Entry → Type 0
Each P [] = Unit {0}
Each P (e ∷ es) = P e × Each P es

pub each_push : (P : Entry → Type 0) (es : List Entry) (e : Entry) → Each P es → P e → Each P (es ++ e ∷ [])
each_push P [] e all holds = (holds, tt)
each_push P (x ∷ xs) e all holds = (all.0, each_push P xs e all.1 holds)

-- ---- one use

-- a row with a new id is put at the end
fresh : (id : Text) (change : Row → List Row) (missing rows : List Row) → has_row id rows ≡ false → at_row id change missing rows ≡ rows ++ missing
fresh id change missing [] h = refl
fresh id change missing (r ∷ rs) h = go (bytes_eq r.id id) h (fresh id change missing rs)
  where
    go : (b : Bool) → (b || has_row id rs) ≡ false → (has_row id rs ≡ false → at_row id change missing rs ≡ rs ++ missing)
        → (if b then change r ++ rs else r ∷ at_row id change missing rs) ≡ r ∷ rs ++ missing
    go true e rec = let bad : true ≡ false = e in cc
    go false e rec = ap (λ (l : List Row). r ∷ l) (rec e)

not_there : (b : Bool) (k : ErrorKind) → (if b && not false then k ∷ [] else []) ≡ [] → b ≡ false
not_there true k h = absurd (some_empty k [] h)
not_there false k h = refl

is_taken : (b : Bool) (k : ErrorKind) → (if b then [] else k ∷ []) ≡ [] → b ≡ true
is_taken true k h = refl
is_taken false k h = absurd (some_empty k [] h)

pub use_adds : (o : Which) (v : Text) (es : List Entry) → use_fault false (rule o) (v ∷ []) (rows_of es) ≡ []
    → (used (rule o) (v ∷ []) (rows_of es) ≡ rows_of (es ++ (o, v) ∷ [])) × Takes (o, v)
use_adds o v es h =
    let parts = first_empty _ _ h in
    let new : has_row (name o) (rows_of es) ≡ false = not_there _ kind.ArgumentConflict parts.0 in
    let left : without (name o) (rows_of es) ≡ rows_of es = fresh (name o) (λ _. []) [] (rows_of es) new ∙ append-nil (rows_of es) in
    let put = fresh (name o) (more_values CommandLine (v ∷ [])) (row (o, v) ∷ []) (rows_of es) new in (
      ap (with_values (name o) (reading_by (rule o)) CommandLine (v ∷ [])) left ∙ put ∙ sym (map_push row es (o, v)),
      is_taken _ _ (first_empty _ _ parts.1).0,
    )

-- ---- the use that a place still owes

-- an option that waits for its value owes a fault
abbrev pub Adds : Place → List Entry → List Entry → Type 0
Adds closed es fs = fs ≡ es
Adds (opened o) es fs = ⊥
Adds (full o v) es fs = (fs ≡ es ++ (o, v) ∷ []) × Takes (o, v)

pub settles : (place : Place) (es : List Entry) → settle_fault rules false (held_at (rows_of es) place) ≡ []
    → (fs : List Entry) × (settled_at (rows_of es) place ≡ rows_of fs) × Adds place es fs
settles closed es h = (es, refl, refl)
settles (opened store) es h = absurd (some_empty _ _ h)
settles (opened shelf) es h = absurd (some_empty _ _ h)
settles (opened listen) es h = absurd (some_empty _ _ h)
settles (opened connections) es h = absurd (some_empty _ _ h)
settles (full store v) es h = let new = use_adds store v es h in (es ++ (store, v) ∷ [], new.0, (refl, new.1))
settles (full shelf v) es h = let new = use_adds shelf v es h in (es ++ (shelf, v) ∷ [], new.0, (refl, new.1))
settles (full listen v) es h = let new = use_adds listen v es h in (es ++ (listen, v) ∷ [], new.0, (refl, new.1))
settles (full connections v) es h = let new = use_adds connections v es h in (es ++ (connections, v) ∷ [], new.0, (refl, new.1))

-- what holds of each entry, and of the value that waits, holds of each after it
pub each_adds : (P : Entry → Type 0) (place : Place) (es fs : List Entry) → Adds place es fs → Each P es
    → ((o : Which) (v : Text) → place ≡ full o v → Takes (o, v) → P (o, v)) → Each P fs
each_adds P closed es fs added all new = subst (Each P) (sym added) all
each_adds P (opened o) es fs added all new = absurd added
each_adds P (full o v) es fs added all new = subst (Each P) (sym added.0) (each_push P es (o, v) all (new o v refl added.1))

-- ---- the end of a walk

-- no option has a default
undefaulted : (rows : List Row) (b : Bool) → (if b then rows else rows) ≡ rows
undefaulted rows true = refl
undefaulted rows false = refl

pub finished_is : (h : Held) → finished rules h ≡ (settled rules h).rows
finished_is h =
    let rows = (settled rules h).rows in
    ap (λ (r : List Row). fold with_default r (rule shelf ∷ rule listen ∷ rule connections ∷ help ∷ [])) (undefaulted rows (has_row (name store) rows))
    ∙ ap (λ (r : List Row). fold with_default r (rule listen ∷ rule connections ∷ help ∷ [])) (undefaulted rows (has_row (name shelf) rows))
    ∙ ap (λ (r : List Row). fold with_default r (rule connections ∷ help ∷ [])) (undefaulted rows (has_row (name listen) rows))
    ∙ ap (λ (r : List Row). fold with_default r (help ∷ [])) (undefaulted rows (has_row (name connections) rows))
    ∙ undefaulted rows (has_row help.id rows)

all_four : (a b c d : Bool) → (if not a || (not b || (not c || (not d || false))) then kind.MissingRequiredArgument ∷ [] else []) ≡ []
    → (a ≡ true) × (b ≡ true) × (c ≡ true) × (d ≡ true)
all_four false b c d h = absurd (some_empty _ _ h)
all_four true false c d h = absurd (some_empty _ _ h)
all_four true true false d h = absurd (some_empty _ _ h)
all_four true true true false h = absurd (some_empty _ _ h)
all_four true true true true h = (refl, refl, refl, refl)

pub each_given : (rows : List Row) → check_fault shape rows false ≡ [] → (o : Which) → is_given (name o) rows ≡ true
each_given rows h = pick (all_four (is_given (name store) rows) (is_given (name shelf) rows) (is_given (name listen) rows) (is_given (name connections) rows) h)
  where
    pick : (is_given (name store) rows ≡ true) × (is_given (name shelf) rows ≡ true) × (is_given (name listen) rows ≡ true)
        × (is_given (name connections) rows ≡ true) → (o : Which) → is_given (name o) rows ≡ true
    pick four store = four.0
    pick four shelf = four.1
    pick four listen = four.2
    pick four connections = four.3

-- the row of an option that is given
pub entry_of : (P : Entry → Type 0) (o : Which) (es : List Entry) → Each P es → is_given (name o) (rows_of es) ≡ true
    → (v : Text) × (find (λ r. bytes_eq r.id (name o)) (rows_of es) ≡ Some (row (o, v))) × P (o, v)
entry_of P o [] all h = let bad : false ≡ true = h in cc
entry_of P o (e ∷ es) all h = go (bytes_eq (name e.0) (name o)) refl h (entry_of P o es all.1)
  where
    chosen : Bool → Option Row
    chosen b = cond b (Some (row e)) (find (λ r. bytes_eq r.id (name o)) (rows_of es))

    go : (b : Bool) → b ≡ bytes_eq (name e.0) (name o) → option_map_or (λ r. explicit_source r.source) (chosen b) false ≡ true
        → (is_given (name o) (rows_of es) ≡ true → (v : Text) × (find (λ r. bytes_eq r.id (name o)) (rows_of es) ≡ Some (row (o, v))) × P (o, v))
        → (v : Text) × (chosen b ≡ Some (row (o, v))) × P (o, v)
    go true is given rec =
        let same = same_option e.0 o (sym is) in
        (e.1, ap (λ (w : Which). Some (row (w, e.1))) same, subst (λ (w : Which). P (w, e.1)) same all.0)
    go false is given rec = rec given
