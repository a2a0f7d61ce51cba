-- What a Set of one path makes of another, and the tests that show which paths it reaches.
use Rattle.std.proofs.Common.{◌≡◌, ℕ, Bool, true, false, cond, ◌||◌, List, [], ◌∷◌, refl, sym, ap, ap₂}
use Rattle.std.proofs.lemmas.Bool.{and_parts, eqb-true, false≢true, false_from_ne_true}
use Rattle.std.proofs.lemmas.Slice.Eq.{bytes_eq-Decides}
use Rattle.std.specs.Str.{bytes_eq}
use Rattle.dsc_outside.specs.Paths.{PathKind, Nothing, File, Folder, IsBelow, is_below, filled, with_folders_above, file_put, folder_made, removed}

-- ---- the tests

pub same_bytes : (xs : List ℕ) → bytes_eq xs xs ≡ true
same_bytes xs = (bytes_eq-Decides xs xs).1 refl

pub other_bytes : (xs ys : List ℕ) → (xs ≡ ys → ⊥) → bytes_eq xs ys ≡ false
other_bytes xs ys other = false_from_ne_true _ (λ same. other ((bytes_eq-Decides xs ys).0 same))

pub below : (path other : List ℕ) → is_below path other ≡ true → IsBelow path other
below [] [] is = absurd (false≢true is)
below (p ∷ ps) [] is = absurd (false≢true is)
below [] (c ∷ cs) is = (cs, ap (λ (d : ℕ). d ∷ cs) (eqb-true c 47 is))
below (p ∷ ps) (c ∷ cs) is =
    let both = and_parts _ _ is in
    let under = below ps cs both.1 in
    (under.0, ap₂ (λ (d : ℕ) (l : List ℕ). d ∷ l) (sym (eqb-true p c both.0)) under.1)

pub not_below : (path other : List ℕ) → (IsBelow path other → ⊥) → is_below path other ≡ false
not_below path other apart = false_from_ne_true _ (λ is. apart (below path other is))

-- ---- at the path itself

pub file_at_path : (path bytes : List ℕ) (paths : List ℕ → PathKind) → file_put path bytes paths path ≡ File bytes
file_at_path path bytes paths =
    ap (λ b. cond b (File bytes) (cond (is_below path path) Nothing (with_folders_above path paths path))) (same_bytes path)

pub folder_at_path : (path : List ℕ) (paths : List ℕ → PathKind) → folder_made path paths path ≡ Folder
folder_at_path path paths = ap (λ b. cond b Folder (with_folders_above path paths path)) (same_bytes path)

pub nothing_at_path : (path : List ℕ) (paths : List ℕ → PathKind) → removed path paths path ≡ Nothing
nothing_at_path path paths = ap (λ b. cond (b || is_below path path) Nothing (paths path)) (same_bytes path)

-- ---- at another path

pub file_elsewhere : (path bytes : List ℕ) (paths : List ℕ → PathKind) (other : List ℕ) → (path ≡ other → ⊥) → (IsBelow path other → ⊥)
    → file_put path bytes paths other ≡ with_folders_above path paths other
file_elsewhere path bytes paths other apart above =
    let kinds = λ (b c : Bool). cond b (File bytes) (cond c Nothing (with_folders_above path paths other)) in
    ap₂ kinds (other_bytes path other apart) (not_below path other above)

pub folder_elsewhere : (path : List ℕ) (paths : List ℕ → PathKind) (other : List ℕ) → (path ≡ other → ⊥)
    → folder_made path paths other ≡ with_folders_above path paths other
folder_elsewhere path paths other apart = ap (λ b. cond b Folder (with_folders_above path paths other)) (other_bytes path other apart)

pub removed_elsewhere : (path : List ℕ) (paths : List ℕ → PathKind) (other : List ℕ) → (path ≡ other → ⊥) → (IsBelow path other → ⊥)
    → removed path paths other ≡ paths other
removed_elsewhere path paths other apart above =
    ap₂ (λ b c. cond (b || c) Nothing (paths other)) (other_bytes path other apart) (not_below path other above)

-- a folder that is made above a path only fills what was nothing
pub filled_elsewhere : (path : List ℕ) (paths : List ℕ → PathKind) (other : List ℕ) → (IsBelow other path → ⊥) → with_folders_above path paths other ≡ paths other
filled_elsewhere path paths other apart = ap (λ b. cond b (filled (paths other)) (paths other)) (not_below other path apart)

folder_stays : (b : Bool) (kind : PathKind) → kind ≡ Folder → cond b (filled kind) kind ≡ Folder
folder_stays true kind is = ap filled is
folder_stays false kind is = is

pub folder_above : (path : List ℕ) (paths : List ℕ → PathKind) (other : List ℕ) → paths other ≡ Folder → with_folders_above path paths other ≡ Folder
folder_above path paths other is = folder_stays (is_below other path) (paths other) is
