-- Texts without the case of ASCII letters.
use Rattle.std.specs.Prelude.{◌≡◌, ℕ, Bool, List, map, bytes_eq}
use Rattle.std.specs.Char.{to_ascii_lowercase}

-- the ASCII letters in lower case, every other character as it is
abbrev pub fold_case : List ℕ → List ℕ
fold_case text = map to_ascii_lowercase text

-- the two are one name: their folds are equal
abbrev pub SameName : List ℕ → List ℕ → Type 0
SameName a b = fold_case a ≡ fold_case b

-- the same as a truth value
abbrev pub same_name : List ℕ → List ℕ → Bool
same_name a b = bytes_eq (fold_case a) (fold_case b)
