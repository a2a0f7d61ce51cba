-- The characters of a path, as they stand in its text.
use Rattle.std.proofs.Common.{◌≡◌, ◌≢◌, ℕ, List, [], ◌∷◌, ◌++◌, drop, Option, Some, None, refl, sym, ap, subst, ◌∙◌}
use Rattle.std.specs.List.{join_with_byte}
use Rattle.std.specs.Option.{IfSome}
use Rattle.resource_kinds.specs.PathOrder.{with_slashes, from_name, name_and_names, names_after}
use Rattle.resource_kinds.specs.Paths.{drive_segments, kept_segments, segments}
use Rattle.resource_kinds.proofs.EntryLists.{join-after}
use Rattle.resource_kinds.proofs.JoinedPaths.{kept_after}

-- a drive, and the names after it
pub drive_first : (drive : Option ℕ) (letter : ℕ) (rest : List ℕ) → drive ≡ Some letter → IfSome drive (λ c. c ≢ 46)
    → letter ∷ names_after rest ≡ join_with_byte 47 (kept_segments (drive_segments drive ++ segments rest))
drive_first drive letter rest is other =
    sym (join-after 47 (letter ∷ []) (kept_segments (segments rest)))
    ∙ ap (join_with_byte 47) (sym (kept_after (Some letter) (segments rest) (subst (λ d. IfSome d (λ c. c ≢ 46)) is other)))
    ∙ ap (λ d. join_with_byte 47 (kept_segments (drive_segments d ++ segments rest))) (sym is)

join_dropped : (names : List (List ℕ)) → join_with_byte 47 names ≡ drop 1 (with_slashes names)
join_dropped [] = refl
join_dropped (name ∷ names) = join-after 47 name names

from_dropped : (text : List ℕ) → drop 1 (from_name text) ≡ name_and_names text
from_dropped [] = refl
from_dropped (c ∷ cs) = refl

-- the first name, and those after it
pub name_first : (drive : Option ℕ) (rest left : List ℕ) → drive ≡ None → names_after rest ≡ from_name left
    → name_and_names left ≡ join_with_byte 47 (kept_segments (drive_segments drive ++ segments rest))
name_first drive rest left none is =
    sym (from_dropped left) ∙ ap (drop 1) (sym is) ∙ sym (join_dropped (kept_segments (segments rest)))
    ∙ ap (λ d. join_with_byte 47 (kept_segments (drive_segments d ++ segments rest))) (sym none)
