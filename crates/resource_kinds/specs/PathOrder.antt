-- How two paths lie to each other, as lists of characters.
use Rattle.std.specs.Prelude.{ℕ, ◌==◌, if◌then◌else◌, List, [], ◌∷◌, ◌++◌, flat_map}
use Rattle.resource_kinds.specs.declared.path_order.PathOrder.{PathOrder}
use Rattle.resource_kinds.specs.declared.path_order.PathOrder.TheVariants.{Same, Above, Below, Apart}
use Rattle.resource_kinds.specs.declared.path_order.PathRest.{PathRest}
use Rattle.resource_kinds.specs.declared.path_order.PathRest.TheVariants as rests
use Rattle.resource_kinds.specs.Paths.{kept_segments, segments}

-- ---- the code

-- names with `/` before each
abbrev pub with_slashes : List (List ℕ) → List ℕ
with_slashes names = flat_map (λ name. 47 ∷ name) names

-- the names of a text's segments, with `/` before each
abbrev pub names_after : List ℕ → List ℕ
names_after text = with_slashes (kept_segments (segments text))

-- the first segment, whatever it is, and the names of the others after it
abbrev pub first_and_names : List (List ℕ) → List ℕ
first_and_names [] = []
first_and_names (name ∷ others) = name ++ with_slashes (kept_segments others)

-- the same of a text
abbrev pub name_and_names : List ℕ → List ℕ
name_and_names text = first_and_names (segments text)

-- a text that begins with a name, with `/` before it
abbrev pub from_name : List ℕ → List ℕ
from_name [] = []
from_name (c ∷ cs) = 47 ∷ name_and_names (c ∷ cs)

-- the characters that are left of a path
abbrev pub path_left : PathRest → List ℕ
path_left (rests.Drive letter text) = letter ∷ names_after text.now
path_left (rests.Names text) = names_after text.now
path_left (rests.Name text) = name_and_names text.now

-- the first path is the same, above the second or below it, where the other ends or goes on with `/`
abbrev pub order_of : List ℕ → List ℕ → PathOrder
order_of [] [] = Same
order_of [] (d ∷ ds) = if d == 47 then Above else Apart
order_of (c ∷ cs) [] = if c == 47 then Below else Apart
order_of (c ∷ cs) (d ∷ ds) = if c == d then order_of cs ds else Apart
