-- The contents that an agent may have.
use Rattle.std.specs.Prelude.{ℕ, Bool, if◌then◌else◌, List, bytes_eq, encode_utf8_all, Option, None}
use Rattle.std.specs.List.{list_any}
use Rattle.pull_outside.specs.Shelf.{Contents, configuration_of}

-- the name is one of these, exactly
abbrev pub has_name : List ℕ → List (List ℕ) → Bool
has_name name names = list_any (λ other. bytes_eq other name) names

-- the content of a name that the agent registered, if it is on the shelf
abbrev pub content_for : Contents → List (List ℕ) → List ℕ → Option (List ℕ)
content_for shelf names name = if has_name name names then configuration_of (encode_utf8_all name) shelf else None
