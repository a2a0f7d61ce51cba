-- Texts as literals of the instance syntax.
use Rattle.std.specs.Prelude.{ℕ, List, encode_utf8_all}
use Rattle.mof_syntax.specs.Canonical.{canonical_literal}

-- an id or a name, as one literal, in UTF-8
abbrev pub quoted : List ℕ → List ℕ
quoted text = encode_utf8_all (canonical_literal text)
