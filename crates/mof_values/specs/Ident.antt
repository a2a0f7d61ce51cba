-- Identifiers (DSP0004, "Identifiers").
use Rattle.std.specs.Prelude.{ℕ, Bool, false, ◌&&◌, ◌||◌, nat_le, ◌==◌, List, [], ◌∷◌, length, IsTrue}
use Rattle.std.specs.List.{list_all}
use Rattle.mof_values.specs.declared.limits.TheConstants.{MAX_IDENTIFIER}

-- a letter, an underscore or U+0080 to U+FFEF
abbrev pub is_first : ℕ → Bool
is_first c = (nat_le 97 c && nat_le c 122) || (nat_le 65 c && nat_le c 90) || c == 95 || (nat_le 128 c && nat_le c 65519)

-- what may stand after the first: these and digits
abbrev pub is_next : ℕ → Bool
is_next c = is_first c || (nat_le 48 c && nat_le c 57)

-- not too long
abbrev pub is_ident : List ℕ → Bool
is_ident [] = false
is_ident (c ∷ cs) = is_first c && list_all is_next cs && nat_le (length (c ∷ cs)) MAX_IDENTIFIER

abbrev pub IsIdent : List ℕ → Type 0
IsIdent text = IsTrue (is_ident text)
