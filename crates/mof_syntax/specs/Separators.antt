-- What may stand before, between and after tokens (DSP0004, "Comments"; white space by its annex's grammar).
use Rattle.std.specs.Prelude.{◌≡◌, ℕ, true, false, ◌&&◌, ◌==◌, List, [], ◌∷◌}
use Rattle.mof_syntax.specs.Characters.{line_feed, slash, star, is_blank}

-- the characters after `//`, up to and without the next line feed or up to the end, and the rest
pub data LineComment : List ℕ → List ℕ → Type 0 where
  at_end : LineComment [] []
  at_feed : (rest : List ℕ) → LineComment (line_feed ∷ rest) (line_feed ∷ rest)
  over : (c : ℕ) (cs rest : List ℕ) → (c == line_feed) ≡ false → LineComment cs rest → LineComment (c ∷ cs) rest

-- the character and what follows it do not begin with `*/`
abbrev pub NoEnd : ℕ → List ℕ → Type 0
NoEnd c [] = Unit {0}
NoEnd c (d ∷ cs) = ((c == star) && (d == slash)) ≡ false

-- the characters after `/*`, up to and with the next `*/`, and the rest
pub data BlockComment : List ℕ → List ℕ → Type 0 where
  shut : (rest : List ℕ) → BlockComment (star ∷ slash ∷ rest) rest
  inside : (c : ℕ) (cs rest : List ℕ) → NoEnd c cs → BlockComment cs rest → BlockComment (c ∷ cs) rest

-- one separator, and the rest
pub data Separator : List ℕ → List ℕ → Type 0 where
  blank : (c : ℕ) (rest : List ℕ) → is_blank c ≡ true → Separator (c ∷ rest) rest
  line : (cs rest : List ℕ) → LineComment cs rest → Separator (slash ∷ slash ∷ cs) rest
  block : (cs rest : List ℕ) → BlockComment cs rest → Separator (slash ∷ star ∷ cs) rest

-- any number of separators, and the rest
pub data Separators : List ℕ → List ℕ → Type 0 where
  none : (rest : List ℕ) → Separators rest rest
  another : (cs after rest : List ℕ) → Separator cs after → Separators after rest → Separators cs rest
