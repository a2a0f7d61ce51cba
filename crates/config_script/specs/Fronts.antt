-- The longest front of a text with which some script begins, as code finds it: what is after it.
use Rattle.std.specs.Prelude.{◌≡◌, ◌==◌, ℕ, ◌||◌, List, [], ◌∷◌, ◌++◌, codes, if◌then◌else◌}
use Rattle.std.specs.Char.{to_ascii_lowercase}
use Rattle.mof_syntax.specs.Characters.{digit_of}
use Rattle.mof_syntax.specs.Scanning.{after}
use Rattle.config_script.specs.declared.place.Place.{Place}
use Rattle.config_script.specs.declared.place.Place.TheVariants.{Start, InConfiguration, AfterNode, AfterKind, AfterEquals, InArray, AfterComma}

-- the rest is after the longest front of the characters with which something that P holds of begins
pub record LongestFront (P : List ℕ → Type 0) (cs rest : List ℕ) : Type 0 where
  pub front : List ℕ
  pub split : cs ≡ front ++ rest
  pub others : List ℕ
  pub goes_on : P (front ++ others)
  pub longest : (c : ℕ) (us vs : List ℕ) → rest ≡ c ∷ us → P (front ++ c ∷ vs) → ⊥

-- after the characters that are those of the word, which is in lower case, by fold
abbrev pub keyword_front : List ℕ → List ℕ → List ℕ
keyword_front [] cs = cs
keyword_front (l ∷ ls) [] = []
keyword_front (l ∷ ls) (c ∷ cs) = if to_ascii_lowercase c == l then keyword_front ls cs else c ∷ cs

abbrev pub quoted_front : List ℕ → List ℕ
quoted_front [] = []
quoted_front (c ∷ cs) = if c == 36 || c == 96 then c ∷ cs else quoted_front cs

abbrev pub text_front : List ℕ → List ℕ
text_front [] = []
text_front (c ∷ cs) = if c == 39 then [] else if c == 34 then quoted_front cs else c ∷ cs

abbrev pub digits_front : List ℕ → List ℕ
digits_front [] = []
digits_front (c ∷ cs) = if c == 48 then cs else if digit_of 10 c then after (digit_of 10) cs else c ∷ cs

abbrev pub constant_front : List ℕ → List ℕ
constant_front [] = []
constant_front (c ∷ cs) =
    if to_ascii_lowercase c == 116 then keyword_front (codes "true") (c ∷ cs)
    else if to_ascii_lowercase c == 102 then keyword_front (codes "false") (c ∷ cs)
    else if to_ascii_lowercase c == 110 then keyword_front (codes "null") (c ∷ cs)
    else c ∷ cs

abbrev pub scalar_front : List ℕ → List ℕ
scalar_front [] = []
scalar_front (c ∷ cs) =
    if c == 36 then constant_front cs
    else if c == 45 then digits_front cs
    else if digit_of 10 c then digits_front (c ∷ cs)
    else text_front (c ∷ cs)

abbrev pub value_front : List ℕ → List ℕ
value_front [] = []
value_front (c ∷ cs) = if c == 64 then cs else scalar_front (c ∷ cs)

-- after the longest front with which a token of the place begins, where none of it stands
abbrev pub front_rest : Place → List ℕ → List ℕ
front_rest Start cs = keyword_front (codes "configuration") cs
front_rest InConfiguration cs = keyword_front (codes "node") cs
front_rest AfterNode cs = text_front cs
front_rest AfterKind cs = text_front cs
front_rest AfterEquals cs = value_front cs
front_rest InArray cs = scalar_front cs
front_rest AfterComma cs = scalar_front cs
front_rest _ cs = cs
