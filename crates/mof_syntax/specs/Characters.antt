-- Classes of characters, and the characters that DSP0004 gives a meaning of their own ("Value constants", "Comments",
-- and the grammar of its annex).
use Rattle.std.specs.Prelude.{◌≡◌, ℕ, Bool, true, false, ◌||◌, ◌==◌, List, [], ◌∷◌, ◌++◌}
use Rattle.std.specs.Char.{is_digit, to_ascii_lowercase}

abbrev pub line_feed : ℕ
line_feed = 10

abbrev pub quote : ℕ
quote = 34

abbrev pub dollar : ℕ
dollar = 36

abbrev pub star : ℕ
star = 42

abbrev pub plus_sign : ℕ
plus_sign = 43

abbrev pub comma : ℕ
comma = 44

abbrev pub minus_sign : ℕ
minus_sign = 45

abbrev pub slash : ℕ
slash = 47

abbrev pub digit_zero : ℕ
digit_zero = 48

abbrev pub semicolon : ℕ
semicolon = 59

abbrev pub equals_sign : ℕ
equals_sign = 61

abbrev pub backslash : ℕ
backslash = 92

abbrev pub left_brace : ℕ
left_brace = 123

abbrev pub right_brace : ℕ
right_brace = 125

-- a space, a tab, a line feed or a carriage return
abbrev pub is_blank : ℕ → Bool
is_blank c = c == 32 || c == 9 || c == 10 || c == 13

-- a plus or a minus
abbrev pub is_sign : ℕ → Bool
is_sign c = c == plus_sign || c == minus_sign

-- a digit of the base
abbrev pub digit_of : ℕ → ℕ → Bool
digit_of base c = is_digit c base

-- an x, and a b, in either case
abbrev pub is_x : ℕ → Bool
is_x c = to_ascii_lowercase c == 120

abbrev pub is_b : ℕ → Bool
is_b c = to_ascii_lowercase c == 98

-- no character of the class comes first
abbrev pub Stops : (ℕ → Bool) → List ℕ → Type 0
Stops p [] = Unit {0}
Stops p (c ∷ cs) = p c ≡ false

-- the characters are some of the class, and then the rest
pub data Run (p : ℕ → Bool) : List ℕ → List ℕ → List ℕ → Type 0 where
  stop : (rest : List ℕ) → Run p rest [] rest
  more : (c : ℕ) (cs run rest : List ℕ) → p c ≡ true → Run p cs run rest → Run p (c ∷ cs) (c ∷ run) rest

-- the characters end with the rest
abbrev pub EndsWith : List ℕ → List ℕ → Type 0
EndsWith cs rest = (front : List ℕ) × (cs ≡ front ++ rest)
