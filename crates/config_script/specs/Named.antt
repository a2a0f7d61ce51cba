-- What names, texts and integers stand for, as the code holds them.
use Rattle.std.specs.Prelude.{◌==◌, ℕ, Bool, true, false, List, [], ◌∷◌, ℤ}
use Rattle.std.specs.Str.{chars}
use Rattle.config_script.specs.declared.name.Name.{Name}
use Rattle.config_script.specs.declared.name.Name.TheVariants as names
use Rattle.config_script.specs.Digits.{signed}
use Rattle.config_script.specs.declared.number.Number.{Number}

-- each two quotes as one; whether the first of two was read
abbrev pub undoubled : Bool → List ℕ → List ℕ
undoubled first [] = []
undoubled true (c ∷ cs) = undoubled false cs
undoubled false (c ∷ cs) = c ∷ undoubled (c == 39) cs

abbrev pub name_chars : Name → List ℕ
name_chars (names.Plain text) = chars text.now
name_chars (names.Doubled text) = undoubled false (chars text.now)

abbrev pub number_value : Number → ℤ
number_value n = signed n.is_negative (chars n.digits.now)
