-- Which characters are integers, and of which value, by example.
use Rattle.std.specs.Prelude.{codes, List, [], ℕ, ℤ, pos, negsuc}
use Rattle.mof_syntax.specs.Tokens.{IsToken, Number}
use Rattle.mof_syntax.specs.Walk.{NoToken}

-- the characters are this integer and nothing else
abbrev pub SpellsInteger : List ℕ → ℤ → Type 0
SpellsInteger cs z = IsToken cs (Number z) []

pub record IntegerExamples : Type 0 where
  pub zero : SpellsInteger (codes "0") (pos 0)
  pub zeros : SpellsInteger (codes "00") (pos 0)
  pub minus_zero : SpellsInteger (codes "-0") (pos 0)
  pub decimal : SpellsInteger (codes "120") (pos 120)
  pub plus : SpellsInteger (codes "+7") (pos 7)
  pub minus : SpellsInteger (codes "-10") (negsuc 9)
  pub octal : SpellsInteger (codes "017") (pos 15)
  pub hex : SpellsInteger (codes "0x1F") (pos 31)
  pub hex_capitals : SpellsInteger (codes "-0Xa") (negsuc 9)
  pub binary : SpellsInteger (codes "101b") (pos 5)
  pub binary_capital : SpellsInteger (codes "1B") (pos 1)
  pub binary_zero : SpellsInteger (codes "0b") (pos 0)
  pub past_64_bits : SpellsInteger (codes "18446744073709551616") (pos 18446744073709551616)
  pub no_sign_alone : NoToken (codes "-")
  pub no_octal_8 : NoToken (codes "08")
  pub no_hex_alone : NoToken (codes "0x")
  pub no_hex_g : NoToken (codes "0xg")
  pub no_binary_2 : NoToken (codes "12b")
  pub no_binary_tail : NoToken (codes "0b1")
  pub no_letter_after : NoToken (codes "1a")
