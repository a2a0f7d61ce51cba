use Rattle.std.proofs.Common.{refl, codes, []}
use Rattle.mof_syntax.specs.Characters.{more, stop}
use Rattle.mof_syntax.specs.Integers.{decimal_value, octal_value, hex_value, binary_value, unsigned, plus, minus}
use Rattle.mof_syntax.specs.Tokens.{integer}
use Rattle.mof_syntax.proofs.Absent.{no_digit_token, no_sign_token}
use Rattle.mof_examples.proofs.laws.integers_are_spelled.Goals as goal

pub returns : goal.returns
returns c = record {
  zero = integer _ _ [] (unsigned _ _ [] (octal_value [] [] [] (stop []))) tt;
  zeros = integer _ _ [] (unsigned _ _ [] (octal_value (codes "0") (codes "0") [] (more 48 _ _ _ refl (stop [])))) tt;
  minus_zero = integer _ _ [] (minus (codes "0") _ [] (octal_value [] [] [] (stop []))) tt;
  decimal = integer _ _ [] (unsigned _ _ [] (decimal_value 49 (codes "20") (codes "20") [] refl refl (more 50 _ _ _ refl (more 48 _ _ _ refl (stop []))))) tt;
  plus = integer _ _ [] (plus (codes "7") _ [] (decimal_value 55 [] [] [] refl refl (stop []))) tt;
  minus = integer _ _ [] (minus (codes "10") _ [] (decimal_value 49 (codes "0") (codes "0") [] refl refl (more 48 _ _ _ refl (stop [])))) tt;
  octal = integer _ _ [] (unsigned _ _ [] (octal_value (codes "17") (codes "17") [] (more 49 _ _ _ refl (more 55 _ _ _ refl (stop []))))) tt;
  hex = integer _ _ [] (unsigned _ _ [] (hex_value 120 49 (codes "1F") (codes "F") [] refl (more 49 _ _ _ refl (more 70 _ _ _ refl (stop []))))) tt;
  hex_capitals = integer _ _ [] (minus (codes "0Xa") _ [] (hex_value 88 97 (codes "a") [] [] refl (more 97 _ _ _ refl (stop [])))) tt;
  binary = integer _ _ [] (unsigned _ _ [] (binary_value 49 98 (codes "101b") (codes "01") [] (more 49 _ _ _ refl (more 48 _ _ _ refl (more 49 _ _ _ refl (stop (codes "b"))))) refl)) tt;
  binary_capital = integer _ _ [] (unsigned _ _ [] (binary_value 49 66 (codes "1B") [] [] (more 49 _ _ _ refl (stop (codes "B"))) refl)) tt;
  binary_zero = integer _ _ [] (unsigned _ _ [] (binary_value 48 98 (codes "0b") [] [] (more 48 _ _ _ refl (stop (codes "b"))) refl)) tt;
  past_64_bits = integer _ _ [] (unsigned _ _ [] (decimal_value 49 (codes "8446744073709551616") (codes "8446744073709551616") [] refl refl (more 56 _ _ _ refl (more 52 _ _ _ refl (more 52 _ _ _ refl (more 54 _ _ _ refl (more 55 _ _ _ refl (more 52 _ _ _ refl (more 52 _ _ _ refl (more 48 _ _ _ refl (more 55 _ _ _ refl (more 51 _ _ _ refl (more 55 _ _ _ refl (more 48 _ _ _ refl (more 57 _ _ _ refl (more 53 _ _ _ refl (more 53 _ _ _ refl (more 49 _ _ _ refl (more 54 _ _ _ refl (more 49 _ _ _ refl (more 54 _ _ _ refl (stop [])))))))))))))))))))))) tt;
  no_sign_alone = no_sign_token 45 [] refl refl;
  no_octal_8 = no_digit_token 48 (codes "8") refl refl;
  no_hex_alone = no_digit_token 48 (codes "x") refl refl;
  no_hex_g = no_digit_token 48 (codes "xg") refl refl;
  no_binary_2 = no_digit_token 49 (codes "2b") refl refl;
  no_binary_tail = no_digit_token 48 (codes "b1") refl refl;
  no_letter_after = no_digit_token 49 (codes "a") refl refl;
}
