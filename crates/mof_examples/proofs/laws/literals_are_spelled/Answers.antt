use Rattle.std.proofs.Common.{refl, codes, []}
use Rattle.mof_syntax.specs.Strings.{full, ended, digit, short, hexadecimal, closed, plain, escaped}
use Rattle.mof_syntax.specs.Tokens.{literal}
use Rattle.mof_syntax.proofs.Absent.{no_escape}
use Rattle.mof_examples.proofs.laws.literals_are_spelled.Goals as goal

pub returns : goal.returns
returns c = record {
  empty = literal (codes "\"") [] [] (closed []);
  letters = literal (codes "ab\"") (codes "ab") [] (plain 97 _ _ _ refl refl (plain 98 _ _ _ refl refl (closed [])));
  line_end = literal (codes "a\nb\"") (codes "a\nb") [] (plain 97 _ _ _ refl refl (plain 10 _ _ _ refl refl (plain 98 _ _ _ refl refl (closed []))));
  quote_inside = literal (codes "a\\\"b\"") (codes "a\"b") [] (plain 97 _ _ _ refl refl (escaped 34 (codes "\"b\"") (codes "b\"") (codes "b") [] (short 34 34 (codes "b\"") refl) (plain 98 _ _ _ refl refl (closed []))));
  two_beside = literal (codes "a\"\"b\"") (codes "a") (codes "\"b\"") (plain 97 _ _ _ refl refl (closed (codes "\"b\"")));
  backspace = short 98 8 [] refl;
  tab = short 116 9 [] refl;
  line_feed = short 110 10 [] refl;
  form_feed = short 102 12 [] refl;
  carriage_return = short 114 13 [] refl;
  quote = short 34 34 [] refl;
  apostrophe = short 39 39 [] refl;
  backslash = short 92 92 [] refl;
  one_digit = hexadecimal 120 52 4 (codes "\"") (codes "\"") refl refl (ended 3 _ (codes "\"") refl) refl;
  two_digits = hexadecimal 120 52 65 (codes "1g") (codes "g") refl refl (digit 2 _ 49 _ _ _ refl (ended 2 _ (codes "g") refl)) refl;
  three_digits = hexadecimal 88 48 65 (codes "41 ") (codes " ") refl refl (digit 2 _ 52 _ _ _ refl (digit 1 _ 49 _ _ _ refl (ended 1 _ (codes " ") refl))) refl;
  four_digits = hexadecimal 120 48 65 (codes "0411") (codes "1") refl refl (digit 2 _ 48 _ _ _ refl (digit 1 _ 52 _ _ _ refl (digit 0 _ 49 _ _ _ refl (full _ (codes "1"))))) refl;
  below_surrogates = hexadecimal 120 68 55295 (codes "7FF") [] refl refl (digit 2 _ 55 _ _ _ refl (digit 1 _ 70 _ _ _ refl (digit 0 _ 70 _ _ _ refl (full _ [])))) refl;
  above_surrogates = hexadecimal 120 69 57344 (codes "000") [] refl refl (digit 2 _ 48 _ _ _ refl (digit 1 _ 48 _ _ _ refl (digit 0 _ 48 _ _ _ refl (full _ [])))) refl;
  three_of_a_surrogate = hexadecimal 120 68 3456 (codes "80g") (codes "g") refl refl (digit 2 _ 56 _ _ _ refl (digit 1 _ 48 _ _ _ refl (ended 1 _ (codes "g") refl))) refl;
  no_capital_b = λ value rest i. no_escape _ value rest refl i;
  no_other = λ value rest i. no_escape _ value rest refl i;
  no_hex_alone = λ value rest i. no_escape _ value rest refl i;
  no_least_surrogate = λ value rest i. no_escape _ value rest refl i;
  no_greatest_surrogate = λ value rest i. no_escape _ value rest refl i;
}
