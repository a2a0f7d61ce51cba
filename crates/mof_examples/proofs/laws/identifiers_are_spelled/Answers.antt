use Rattle.std.proofs.Common.{refl, codes, []}
use Rattle.mof_syntax.specs.Characters.{more, stop}
use Rattle.mof_syntax.specs.Tokens.{identifier, word, alias}
use Rattle.mof_syntax.proofs.Absent.{no_identifier, no_dollar_token}
use Rattle.mof_examples.proofs.laws.identifiers_are_spelled.Goals as goal

pub returns : goal.returns
returns c = record {
  letters = identifier 97 (codes "Z_9 b") (codes "Z_9") (codes " b") refl (more 90 _ _ _ refl (more 95 _ _ _ refl (more 57 _ _ _ refl (stop (codes " b"))))) refl;
  keyword = identifier 105 (codes "nstance") (codes "nstance") [] refl
      (more 110 _ _ _ refl (more 115 _ _ _ refl (more 116 _ _ _ refl (more 97 _ _ _ refl (more 110 _ _ _ refl (more 99 _ _ _ refl (more 101 _ _ _ refl (stop [])))))))) tt;
  least = identifier 0x80 [] [] [] refl (stop []) tt;
  greatest = identifier 0xFFEF [] [] [] refl (stop []) tt;
  word = word (codes "a;") (codes "a") (codes ";") (identifier 97 (codes ";") [] (codes ";") refl (stop (codes ";")) refl);
  alias = alias (codes "a;") (codes "a") (codes ";") (identifier 97 (codes ";") [] (codes ";") refl (stop (codes ";")) refl);
  no_digit = λ name rest i. no_identifier _ name rest refl i;
  no_dash = λ name rest i. no_identifier _ name rest refl i;
  no_delete = λ name rest i. no_identifier _ name rest refl i;
  no_greater = λ name rest i. no_identifier _ name rest refl i;
  no_dollar_alone = no_dollar_token 36 [] refl refl;
  no_dollar_digit = no_dollar_token 36 (codes "1") refl refl;
}
