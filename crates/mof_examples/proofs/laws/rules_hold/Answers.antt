use Rattle.std.proofs.Common.{refl, codes, [], ◌∷◌, pos, None, Some}
use Rattle.mof_syntax.specs.Characters.{more, stop}
use Rattle.mof_syntax.specs.Integers.{decimal_value, unsigned}
use Rattle.mof_syntax.specs.Separators.{blank}
use Rattle.mof_syntax.specs.Tokens.{Word, LeftBrace, RightBrace, EqualsSign, Semicolon, Comma, identifier, word, integer, left_brace_mark, right_brace_mark, equals_mark, semicolon_mark, end, separator, token}
use Rattle.mof_syntax.specs.Grammar.{last, joined, integer_value, true_value, false_value, null_value, alias_identifier, closing, element, constant, empty_array, array, done, value_initializer, unnamed, named, nothing, instance_declaration}
use Rattle.mof_examples.proofs.NotHeld.{no_other_word, no_nested_array, no_comma_at_the_end, no_comma_between, no_semicolon_at_the_end, no_class, no_other_keyword}
use Rattle.mof_examples.specs.Rules.{one, declared}
use Rattle.mof_examples.proofs.laws.rules_hold.Goals as goal

pub returns : goal.returns
returns c = record {
  joined = joined (codes "ab") (codes "c") _ (Semicolon ∷ []) (last (codes "c") (Semicolon ∷ []));
  truth = true_value (codes "True") [] refl;
  falsehood = false_value (codes "fALSE") [] refl;
  null = null_value (codes "null") [] refl;
  alias = alias_identifier (codes "a") [];
  number = constant _ _ _ (integer_value (pos 1) (Semicolon ∷ []));
  empty_array = empty_array [];
  array_of_one = array _ _ [] _ [] (integer_value (pos 1) (RightBrace ∷ [])) (closing []);
  array_of_two = array _ _ [] _ _ (integer_value (pos 1) (Comma ∷ Word (codes "NULL") ∷ RightBrace ∷ []))
      (element _ _ [] _ [] (null_value (codes "NULL") (RightBrace ∷ []) refl) (closing []));
  nothing = nothing;
  bare = instance_declaration _ _ (codes "A") None _ _ [] [] [] refl refl (unnamed _) (done _) nothing;
  property = instance_declaration _ _ (codes "A") None _ _ [] _ [] refl refl (unnamed _)
      (value_initializer (codes "X") (one ∷ Semicolon ∷ RightBrace ∷ Semicolon ∷ []) (RightBrace ∷ Semicolon ∷ []) _ _ [] (constant _ _ _ (integer_value (pos 1) _)) (done _)) nothing;
  keywords_as_names = instance_declaration _ _ (codes "as") (Some (codes "of")) _ _ [] [] [] refl refl (named (codes "AS") (codes "of") _ refl) (done _) nothing;
  text = (
    declared (LeftBrace ∷ Word (codes "X") ∷ EqualsSign ∷ one ∷ Semicolon ∷ RightBrace ∷ Semicolon ∷ []),
    token (codes "instance of A{X=1;}; ") _ (codes " of A{X=1;}; ") _ (word _ (codes "instance") (codes " of A{X=1;}; ") (identifier 105 (codes "nstance of A{X=1;}; ") (codes "nstance") (codes " of A{X=1;}; ") refl (more 110 _ _ _ refl (more 115 _ _ _ refl (more 116 _ _ _ refl (more 97 _ _ _ refl (more 110 _ _ _ refl (more 99 _ _ _ refl (more 101 _ _ _ refl (stop (codes " of A{X=1;}; "))))))))) refl)) (separator (codes " of A{X=1;}; ") (codes "of A{X=1;}; ") _ (blank 32 (codes "of A{X=1;}; ") refl) (token (codes "of A{X=1;}; ") _ (codes " A{X=1;}; ") _ (word _ (codes "of") (codes " A{X=1;}; ") (identifier 111 (codes "f A{X=1;}; ") (codes "f") (codes " A{X=1;}; ") refl (more 102 _ _ _ refl (stop (codes " A{X=1;}; "))) refl)) (separator (codes " A{X=1;}; ") (codes "A{X=1;}; ") _ (blank 32 (codes "A{X=1;}; ") refl) (token (codes "A{X=1;}; ") _ (codes "{X=1;}; ") _ (word _ (codes "A") (codes "{X=1;}; ") (identifier 65 (codes "{X=1;}; ") [] (codes "{X=1;}; ") refl (stop (codes "{X=1;}; ")) refl)) (token (codes "{X=1;}; ") _ (codes "X=1;}; ") _ (left_brace_mark (codes "X=1;}; ")) (token (codes "X=1;}; ") _ (codes "=1;}; ") _ (word _ (codes "X") (codes "=1;}; ") (identifier 88 (codes "=1;}; ") [] (codes "=1;}; ") refl (stop (codes "=1;}; ")) refl)) (token (codes "=1;}; ") _ (codes "1;}; ") _ (equals_mark (codes "1;}; ")) (token (codes "1;}; ") _ (codes ";}; ") _ (integer (codes "1;}; ") (pos 1) (codes ";}; ") (unsigned _ _ _ (decimal_value 49 (codes ";}; ") [] (codes ";}; ") refl refl (stop (codes ";}; ")))) refl) (token (codes ";}; ") _ (codes "}; ") _ (semicolon_mark (codes "}; ")) (token (codes "}; ") _ (codes "; ") _ (right_brace_mark (codes "; ")) (token (codes "; ") _ (codes " ") _ (semicolon_mark (codes " ")) (separator (codes " ") [] _ (blank 32 [] refl) (end))))))))))))),
    instance_declaration _ _ (codes "A") None _ _ [] _ [] refl refl (unnamed _)
        (value_initializer (codes "X") (one ∷ Semicolon ∷ RightBrace ∷ Semicolon ∷ []) (RightBrace ∷ Semicolon ∷ []) _ _ [] (constant _ _ _ (integer_value (pos 1) _)) (done _)) nothing,
  );
  no_other_word = no_other_word;
  no_nested_array = no_nested_array;
  no_comma_at_the_end = no_comma_at_the_end;
  no_comma_between = no_comma_between;
  no_semicolon_at_the_end = no_semicolon_at_the_end;
  no_class = no_class;
  no_other_keyword = no_other_keyword;
}
