-- Marks, quotes and other tokens that one character begins.
use Rattle.std.proofs.Common.{◌≡◌, inl, inr, ℕ, true, false, List, [], ◌∷◌, Some, None, refl, sym, ap, subst, ◌∙◌, arith}
use Rattle.std.specs.Prelude.{◌==◌}
use Rattle.std.proofs.lemmas.Bool.Decides.{nat_tests}
use Rattle.mof_syntax.specs.Separators.{Separators}
use Rattle.mof_syntax.specs.Tokens.{IsToken, left_brace_mark, right_brace_mark, equals_mark, semicolon_mark, comma_mark}
use Rattle.mof_syntax.specs.Scanning.{separator_rest}
use Rattle.mof_codec.specs.Reading.{Begins, BeginsNo}
use Rattle.mof_codec.specs.Values.{char_rest, lexeme_of, code_of, IsMark}
use Rattle.mof_codec.specs.declared.values.marks.Mark.{Mark}
use Rattle.mof_codec.specs.declared.values.marks.Mark.TheVariants as marks
use Rattle.mof_syntax.proofs.Scans.{chosen, some_same, none_some}
use Rattle.mof_codec.proofs.TokenFronts.{begins_token, first_of}

pub equal : (x y : ℕ) → (x == y) ≡ true → x ≡ y
equal x y h = grind (arith, nat_tests)

unequal : (x y : ℕ) → (x == y) ≡ false → x ≡ y → ⊥
unequal x y h e = grind (arith, nat_tests)

pub char_rest-split : (code : ℕ) (cs rest : List ℕ) → char_rest code cs ≡ Some rest → cs ≡ code ∷ rest
char_rest-split code [] rest e = absurd (none_some rest e)
char_rest-split code (c ∷ cs) rest e = elim (chosen (c == code) _ _ _ e) [
  | inl is ↦ ap (λ (x : ℕ). x ∷ cs) (equal c code is.0) ∙ ap (λ (xs : List ℕ). code ∷ xs) (some_same cs rest is.1)
  | inr other ↦ absurd (none_some rest other.1)
]

none_apart : (rest : List ℕ) → Some rest ≡ None → ⊥
none_apart rest e = cc

pub char_rest-none : (code : ℕ) (cs rest : List ℕ) → char_rest code cs ≡ None → cs ≡ code ∷ rest → ⊥
char_rest-none code [] rest e is = absurd cc
char_rest-none code (c ∷ cs) rest e is = elim (chosen (c == code) _ _ _ e) [
  | inl is_code ↦ none_apart cs is_code.1
  | inr other ↦ unequal c code other.0 (head_same is)
]
  where
    head_same : c ∷ cs ≡ code ∷ rest → c ≡ code
    head_same h = cc

mark_token : (mark : Mark) (rest : List ℕ) → IsToken (code_of mark ∷ rest) (lexeme_of mark) rest
mark_token marks.LeftBrace rest = left_brace_mark rest
mark_token marks.RightBrace rest = right_brace_mark rest
mark_token marks.EqualsSign rest = equals_mark rest
mark_token marks.Semicolon rest = semicolon_mark rest
mark_token marks.Comma rest = comma_mark rest

token_mark : (mark : Mark) (cs rest : List ℕ) → IsToken cs (lexeme_of mark) rest → cs ≡ code_of mark ∷ rest
token_mark marks.LeftBrace cs rest (left_brace_mark r) = refl
token_mark marks.RightBrace cs rest (right_brace_mark r) = refl
token_mark marks.EqualsSign cs rest (equals_mark r) = refl
token_mark marks.Semicolon cs rest (semicolon_mark r) = refl
token_mark marks.Comma cs rest (comma_mark r) = refl

pub begins_mark : (mark : Mark) (cs left rest : List ℕ) → Separators cs left → char_rest (code_of mark) left ≡ Some rest → Begins (IsMark mark) cs rest
begins_mark mark cs left rest s e =
    begins_token cs left (lexeme_of mark) rest s (subst (λ (xs : List ℕ). IsToken xs (lexeme_of mark) rest) (sym (char_rest-split (code_of mark) left rest e)) (mark_token mark rest))

pub begins_no_mark : (mark : Mark) (cs left : List ℕ) → Separators cs left → separator_rest left ≡ None → char_rest (code_of mark) left ≡ None → BeginsNo (IsMark mark) cs
begins_no_mark mark cs left s stops e us ts l is =
    let f = first_of cs left us (lexeme_of mark) ts s stops l is in
    char_rest-none (code_of mark) left f.0 e (token_mark mark left f.0 f.1)
