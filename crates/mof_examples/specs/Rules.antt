-- Which tokens the rules hold of, and which values they stand for, by example.
use Rattle.std.specs.Prelude.{codes, List, [], ◌∷◌, ℕ, pos, true, false, Option, Some, None}
use Rattle.mof_values.specs.declared.instance.Instance.{Instance}
use Rattle.mof_values.specs.declared.instance.Property.{Property}
use Rattle.mof_values.specs.declared.value.Scalar.{Scalar}
use Rattle.mof_values.specs.declared.value.Scalar.TheVariants as scalars
use Rattle.mof_values.specs.declared.value.Value.{Value}
use Rattle.mof_values.specs.declared.value.Value.TheVariants.{One, Many}
use Rattle.mof_syntax.specs.Tokens.{Lexeme, Word, AliasName, Literal, Number, LeftBrace, RightBrace, EqualsSign, Semicolon, Comma}
use Rattle.mof_syntax.specs.Grammar.{StringValue, ConstantValue, Initializer, InstanceDeclarations, WideSpells}

-- tokens after `instance of A`
abbrev pub declared : List Lexeme → List Lexeme
declared ts = Word (codes "instance") ∷ Word (codes "of") ∷ Word (codes "A") ∷ ts

abbrev pub instance_of : List ℕ → Option (List ℕ) → List Property → Instance
instance_of class alias properties = record { class = class; alias = alias; properties = properties }

abbrev pub property_of : List ℕ → Value → Property
property_of name value = record { name = name; value = value }

abbrev pub one : Lexeme
one = Number (pos 1)

-- no rule of the kind holds of the tokens
abbrev pub NoConstant : List Lexeme → Type 0
NoConstant ts = (s : Scalar) (rest : List Lexeme) → ConstantValue ts s rest → ⊥

abbrev pub NoInitializer : List Lexeme → Type 0
NoInitializer ts = (v : Value) (rest : List Lexeme) → Initializer ts v rest → ⊥

abbrev pub NoDeclarations : List Lexeme → Type 0
NoDeclarations ts = (instances : List Instance) → InstanceDeclarations ts instances → ⊥

pub record RuleExamples : Type 0 where
  pub joined : StringValue (Literal (codes "ab") ∷ Literal (codes "c") ∷ Semicolon ∷ []) (codes "abc") (Semicolon ∷ [])
  pub truth : ConstantValue (Word (codes "True") ∷ []) (scalars.Bool true) []
  pub falsehood : ConstantValue (Word (codes "fALSE") ∷ []) (scalars.Bool false) []
  pub null : ConstantValue (Word (codes "null") ∷ []) scalars.Null []
  pub alias : ConstantValue (AliasName (codes "a") ∷ []) (scalars.Alias (codes "a")) []
  pub number : Initializer (one ∷ Semicolon ∷ []) (One (scalars.Integer (pos 1))) (Semicolon ∷ [])
  pub empty_array : Initializer (LeftBrace ∷ RightBrace ∷ []) (Many []) []
  pub array_of_one : Initializer (LeftBrace ∷ one ∷ RightBrace ∷ []) (Many (scalars.Integer (pos 1) ∷ [])) []
  pub array_of_two : Initializer (LeftBrace ∷ one ∷ Comma ∷ Word (codes "NULL") ∷ RightBrace ∷ []) (Many (scalars.Integer (pos 1) ∷ scalars.Null ∷ [])) []
  pub nothing : InstanceDeclarations [] []
  pub bare : InstanceDeclarations (declared (LeftBrace ∷ RightBrace ∷ Semicolon ∷ [])) (instance_of (codes "A") None [] ∷ [])
  pub property : InstanceDeclarations (declared (LeftBrace ∷ Word (codes "X") ∷ EqualsSign ∷ one ∷ Semicolon ∷ RightBrace ∷ Semicolon ∷ []))
      (instance_of (codes "A") None (property_of (codes "X") (One (scalars.Integer (pos 1))) ∷ []) ∷ [])
  pub keywords_as_names : InstanceDeclarations (Word (codes "Instance") ∷ Word (codes "oF") ∷ Word (codes "as") ∷ Word (codes "AS") ∷ AliasName (codes "of") ∷ LeftBrace ∷ RightBrace ∷ Semicolon ∷ [])
      (instance_of (codes "as") (Some (codes "of")) [] ∷ [])
  pub text : WideSpells (codes "instance of A{X=1;}; ") (instance_of (codes "A") None (property_of (codes "X") (One (scalars.Integer (pos 1))) ∷ []) ∷ [])
  pub no_other_word : NoConstant (Word (codes "yes") ∷ [])
  pub no_nested_array : NoInitializer (LeftBrace ∷ LeftBrace ∷ one ∷ RightBrace ∷ RightBrace ∷ [])
  pub no_comma_at_the_end : NoInitializer (LeftBrace ∷ one ∷ Comma ∷ RightBrace ∷ [])
  pub no_comma_between : NoInitializer (LeftBrace ∷ one ∷ one ∷ RightBrace ∷ [])
  pub no_semicolon_at_the_end : NoDeclarations (declared (LeftBrace ∷ RightBrace ∷ []))
  pub no_class : NoDeclarations (Word (codes "instance") ∷ Word (codes "of") ∷ LeftBrace ∷ RightBrace ∷ Semicolon ∷ [])
  pub no_other_keyword : NoDeclarations (Word (codes "instances") ∷ Word (codes "of") ∷ Word (codes "A") ∷ LeftBrace ∷ RightBrace ∷ Semicolon ∷ [])
