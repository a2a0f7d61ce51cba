-- The instance syntax over tokens, with what each rule stands for (DSP0004, "Instance declarations", "Instance aliasing",
-- "Arrays" and the grammar of its annex, whose rules lend their names). Each rule holds of the tokens in front of a rest.
--
-- The grammar is the wide one: integers of any size, identifiers of any length, any number of parts.
use Rattle.std.specs.Prelude.{ℕ, true, false, List, [], ◌∷◌, ◌++◌, ℤ, Option, Some, None, codes}
use Rattle.mof_values.specs.Fold.{SameName}
use Rattle.mof_values.specs.declared.instance.Instance.{Instance}
use Rattle.mof_values.specs.declared.instance.Property.{Property}
use Rattle.mof_values.specs.declared.value.Scalar.{Scalar}
use Rattle.mof_values.specs.declared.value.Scalar.TheVariants as scalars
use Rattle.mof_values.specs.declared.value.Value.{Value}
use Rattle.mof_values.specs.declared.value.Value.TheVariants.{One, Many}
use Rattle.mof_syntax.specs.Tokens.{Lexeme, Word, AliasName, Literal, Number, LeftBrace, RightBrace, EqualsSign, Semicolon, Comma, Lexes}

-- one or more literals, joined
pub data StringValue : List Lexeme → List ℕ → List Lexeme → Type 0 where
  last : (text : List ℕ) (rest : List Lexeme) → StringValue (Literal text ∷ rest) text rest
  joined : (text more : List ℕ) (ts rest : List Lexeme) → StringValue ts more rest → StringValue (Literal text ∷ ts) (text ++ more) rest

-- no literal comes first, so the literals before are joined
abbrev pub NoLiteral : List Lexeme → Type 0
NoLiteral [] = Unit {0}
NoLiteral (Literal text ∷ ts) = ⊥
NoLiteral (t ∷ ts) = Unit {0}

-- a single value. Which word is a keyword is decided by its place alone, and keywords compare by fold
pub data ConstantValue : List Lexeme → Scalar → List Lexeme → Type 0 where
  string_value : (ts rest : List Lexeme) (text : List ℕ) → StringValue ts text rest → ConstantValue ts (scalars.Text text) rest
  integer_value : (z : ℤ) (rest : List Lexeme) → ConstantValue (Number z ∷ rest) (scalars.Integer z) rest
  true_value : (w : List ℕ) (rest : List Lexeme) → SameName w (codes "TRUE") → ConstantValue (Word w ∷ rest) (scalars.Bool true) rest
  false_value : (w : List ℕ) (rest : List Lexeme) → SameName w (codes "FALSE") → ConstantValue (Word w ∷ rest) (scalars.Bool false) rest
  null_value : (w : List ℕ) (rest : List Lexeme) → SameName w (codes "NULL") → ConstantValue (Word w ∷ rest) scalars.Null rest
  alias_identifier : (name : List ℕ) (rest : List Lexeme) → ConstantValue (AliasName name ∷ rest) (scalars.Alias name) rest

-- after an element of an array: any number of further ones, and the brace
pub data Elements : List Lexeme → List Scalar → List Lexeme → Type 0 where
  closing : (rest : List Lexeme) → Elements (RightBrace ∷ rest) [] rest
  element : (ts after rest : List Lexeme) (s : Scalar) (ss : List Scalar) → ConstantValue ts s after → Elements after ss rest
      → Elements (Comma ∷ ts) (s ∷ ss) rest

-- what a property may be given: a single value, or an array of them
pub data Initializer : List Lexeme → Value → List Lexeme → Type 0 where
  constant : (ts rest : List Lexeme) (s : Scalar) → ConstantValue ts s rest → Initializer ts (One s) rest
  empty_array : (rest : List Lexeme) → Initializer (LeftBrace ∷ RightBrace ∷ rest) (Many []) rest
  array : (ts after rest : List Lexeme) (s : Scalar) (ss : List Scalar) → ConstantValue ts s after → Elements after ss rest
      → Initializer (LeftBrace ∷ ts) (Many (s ∷ ss)) rest

-- any number of properties, and the brace
pub data ValueInitializers : List Lexeme → List Property → List Lexeme → Type 0 where
  done : (rest : List Lexeme) → ValueInitializers (RightBrace ∷ rest) [] rest
  value_initializer : (name : List ℕ) (ts after rest : List Lexeme) (v : Value) (ps : List Property)
      → Initializer ts v (Semicolon ∷ after) → ValueInitializers after ps rest
      → ValueInitializers (Word name ∷ EqualsSign ∷ ts) (record { name = name; value = v } ∷ ps) rest

-- an alias, or none
pub data AliasClause : List Lexeme → Option (List ℕ) → List Lexeme → Type 0 where
  unnamed : (rest : List Lexeme) → AliasClause rest None rest
  named : (w name : List ℕ) (rest : List Lexeme) → SameName w (codes "as") → AliasClause (Word w ∷ AliasName name ∷ rest) (Some name) rest

-- any number of declarations, and nothing else
pub data InstanceDeclarations : List Lexeme → List Instance → Type 0 where
  nothing : InstanceDeclarations [] []
  instance_declaration : (i o class : List ℕ) (alias : Option (List ℕ)) (ts body rest : List Lexeme) (ps : List Property) (instances : List Instance)
      → SameName i (codes "instance") → SameName o (codes "of") → AliasClause ts alias (LeftBrace ∷ body)
      → ValueInitializers body ps (Semicolon ∷ rest) → InstanceDeclarations rest instances
      → InstanceDeclarations (Word i ∷ Word o ∷ Word class ∷ ts) (record { class = class; alias = alias; properties = ps } ∷ instances)

-- the characters spell these instances, whatever their size
abbrev pub WideSpells : List ℕ → List Instance → Type 0
WideSpells chars instances = (ts : List Lexeme) × Lexes chars ts × InstanceDeclarations ts instances

-- the characters are a text of the wide grammar
abbrev pub Wide : List ℕ → Type 0
Wide chars = (instances : List Instance) × WideSpells chars instances
