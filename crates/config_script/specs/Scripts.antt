-- Configuration scripts over tokens, with what each rule stands for: the configuration blocks, node blocks and resource
-- blocks of Windows PowerShell Desired State Configuration ("about_Configuration"), without expressions.
use Rattle.std.specs.Prelude.{◌≡◌, ℕ, Bool, true, false, List, [], ◌∷◌, ◌++◌, Option, Some, None, codes, length, take, ◌≤◌}
use Rattle.mof_values.specs.Fold.{SameName}
use Rattle.mof_values.specs.declared.value.Scalar.{Scalar}
use Rattle.mof_values.specs.declared.value.Scalar.TheVariants as scalars
use Rattle.mof_values.specs.declared.value.Value.{Value}
use Rattle.mof_values.specs.declared.value.Value.TheVariants.{One, Many}
use Rattle.config_script.specs.Tokens.{feeds, Token, Word, Text, Integer, True, False, Null, LeftBrace, RightBrace, EqualsSign, Semicolon, Comma, ArrayBegin, ArrayEnd, Placed, placed, Lexes}

-- ---- what a script holds. `from` is the script from the first character of the kind, or of the property's name, on

pub record Property : Type 0 where
  pub from : List ℕ
  pub name : List ℕ
  pub value : Value

pub record Resource : Type 0 where
  pub from : List ℕ
  pub kind : List ℕ
  pub name : List ℕ
  pub properties : List Property

pub record Block : Type 0 where
  pub names : List (List ℕ)
  pub resources : List Resource

-- ---- the grammar. Each rule holds of the tokens in front of a rest

-- a name is a word or a text
abbrev pub name_in : Token → Option (List ℕ)
name_in (Word name) = Some name
name_in (Text text) = Some text
name_in _ = None

abbrev pub scalar_in : Token → Option Scalar
scalar_in (Text text) = Some (scalars.Text text)
scalar_in (Integer z) = Some (scalars.Integer z)
scalar_in True = Some (scalars.Bool true)
scalar_in False = Some (scalars.Bool false)
scalar_in Null = Some scalars.Null
scalar_in _ = None

-- after an element of an array: any number of further ones, and the parenthesis
pub data Elements : List Placed → List Scalar → List Placed → Type 0 where
  closing : (f : Bool) (c : List ℕ) (rest : List Placed) → Elements (placed f c ArrayEnd ∷ rest) [] rest
  element : (f g : Bool) (c d : List ℕ) (t : Token) (ts rest : List Placed) (s : Scalar) (ss : List Scalar)
      → scalar_in t ≡ Some s → Elements ts ss rest → Elements (placed f c Comma ∷ placed g d t ∷ ts) (s ∷ ss) rest

-- what a property is given: a scalar, or an array of them
pub data Given : List Placed → Value → List Placed → Type 0 where
  single : (f : Bool) (c : List ℕ) (t : Token) (rest : List Placed) (s : Scalar) → scalar_in t ≡ Some s → Given (placed f c t ∷ rest) (One s) rest
  empty_array : (f g : Bool) (c d : List ℕ) (rest : List Placed) → Given (placed f c ArrayBegin ∷ placed g d ArrayEnd ∷ rest) (Many []) rest
  array : (f g : Bool) (c d : List ℕ) (t : Token) (ts rest : List Placed) (s : Scalar) (ss : List Scalar)
      → scalar_in t ≡ Some s → Elements ts ss rest → Given (placed f c ArrayBegin ∷ placed g d t ∷ ts) (Many (s ∷ ss)) rest

-- any number of semicolons
pub data Semicolons : List Placed → List Placed → Type 0 where
  none : (rest : List Placed) → Semicolons rest rest
  further : (f : Bool) (c : List ℕ) (ts rest : List Placed) → Semicolons ts rest → Semicolons (placed f c Semicolon ∷ ts) rest

-- what divides a property from the one before: a semicolon or more, or a line feed before its name
pub data Divided : List Placed → List Placed → Type 0 where
  by_semicolon : (f : Bool) (c : List ℕ) (ts rest : List Placed) → Semicolons ts rest → Divided (placed f c Semicolon ∷ ts) rest
  by_feed : (c : List ℕ) (t : Token) (ts : List Placed) → Divided (placed true c t ∷ ts) (placed true c t ∷ ts)

-- after a property: further ones, semicolons, and the brace
pub data Further : List Placed → List Property → List Placed → Type 0 where
  closing : (f : Bool) (c : List ℕ) (ts rest : List Placed) → Semicolons ts (placed f c RightBrace ∷ rest) → Further ts [] rest
  property : (f g : Bool) (c d name : List ℕ) (ts us vs rest : List Placed) (v : Value) (ps : List Property)
      → Divided ts (placed f c (Word name) ∷ placed g d EqualsSign ∷ us) → Given us v vs → Further vs ps rest
      → Further ts (record { from = c; name = name; value = v } ∷ ps) rest

-- after the brace of a resource: its properties, and the other brace
pub data Properties : List Placed → List Property → List Placed → Type 0 where
  empty : (f : Bool) (c : List ℕ) (ts rest : List Placed) → Semicolons ts (placed f c RightBrace ∷ rest) → Properties ts [] rest
  some : (f g : Bool) (c d name : List ℕ) (us vs rest : List Placed) (v : Value) (ps : List Property)
      → Given us v vs → Further vs ps rest
      → Properties (placed f c (Word name) ∷ placed g d EqualsSign ∷ us) (record { from = c; name = name; value = v } ∷ ps) rest

-- any number of resources, and the brace of their block
pub data Resources : List Placed → List Resource → List Placed → Type 0 where
  done : (f : Bool) (c : List ℕ) (rest : List Placed) → Resources (placed f c RightBrace ∷ rest) [] rest
  resource : (f g h : Bool) (c d e kind name : List ℕ) (t : Token) (ts us rest : List Placed) (ps : List Property) (rs : List Resource)
      → name_in t ≡ Some name → Properties ts ps us → Resources us rs rest
      → Resources (placed f c (Word kind) ∷ placed g d t ∷ placed h e LeftBrace ∷ ts) (record { from = c; kind = kind; name = name; properties = ps } ∷ rs) rest

-- names, divided by commas
pub data Names : List Placed → List (List ℕ) → List Placed → Type 0 where
  last : (f : Bool) (c : List ℕ) (t : Token) (name : List ℕ) (rest : List Placed) → name_in t ≡ Some name → Names (placed f c t ∷ rest) (name ∷ []) rest
  more : (f g : Bool) (c d : List ℕ) (t : Token) (name : List ℕ) (ts rest : List Placed) (names : List (List ℕ))
      → name_in t ≡ Some name → Names ts names rest → Names (placed f c t ∷ placed g d Comma ∷ ts) (name ∷ names) rest

-- any number of node blocks, and the brace of the configuration, with which the script ends
pub data Blocks : List Placed → List Block → Type 0 where
  done : (f : Bool) (c : List ℕ) → Blocks (placed f c RightBrace ∷ []) []
  block : (f g : Bool) (c d w : List ℕ) (ts us vs : List Placed) (names : List (List ℕ)) (rs : List Resource) (bs : List Block)
      → SameName w (codes "node") → Names ts names (placed g d LeftBrace ∷ us) → Resources us rs vs → Blocks vs bs
      → Blocks (placed f c (Word w) ∷ ts) (record { names = names; resources = rs } ∷ bs)

-- a configuration of this name and these blocks
pub data Configuration : List Placed → List ℕ → List Block → Type 0 where
  configuration : (f g h : Bool) (c d e w name : List ℕ) (ts : List Placed) (blocks : List Block)
      → SameName w (codes "configuration") → Blocks ts blocks
      → Configuration (placed f c (Word w) ∷ placed g d (Word name) ∷ placed h e LeftBrace ∷ ts) name blocks

-- the characters are a script of this name and these blocks
abbrev pub Script : List ℕ → List ℕ → List Block → Type 0
Script chars name blocks = (ts : List Placed) × Lexes false chars ts × Configuration ts name blocks

-- the characters are a script
abbrev pub IsScript : List ℕ → Type 0
IsScript chars = (name : List ℕ) × (blocks : List Block) × Script chars name blocks

-- ---- texts that are no scripts

-- some script begins with these characters
abbrev pub IsFront : List ℕ → Type 0
IsFront front = (rest : List ℕ) × IsScript (front ++ rest)

-- the text is no script, and its longest front has that many line feeds
pub record GoesWrongOn (text : List ℕ) (line : ℕ) : Type 0 where
  pub none : IsScript text → ⊥
  pub at : ℕ
  pub within : at ≤ length text
  pub front : IsFront (take at text)
  pub longest : (n : ℕ) → n ≤ length text → IsFront (take n text) → n ≤ at
  pub counted : line ≡ feeds (take at text)
