-- Targets of requests: paths (RFC 3986, section 3.3) of five forms.
use Rattle.std.specs.Prelude.{◌≡◌, ℕ, ◌≤◌, List, [], ◌∷◌, ◌++◌, length, Some, option_map, Option, codes, ◌==◌, if◌then◌else◌, ⊤}
use Rattle.std.specs.Int.{w128, from_be_bytes}
use Rattle.std.specs.Str.{encode_utf8_all}
use Rattle.uuid.specs.Text.{parsed_hyphenated}
use Rattle.mof_values.specs.Fold.{SameName}
use Rattle.pull_messages.specs.declared.target_kinds.Target.{Target}
use Rattle.pull_messages.specs.declared.target_kinds.Target.TheVariants.{Node, Action, Content, Module, SendReport}
use Rattle.mof_values.specs.declared.limits.TheConstants.{MAX_NAME_BYTES}
use Rattle.pull_messages.specs.Escapes.{AreChars}
use Rattle.pull_messages.specs.Spelling.{Spells}

-- A part of a target: a word, the identifier of an agent, or a text in quotes and the character after it.
pub data Part : Type 0 where
  word : List ℕ → Part
  agent : ℕ → Part
  quoted : List ℕ → ℕ → Part

-- the number of an identifier in the hyphenated form (RFC 9562, section 4), its digits in either case
unfoldable pub agent_of : List ℕ → Option ℕ
agent_of text = option_map (from_be_bytes w128) (parsed_hyphenated text)

-- each quote is doubled
abbrev pub doubled : List ℕ → List ℕ
doubled [] = []
doubled (c ∷ cs) = if c == 39 then 39 ∷ 39 ∷ doubled cs else c ∷ doubled cs

-- a text value has 1 to `MAX_NAME_BYTES` bytes of UTF-8
abbrev pub IsValue : List ℕ → Type 0
IsValue text = (1 ≤ length (encode_utf8_all text)) × (length (encode_utf8_all text) ≤ MAX_NAME_BYTES)

abbrev pub IsQuoted : List ℕ → ℕ → List ℕ → Type 0
IsQuoted text end chars = IsValue text × (chars ≡ 39 ∷ (doubled text ++ 39 ∷ end ∷ []))

-- words by fold
abbrev pub IsPart : Part → List ℕ → Type 0
IsPart (word name) chars = SameName chars name
IsPart (agent id) chars = agent_of chars ≡ Some id
IsPart (quoted text end) chars = IsQuoted text end chars

abbrev pub agent_parts : ℕ → List Part → List Part
agent_parts id parts = word (codes "/PSDSCPullServer.svc/Nodes(AgentId='") ∷ agent id ∷ parts

abbrev pub parts_of : Target → List Part
parts_of (Node id) = agent_parts id (word (codes "')") ∷ [])
parts_of (Action id) = agent_parts id (word (codes "')/GetDscAction") ∷ [])
parts_of (SendReport id) = agent_parts id (word (codes "')/SendReport") ∷ [])
parts_of (Content id name) =
    agent_parts id (word (codes "')/Configurations(ConfigurationName=") ∷ quoted name 41 ∷ word (codes "/ConfigurationContent") ∷ [])
parts_of (Module name version) =
    word (codes "/PSDSCPullServer.svc/Modules(ModuleName=") ∷ quoted name 44
    ∷ word (codes "ModuleVersion=") ∷ quoted version 41 ∷ word (codes "/ModuleContent") ∷ []

abbrev pub SpellsTarget : Target → List ℕ → Type 0
SpellsTarget target chars = Spells IsPart (parts_of target) chars

-- the texts of the target are text values
abbrev pub HasValues : Target → Type 0
HasValues (Node id) = ⊤
HasValues (Action id) = ⊤
HasValues (SendReport id) = ⊤
HasValues (Content id name) = IsValue name
HasValues (Module name version) = IsValue name × IsValue version

-- the text is the target's characters, any of their bytes escaped
unfoldable pub IsTarget : List ℕ → Target → Type 0
IsTarget text target = (chars : List ℕ) × AreChars chars text × SpellsTarget target chars

-- the text is whole characters, and some target begins with it
unfoldable pub BeginsTarget : List ℕ → Type 0
BeginsTarget text = ((chars : List ℕ) × AreChars chars text) × ((rest : List ℕ) × (target : Target) × IsTarget (text ++ rest) target)

-- the length of the longest front that some target begins with
pub record IsLongestFront (text : List ℕ) (at : ℕ) : Type 0 where
  pub front : List ℕ
  pub rest : List ℕ
  pub split : text ≡ front ++ rest
  pub size : length front ≡ at
  pub begins : BeginsTarget front
  pub longest : (more left : List ℕ) → text ≡ more ++ left → BeginsTarget more → length more ≤ at
