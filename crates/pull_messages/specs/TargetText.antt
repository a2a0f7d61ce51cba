-- Targets as they are written.
use Rattle.std.specs.Prelude.{ℕ, ◌+◌, ◌/◌, ◌%◌, List, [], ◌∷◌, ◌++◌, Bool, ◌&&◌, ◌||◌, ◌==◌, nat_le, nat_lt, if◌then◌else◌, codes, encode_utf8_all, All, ◌<◌, ◌^◌}
use Rattle.std.specs.Char.{IsScalar}
use Rattle.std.specs.List.{flat_map}
use Rattle.pull_messages.specs.declared.target_kinds.Target.{Target}
use Rattle.pull_messages.specs.declared.target_kinds.Target.TheVariants.{Node, Action, Content, Module, SendReport}
use Rattle.pull_messages.specs.Targets.{doubled}
use Rattle.pull_messages.specs.Writing.{id_text}

-- the unreserved characters (RFC 3986, section 2.3): ASCII letters, digits, `-`, `.`, `_` and `~`
abbrev pub is_unreserved : ℕ → Bool
is_unreserved b =
    (nat_le 65 b && nat_le b 90) || (nat_le 97 b && nat_le b 122) || (nat_le 48 b && nat_le b 57) || b == 45 || b == 46 || b == 95 || b == 126

-- a hexadecimal digit, letters in upper case
abbrev pub upper_digit : ℕ → ℕ
upper_digit value = if nat_lt value 10 then 48 + value else 55 + value

-- an unreserved byte as itself, any other as `%` and its two digits
abbrev pub escaped : ℕ → List ℕ
escaped b = if is_unreserved b then b ∷ [] else 37 ∷ upper_digit (b / 16) ∷ upper_digit (b % 16) ∷ []

abbrev pub escaped_all : List ℕ → List ℕ
escaped_all bytes = flat_map escaped bytes

-- the quotes doubled, and then each byte escaped that is not unreserved
abbrev pub value_text : List ℕ → List ℕ
value_text text = escaped_all (encode_utf8_all (doubled text))

abbrev pub agent_path : ℕ → List ℕ → List ℕ
agent_path id end = codes "/Nodes(AgentId='" ++ id_text id ++ codes "')" ++ end

abbrev pub path_of : Target → List ℕ
path_of (Node id) = agent_path id []
path_of (Action id) = agent_path id (codes "/GetDscAction")
path_of (SendReport id) = agent_path id (codes "/SendReport")
path_of (Content id name) =
    agent_path id (codes "/Configurations(ConfigurationName='") ++ value_text name ++ codes "')/ConfigurationContent"
path_of (Module name version) =
    codes "/Modules(ModuleName='" ++ value_text name ++ codes "',ModuleVersion='" ++ value_text version ++ codes "')/ModuleContent"

unfoldable pub target_text : List ℕ → Target → List ℕ
target_text prefix target = encode_utf8_all prefix ++ path_of target

-- ---- for private clauses

-- its identifier has 128 bits, and its characters are scalar values
abbrev pub HasRanges : Target → Type 0
HasRanges (Node id) = id < 2 ^ 128
HasRanges (Action id) = id < 2 ^ 128
HasRanges (SendReport id) = id < 2 ^ 128
HasRanges (Content id name) = (id < 2 ^ 128) × All IsScalar name
HasRanges (Module name version) = All IsScalar name × All IsScalar version
