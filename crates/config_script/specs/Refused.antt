-- When a script gives a node a document, and why else it gives none. A reason stands only where none that wins over it
-- does.
use Rattle.std.specs.Prelude.{◌≡◌, ◌≢◌, ℕ, ◌<◌, ◌≤◌, true, false, List, [], ◌∷◌, Option, Some, None, is_none, length, find, option_map, encode_utf8_all, IsUtf8, ⊤}
use Rattle.std.specs.List.{flat_map, list_any}
use Rattle.std.specs.Str.{all_scalars, IsValidUpTo}
use Rattle.mof_syntax.specs.Canonical.{canonical_bytes}
use Rattle.dsc_document.specs.declared.document.Document.{Document}
use Rattle.partial_merge.specs.Merged.{Merged}
use Rattle.partial_merge.specs.Parts.{unnamed_part}
use Rattle.partial_merge.specs.Refused as merges
use Rattle.partial_merge.specs.declared.error.MergeError.{MergeError}
use Rattle.partial_merge.specs.declared.error.MergeError.TheVariants as merge_errors
use Rattle.config_script.specs.declared.error.CompileError.{CompileError}
use Rattle.config_script.specs.declared.error.CompileError.TheVariants as reasons
use Rattle.config_script.specs.declared.limits.TheConstants.{MAX_SCRIPT}
use Rattle.config_script.specs.Tokens.{line_of}
use Rattle.config_script.specs.Scripts.{Block, Script, GoesWrongOn}
use Rattle.config_script.specs.Denoting.{kind_named, is_reserved, names_node, resources_of, denoted}

-- the script from the first kind on that is not known, in whatever block
abbrev pub first_unknown : List Block → Option (List ℕ)
first_unknown blocks = option_map (λ resource. resource.from) (find (λ resource. is_none (kind_named resource.kind)) (resources_of blocks))

-- the script from the first property on whose name is reserved, in whatever block
abbrev pub first_reserved : List Block → Option (List ℕ)
first_reserved blocks =
    option_map (λ property. property.from)
    (find (λ property. is_reserved property.name) (flat_map (λ resource. resource.properties) (resources_of blocks)))

-- some block names the node
abbrev pub SomeNames : List ℕ → List Block → Type 0
SomeNames node blocks = list_any (names_node node) blocks ≡ true

-- the bytes are these characters in UTF-8, and not too many
pub record IsText (bytes chars : List ℕ) : Type 0 where
  pub within : length bytes ≤ MAX_SCRIPT
  pub scalars : all_scalars chars ≡ true
  pub encoded : encode_utf8_all chars ≡ bytes

-- the bytes are a script of this name and these blocks
pub record IsScriptOf (bytes chars title : List ℕ) (blocks : List Block) : Type 0 where
  pub is_text : IsText bytes chars
  pub script : Script chars title blocks

-- and each kind is known, no name is reserved, and a block names the node
pub record Serves (bytes node title : List ℕ) (blocks : List Block) : Type 0 where
  pub chars : List ℕ
  pub script : IsScriptOf bytes chars title blocks
  pub known : first_unknown blocks ≡ None
  pub free : first_reserved blocks ≡ None
  pub named : SomeNames node blocks

abbrev pub text_for : List ℕ → List Block → List ℕ → List ℕ
text_for title blocks node = canonical_bytes (denoted title blocks node)

-- the script in the bytes gives the node this text, which merges as one part
pub record Compiles (bytes node text : List ℕ) : Type 0 where
  pub title : List ℕ
  pub blocks : List Block
  pub serves : Serves bytes node title blocks
  pub written : text ≡ text_for title blocks node
  pub merges : (document : Document) × Merged (unnamed_part text ∷ []) document

-- the bytes are not too long, and at the byte `at` begins the first sequence that is no character
pub record IsTextFault (bytes : List ℕ) (at : ℕ) : Type 0 where
  pub within : length bytes ≤ MAX_SCRIPT
  pub outside : IsUtf8 bytes → ⊥
  pub valid_up_to : IsValidUpTo bytes at

pub record HasShapeFault (bytes : List ℕ) (line : ℕ) : Type 0 where
  pub chars : List ℕ
  pub is_text : IsText bytes chars
  pub wrong : GoesWrongOn chars line

pub record HasUnknownKind (bytes : List ℕ) (line : ℕ) : Type 0 where
  pub chars : List ℕ
  pub title : List ℕ
  pub blocks : List Block
  pub script : IsScriptOf bytes chars title blocks
  pub from : List ℕ
  pub unknown : first_unknown blocks ≡ Some from
  pub counted : line ≡ line_of chars from

pub record HasReserved (bytes : List ℕ) (line : ℕ) : Type 0 where
  pub chars : List ℕ
  pub title : List ℕ
  pub blocks : List Block
  pub script : IsScriptOf bytes chars title blocks
  pub known : first_unknown blocks ≡ None
  pub from : List ℕ
  pub reserved : first_reserved blocks ≡ Some from
  pub counted : line ≡ line_of chars from

pub record HasNoNode (bytes node : List ℕ) : Type 0 where
  pub chars : List ℕ
  pub title : List ℕ
  pub blocks : List Block
  pub script : IsScriptOf bytes chars title blocks
  pub known : first_unknown blocks ≡ None
  pub free : first_reserved blocks ≡ None
  pub unnamed : list_any (names_node node) blocks ≡ false

pub record IsUnmerged (bytes node : List ℕ) (error : MergeError) : Type 0 where
  pub title : List ℕ
  pub blocks : List Block
  pub serves : Serves bytes node title blocks
  pub caused : error ≢ merge_errors.Memory
  pub refused : merges.Refused (unnamed_part (text_for title blocks node) ∷ []) error

-- the bytes give the node no document for this reason. Out of memory has no cause here
abbrev pub Refuses : List ℕ → List ℕ → CompileError → Type 0
Refuses bytes node reasons.TooLong = MAX_SCRIPT < length bytes
Refuses bytes node (reasons.NotText at) = IsTextFault bytes at
Refuses bytes node (reasons.Shape line) = HasShapeFault bytes line
Refuses bytes node (reasons.UnknownKind line) = HasUnknownKind bytes line
Refuses bytes node (reasons.Reserved line) = HasReserved bytes line
Refuses bytes node reasons.NoNode = HasNoNode bytes node
Refuses bytes node (reasons.Merge error) = IsUnmerged bytes node error
Refuses bytes node reasons.Memory = ⊤
