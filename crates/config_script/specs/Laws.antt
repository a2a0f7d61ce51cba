-- The laws of scripts.
use Rattle.std.specs.Prelude.{◌≡◌, ◌≢◌, ◌↔◌, ℕ, false, List, [], ◌∷◌, ◌++◌, None, map}
use Rattle.config_script.specs.declared.error.CompileError.{CompileError}
use Rattle.config_script.specs.declared.error.CompileError.TheVariants.{Memory}
use Rattle.config_script.specs.Scripts.{Property, Resource, Block}
use Rattle.config_script.specs.Denoting.{names_node, denoted}
use Rattle.config_script.specs.Refused.{first_unknown, first_reserved, IsScriptOf, Compiles, Refuses}

-- a block that does not name the node changes nothing
abbrev pub OtherBlocksChangeNothing : List ℕ → Type 0
OtherBlocksChangeNothing node = (title : List ℕ) (before after : List Block) (other : Block) → names_node node other ≡ false
    → denoted title (before ++ other ∷ after) node ≡ denoted title (before ++ after) node

-- bytes give the node at most one text
abbrev pub AtMostOneText : List ℕ → Type 0
AtMostOneText node = (bytes one other : List ℕ) → Compiles bytes node one → Compiles bytes node other → one ≡ other

-- no bytes give the node a text and are refused, out of memory aside
abbrev pub NeverBoth : List ℕ → Type 0
NeverBoth node =
    (bytes text : List ℕ) (reason : CompileError) → reason ≢ Memory → Compiles bytes node text
    → Refuses bytes node reason → ⊥

-- bytes are refused for at most one reason, out of memory aside
abbrev pub AtMostOneReason : List ℕ → Type 0
AtMostOneReason node =
    (bytes : List ℕ) (one other : CompileError) → one ≢ Memory → other ≢ Memory
    → Refuses bytes node one → Refuses bytes node other → one ≡ other

-- ---- blocks that are added to a script

-- what a property, a resource and a block say, wherever in a text they stand
abbrev pub unplaced_property : Property → Property
unplaced_property p = record { from = []; name = p.name; value = p.value }

abbrev pub unplaced_resource : Resource → Resource
unplaced_resource r = record { from = []; kind = r.kind; name = r.name; properties = map unplaced_property r.properties }

abbrev pub unplaced : Block → Block
unplaced b = record { names = b.names; resources = map unplaced_resource b.resources }

-- the blocks, with others anywhere before, between and after them that do not name the node
pub data WithOthers (node : List ℕ) : List Block → List Block → Type 0 where
  none : WithOthers node [] []
  kept : (block same : Block) (blocks more : List Block) → unplaced block ≡ unplaced same → WithOthers node blocks more
      → WithOthers node (block ∷ blocks) (same ∷ more)
  added : (other : Block) (blocks more : List Block) → names_node node other ≡ false → WithOthers node blocks more
      → WithOthers node blocks (other ∷ more)

-- each kind is known, and no name is reserved
pub record AreAllowed (blocks : List Block) : Type 0 where
  pub known : first_unknown blocks ≡ None
  pub free : first_reserved blocks ≡ None

-- what the one bytes give the node the others give it, and the one are refused for whatever the others are
pub record SameAnswers (node bytes others : List ℕ) : Type 0 where
  pub texts : (text : List ℕ) → Compiles bytes node text ↔ Compiles others node text
  pub reasons : (reason : CompileError) → Refuses bytes node reason ↔ Refuses others node reason

-- blocks that do not name the node, added anywhere to a script, change no answer, as long as their kinds and names are allowed
abbrev pub AddedBlocksChangeNothing : List ℕ → Type 0
AddedBlocksChangeNothing node =
    (bytes others chars more_chars title : List ℕ) (blocks more : List Block) → IsScriptOf bytes chars title blocks
    → IsScriptOf others more_chars title more → WithOthers node blocks more → AreAllowed blocks → AreAllowed more
    → SameAnswers node bytes others
