-- A block that does not name the node changes nothing.
use Rattle.std.proofs.Common.{◌≡◌, ℕ, Bool, false, List, [], ◌∷◌, ◌++◌, ap, cond}
use Rattle.std.specs.Prelude.{filter}
use Rattle.std.specs.List.{flat_map}
use Rattle.config_script.specs.Scripts.{Block}
use Rattle.config_script.specs.Denoting.{instances_of, header, names_node, resources_of, denoted}

filtered : (node : List ℕ) (before after : List Block) (other : Block) → names_node node other ≡ false
    → filter (names_node node) (before ++ other ∷ after) ≡ filter (names_node node) (before ++ after)
filtered node [] after other e = ap (λ (b : Bool). cond b (other ∷ filter (names_node node) after) (filter (names_node node) after)) e
filtered node (b ∷ before) after other e =
    ap (λ (bs : List Block). cond (names_node node b) (b ∷ bs) bs) (filtered node before after other e)

pub other_changes_nothing : (node title : List ℕ) (before after : List Block) (other : Block) → names_node node other ≡ false
    → denoted title (before ++ other ∷ after) node ≡ denoted title (before ++ after) node
other_changes_nothing node title before after other e =
    ap (λ (bs : List Block). flat_map (instances_of title) (resources_of bs) ++ header title ∷ []) (filtered node before after other e)
