-- Blocks that do not name the node, added to a script, change none of its answers.
use Rattle.std.proofs.Common.{◌≡◌, ℕ, Bool, true, false, ◌||◌, List, [], ◌∷◌, ◌++◌, refl, sym, ap, ap₂, subst, ◌∙◌, append_assoc, Option, Some, None, cond}
use Rattle.std.specs.Prelude.{codes, filter, map}
use Rattle.std.specs.List.{flat_map, list_any}
use Rattle.std.proofs.lemmas.Option.{none-some}
use Rattle.mof_values.specs.declared.instance.Instance.{Instance}
use Rattle.mof_values.specs.declared.instance.Property as mof
use Rattle.mof_syntax.specs.Canonical.{canonical_bytes}
use Rattle.partial_merge.specs.Parts.{unnamed_part}
use Rattle.partial_merge.specs.Refused as merges
use Rattle.config_script.specs.declared.error.CompileError.{CompileError}
use Rattle.config_script.specs.declared.error.CompileError.TheVariants as reasons
use Rattle.config_script.specs.Scripts.{Property, Resource, Block}
use Rattle.config_script.specs.Denoting.{Kind, given, header, instance_list, instances_of, kind_named, last_properties, names_node, resources_of, text_property}
use Rattle.config_script.specs.Laws.{unplaced_property, unplaced_resource, unplaced, WithOthers, none, kept, added, AreAllowed, AddedBlocksChangeNothing}
use Rattle.config_script.specs.Refused.{first_unknown, first_reserved, IsScriptOf, Serves, Compiles, Refuses, text_for}
use Rattle.config_script.proofs.OneAnswer.{no_script, no_text, of_once, too_long}

-- ---- places change nothing

given_unplaced : (ps : List Property) → map given (map unplaced_property ps) ≡ map given ps
given_unplaced [] = refl
given_unplaced (p ∷ ps) = ap (λ (xs : List mof.Property). given p ∷ xs) (given_unplaced ps)

instances_unplaced : (title : List ℕ) (r : Resource) → instances_of title (unplaced_resource r) ≡ instances_of title r
instances_unplaced title r = by (kind_named r.kind)
  where
    with_properties : Kind → List mof.Property → Instance
    with_properties kind ps = record {
      class = kind.class;
      alias = None;
      properties = text_property (codes "ResourceID") (codes "[" ++ kind.name ++ codes "]" ++ r.name) ∷ (ps ++ last_properties title);
    }

    by : (kind : Option Kind) → instance_list title (unplaced_resource r) kind ≡ instance_list title r kind
    by None = refl
    by (Some kind) = ap (λ (ps : List mof.Property). with_properties kind ps ∷ []) (given_unplaced r.properties)

all_unplaced : (title : List ℕ) (rs : List Resource) → flat_map (instances_of title) (map unplaced_resource rs) ≡ flat_map (instances_of title) rs
all_unplaced title [] = refl
all_unplaced title (r ∷ rs) = ap₂ (λ (xs ys : List Instance). xs ++ ys) (instances_unplaced title r) (all_unplaced title rs)

joined : (title : List ℕ) (rs qs : List Resource)
    → flat_map (instances_of title) (rs ++ qs) ≡ flat_map (instances_of title) rs ++ flat_map (instances_of title) qs
joined title [] qs = refl
joined title (r ∷ rs) qs =
    ap (λ (xs : List Instance). instances_of title r ++ xs) (joined title rs qs)
    ∙ sym (append_assoc (instances_of title r) (flat_map (instances_of title) rs) (flat_map (instances_of title) qs))

block_same : (title : List ℕ) (one other : Block) → unplaced one ≡ unplaced other
    → flat_map (instances_of title) one.resources ≡ flat_map (instances_of title) other.resources
block_same title one other e =
    sym (all_unplaced title one.resources) ∙ ap (λ (b : Block). flat_map (instances_of title) b.resources) e ∙ all_unplaced title other.resources

-- ---- what the blocks stand for

abbrev stand_for : List ℕ → List Block → List Instance
stand_for title blocks = flat_map (instances_of title) (resources_of blocks)

stand_same : (title node : List ℕ) (blocks more : List Block) → WithOthers node blocks more
    → stand_for title (filter (names_node node) blocks) ≡ stand_for title (filter (names_node node) more)
stand_same title node blocks more none = refl
stand_same title node blocks more (added other bs ms apart w) =
    stand_same title node bs ms w
    ∙ ap (λ (b : Bool). stand_for title (cond b (other ∷ filter (names_node node) ms) (filter (names_node node) ms))) (sym apart)
stand_same title node blocks more (kept one other bs ms e w) =
    by (names_node node one) (stand_same title node bs ms w)
    ∙ ap (λ (b : Bool). stand_for title (cond b (other ∷ filter (names_node node) ms) (filter (names_node node) ms))) (ap (names_node node) e)
  where
    by : (b : Bool) → stand_for title (filter (names_node node) bs) ≡ stand_for title (filter (names_node node) ms)
        → stand_for title (cond b (one ∷ filter (names_node node) bs) (filter (names_node node) bs))
        ≡ stand_for title (cond b (other ∷ filter (names_node node) ms) (filter (names_node node) ms))
    by false h = h
    by true h =
        joined title one.resources (resources_of (filter (names_node node) bs))
        ∙ ap₂ (λ (xs ys : List Instance). xs ++ ys) (block_same title one other e) h
        ∙ sym (joined title other.resources (resources_of (filter (names_node node) ms)))

named_same : (node : List ℕ) (blocks more : List Block) → WithOthers node blocks more
    → list_any (names_node node) blocks ≡ list_any (names_node node) more
named_same node blocks more none = refl
named_same node blocks more (added other bs ms apart w) =
    named_same node bs ms w ∙ ap (λ (b : Bool). b || list_any (names_node node) ms) (sym apart)
named_same node blocks more (kept one other bs ms e w) = ap₂ (λ (a b : Bool). a || b) (ap (names_node node) e) (named_same node bs ms w)

text_same : (title node : List ℕ) (blocks more : List Block) → WithOthers node blocks more → text_for title blocks node ≡ text_for title more node
text_same title node blocks more w = ap (λ (is : List Instance). canonical_bytes (is ++ header title ∷ [])) (stand_same title node blocks more w)

-- ---- an answer of one text is one of another whose blocks stand for the same

module _ (node bytes others chars cs title : List ℕ) (blocks more : List Block) (one : IsScriptOf bytes chars title blocks) (other : IsScriptOf others cs title more)
    (allowed : AreAllowed blocks) (also : AreAllowed more) (named : list_any (names_node node) blocks ≡ list_any (names_node node) more)
    (text : text_for title blocks node ≡ text_for title more node) where
  serves : (name : List ℕ) (found : List Block) → Serves bytes node name found → Serves others node title more
  serves name found s = record {
    chars = cs;
    script = other;
    known = also.known;
    free = also.free;
    named = sym named ∙ ap (list_any (names_node node)) (of_once bytes chars s.chars title name blocks found one s.script).2 ∙ s.named;
  }

  written : (name : List ℕ) (found : List Block) → Serves bytes node name found → text_for name found node ≡ text_for title more node
  written name found s =
      let same = of_once bytes s.chars chars name title found blocks s.script one in
      ap₂ (λ (t : List ℕ) (bs : List Block). text_for t bs node) same.1 same.2 ∙ text

  compiles : (found : List ℕ) → Compiles bytes node found → Compiles others node found
  compiles found h = record {
    title = title;
    blocks = more;
    serves = serves h.title h.blocks h.serves;
    written = h.written ∙ written h.title h.blocks h.serves;
    merges = h.merges;
  }

  refuses : (reason : CompileError) → Refuses bytes node reason → Refuses others node reason
  refuses reasons.TooLong h = absurd (too_long bytes h one.is_text.within)
  refuses (reasons.NotText at) h = absurd (no_text bytes chars at h one.is_text)
  refuses (reasons.Shape line) h = absurd (no_script bytes chars title blocks line h one)
  refuses (reasons.UnknownKind line) h =
      absurd (none-some h.from (sym allowed.known ∙ ap first_unknown (of_once bytes chars h.chars title h.title blocks h.blocks one h.script).2 ∙ h.unknown))
  refuses (reasons.Reserved line) h =
      absurd (none-some h.from (sym allowed.free ∙ ap first_reserved (of_once bytes chars h.chars title h.title blocks h.blocks one h.script).2 ∙ h.reserved))
  refuses reasons.NoNode h = record {
    chars = cs;
    title = title;
    blocks = more;
    script = other;
    known = also.known;
    free = also.free;
    unnamed = sym named ∙ ap (list_any (names_node node)) (of_once bytes chars h.chars title h.title blocks h.blocks one h.script).2 ∙ h.unnamed;
  }
  refuses (reasons.Merge error) h = record {
    title = title;
    blocks = more;
    serves = serves h.title h.blocks h.serves;
    caused = h.caused;
    refused = subst (λ (t : List ℕ). merges.Refused (unnamed_part t ∷ []) error) (written h.title h.blocks h.serves) h.refused;
  }
  refuses reasons.Memory h = tt

pub added_change_nothing : (node : List ℕ) → AddedBlocksChangeNothing node
added_change_nothing node bytes others chars cs title blocks more one other w allowed also =
    let named = named_same node blocks more w in
    let text = text_same title node blocks more w in
    record {
      texts = λ found. (
        compiles node bytes others chars cs title blocks more one other allowed also named text found,
        compiles node others bytes cs chars title more blocks other one also allowed (sym named) (sym text) found,
      );
      reasons = λ reason. (
        refuses node bytes others chars cs title blocks more one other allowed also named text reason,
        refuses node others bytes cs chars title more blocks other one also allowed (sym named) (sym text) reason,
      );
    }
