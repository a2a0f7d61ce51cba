-- What is looked for in the events of a script is the first of its kind in the blocks.
use Rattle.std.proofs.Common.{◌≡◌, ℕ, Bool, true, false, ◌||◌, List, [], ◌∷◌, ◌++◌, refl, sym, ap, ◌∙◌, append_assoc, Option, Some, None, cond}
use Rattle.std.specs.Prelude.{map, find, is_none, option_map}
use Rattle.std.specs.List.{flat_map, list_any}
use Rattle.mof_values.specs.Fold.{same_name}
use Rattle.mof_values.specs.declared.value.Scalar.{Scalar}
use Rattle.mof_values.specs.declared.value.Value.{Value}
use Rattle.mof_values.specs.declared.value.Value.TheVariants as values
use Rattle.config_script.specs.Scripts.{Property, Resource, Block}
use Rattle.config_script.specs.Places as events
use Rattle.config_script.specs.Places.{Event, elements_events, value_events, property_events, resource_events, block_events, script_events}
use Rattle.config_script.specs.Denoting.{kind_named, is_reserved, names_node, resources_of}
use Rattle.config_script.specs.Refused.{first_unknown, first_reserved}
use Rattle.config_script.specs.Checking.{unknown_in, reserved_in, named_in, or_else}

pub or_else_assoc : (a b c : Option (List ℕ)) → or_else (or_else a b) c ≡ or_else a (or_else b c)
or_else_assoc (Some x) b c = refl
or_else_assoc None b c = refl

-- ---- kinds

abbrev unknown : Resource → Bool
unknown resource = is_none (kind_named resource.kind)

abbrev from_of : Option Resource → Option (List ℕ)
from_of found = option_map (λ (resource : Resource). resource.from) found

elements_unknown : (ss : List Scalar) (es : List Event) → unknown_in (elements_events ss ++ es) ≡ unknown_in es
elements_unknown [] es = refl
elements_unknown (s ∷ ss) es = elements_unknown ss es

value_unknown : (v : Value) (es : List Event) → unknown_in (value_events v ++ es) ≡ unknown_in es
value_unknown (values.One s) es = refl
value_unknown (values.Many []) es = refl
value_unknown (values.Many (s ∷ ss)) es = elements_unknown ss es

properties_unknown : (ps : List Property) (es : List Event) → unknown_in (flat_map property_events ps ++ es) ≡ unknown_in es
properties_unknown [] es = refl
properties_unknown (p ∷ ps) es =
    ap unknown_in (append_assoc (value_events p.value) (flat_map property_events ps) es)
    ∙ value_unknown p.value (flat_map property_events ps ++ es) ∙ properties_unknown ps es

names_unknown : (ns : List (List ℕ)) (es : List Event) → unknown_in (map events.Node ns ++ es) ≡ unknown_in es
names_unknown [] es = refl
names_unknown (n ∷ ns) es = names_unknown ns es

resource_unknown : (r : Resource) (es : List Event) → unknown_in (resource_events r ++ es) ≡ or_else (cond (unknown r) (Some r.from) None) (unknown_in es)
resource_unknown r es = by (unknown r)
  where
    others : unknown_in ((flat_map property_events r.properties ++ events.ResourceEnd ∷ []) ++ es) ≡ unknown_in es
    others = ap unknown_in (append_assoc (flat_map property_events r.properties) (events.ResourceEnd ∷ []) es) ∙ properties_unknown r.properties (events.ResourceEnd ∷ es)

    by : (b : Bool) → cond b (Some r.from) (unknown_in ((flat_map property_events r.properties ++ events.ResourceEnd ∷ []) ++ es)) ≡ or_else (cond b (Some r.from) None) (unknown_in es)
    by true = refl
    by false = others

found_next : (r : Resource) (found : Option Resource) → from_of (cond (unknown r) (Some r) found) ≡ or_else (cond (unknown r) (Some r.from) None) (from_of found)
found_next r found = by (unknown r)
  where
    by : (b : Bool) → from_of (cond b (Some r) found) ≡ or_else (cond b (Some r.from) None) (from_of found)
    by true = refl
    by false = refl

resources_unknown : (rs : List Resource) (es : List Event) → unknown_in (flat_map resource_events rs ++ es) ≡ or_else (from_of (find unknown rs)) (unknown_in es)
resources_unknown [] es = refl
resources_unknown (r ∷ rs) es =
    ap unknown_in (append_assoc (resource_events r) (flat_map resource_events rs) es)
    ∙ resource_unknown r (flat_map resource_events rs ++ es)
    ∙ ap (or_else (cond (unknown r) (Some r.from) None)) (resources_unknown rs es)
    ∙ sym (or_else_assoc (cond (unknown r) (Some r.from) None) (from_of (find unknown rs)) (unknown_in es))
    ∙ ap (λ (o : Option (List ℕ)). or_else o (unknown_in es)) (sym (found_next r (find unknown rs)))

found_in_two : (rs qs : List Resource) → from_of (find unknown (rs ++ qs)) ≡ or_else (from_of (find unknown rs)) (from_of (find unknown qs))
found_in_two [] qs = refl
found_in_two (r ∷ rs) qs =
    found_next r (find unknown (rs ++ qs))
    ∙ ap (or_else (cond (unknown r) (Some r.from) None)) (found_in_two rs qs)
    ∙ sym (or_else_assoc (cond (unknown r) (Some r.from) None) (from_of (find unknown rs)) (from_of (find unknown qs)))
    ∙ ap (λ (o : Option (List ℕ)). or_else o (from_of (find unknown qs))) (sym (found_next r (find unknown rs)))

blocks_unknown : (bs : List Block) → unknown_in (flat_map block_events bs) ≡ first_unknown bs
blocks_unknown [] = refl
blocks_unknown (b ∷ bs) =
    ap unknown_in (append_assoc (map events.Node b.names) (flat_map resource_events b.resources ++ events.BlockEnd ∷ []) (flat_map block_events bs)
    ∙ ap (λ (xs : List Event). map events.Node b.names ++ xs) (append_assoc (flat_map resource_events b.resources) (events.BlockEnd ∷ []) (flat_map block_events bs)))
    ∙ names_unknown b.names (flat_map resource_events b.resources ++ events.BlockEnd ∷ flat_map block_events bs)
    ∙ resources_unknown b.resources (events.BlockEnd ∷ flat_map block_events bs)
    ∙ ap (or_else (from_of (find unknown b.resources))) (blocks_unknown bs)
    ∙ sym (found_in_two b.resources (resources_of bs))

pub script_unknown : (title : List ℕ) (bs : List Block) → unknown_in (script_events title bs) ≡ first_unknown bs
script_unknown title bs = blocks_unknown bs

-- ---- nodes

elements_named : (node : List ℕ) (ss : List Scalar) (es : List Event) → named_in node (elements_events ss ++ es) ≡ named_in node es
elements_named node [] es = refl
elements_named node (s ∷ ss) es = elements_named node ss es

value_named : (node : List ℕ) (v : Value) (es : List Event) → named_in node (value_events v ++ es) ≡ named_in node es
value_named node (values.One s) es = refl
value_named node (values.Many []) es = refl
value_named node (values.Many (s ∷ ss)) es = elements_named node ss es

properties_named : (node : List ℕ) (ps : List Property) (es : List Event) → named_in node (flat_map property_events ps ++ es) ≡ named_in node es
properties_named node [] es = refl
properties_named node (p ∷ ps) es =
    ap (named_in node) (append_assoc (value_events p.value) (flat_map property_events ps) es)
    ∙ value_named node p.value (flat_map property_events ps ++ es) ∙ properties_named node ps es

resources_named : (node : List ℕ) (rs : List Resource) (es : List Event) → named_in node (flat_map resource_events rs ++ es) ≡ named_in node es
resources_named node [] es = refl
resources_named node (r ∷ rs) es =
    ap (named_in node) (append_assoc (flat_map property_events r.properties ++ events.ResourceEnd ∷ []) (flat_map resource_events rs) es
    ∙ append_assoc (flat_map property_events r.properties) (events.ResourceEnd ∷ []) (flat_map resource_events rs ++ es))
    ∙ properties_named node r.properties (events.ResourceEnd ∷ (flat_map resource_events rs ++ es)) ∙ resources_named node rs es

or_assoc : (a b c : Bool) → ((a || b) || c) ≡ (a || (b || c))
or_assoc true b c = refl
or_assoc false b c = refl

names_named : (node : List ℕ) (ns : List (List ℕ)) (es : List Event)
    → named_in node (map events.Node ns ++ es) ≡ (list_any (λ (name : List ℕ). same_name name node) ns || named_in node es)
names_named node [] es = refl
names_named node (n ∷ ns) es =
    ap (λ (b : Bool). same_name n node || b) (names_named node ns es)
    ∙ sym (or_assoc (same_name n node) (list_any (λ (name : List ℕ). same_name name node) ns) (named_in node es))

blocks_named : (node : List ℕ) (bs : List Block) → named_in node (flat_map block_events bs) ≡ list_any (names_node node) bs
blocks_named node [] = refl
blocks_named node (b ∷ bs) =
    ap (named_in node) (append_assoc (map events.Node b.names) (flat_map resource_events b.resources ++ events.BlockEnd ∷ []) (flat_map block_events bs)
    ∙ ap (λ (xs : List Event). map events.Node b.names ++ xs) (append_assoc (flat_map resource_events b.resources) (events.BlockEnd ∷ []) (flat_map block_events bs)))
    ∙ names_named node b.names (flat_map resource_events b.resources ++ events.BlockEnd ∷ flat_map block_events bs)
    ∙ ap (λ (x : Bool). names_node node b || x) (resources_named node b.resources (events.BlockEnd ∷ flat_map block_events bs) ∙ blocks_named node bs)

pub script_named : (node title : List ℕ) (bs : List Block) → named_in node (script_events title bs) ≡ list_any (names_node node) bs
script_named node title bs = blocks_named node bs

-- ---- names of properties

abbrev taken_name : Property → Bool
taken_name property = is_reserved property.name

abbrev place_of : Option Property → Option (List ℕ)
place_of found = option_map (λ (property : Property). property.from) found

elements_reserved : (ss : List Scalar) (es : List Event) → reserved_in (elements_events ss ++ es) ≡ reserved_in es
elements_reserved [] es = refl
elements_reserved (s ∷ ss) es = elements_reserved ss es

value_reserved : (v : Value) (es : List Event) → reserved_in (value_events v ++ es) ≡ reserved_in es
value_reserved (values.One s) es = refl
value_reserved (values.Many []) es = refl
value_reserved (values.Many (s ∷ ss)) es = elements_reserved ss es

names_reserved : (ns : List (List ℕ)) (es : List Event) → reserved_in (map events.Node ns ++ es) ≡ reserved_in es
names_reserved [] es = refl
names_reserved (n ∷ ns) es = names_reserved ns es

place_next : (p : Property) (found : Option Property) → place_of (cond (taken_name p) (Some p) found) ≡ or_else (cond (taken_name p) (Some p.from) None) (place_of found)
place_next p found = by (taken_name p)
  where
    by : (b : Bool) → place_of (cond b (Some p) found) ≡ or_else (cond b (Some p.from) None) (place_of found)
    by true = refl
    by false = refl

properties_reserved : (ps : List Property) (es : List Event) → reserved_in (flat_map property_events ps ++ es) ≡ or_else (place_of (find taken_name ps)) (reserved_in es)
properties_reserved [] es = refl
properties_reserved (p ∷ ps) es =
    ap reserved_in (append_assoc (property_events p) (flat_map property_events ps) es)
    ∙ by (taken_name p) (properties_reserved ps es)
    ∙ sym (or_else_assoc (cond (taken_name p) (Some p.from) None) (place_of (find taken_name ps)) (reserved_in es))
    ∙ ap (λ (o : Option (List ℕ)). or_else o (reserved_in es)) (sym (place_next p (find taken_name ps)))
  where
    by : (b : Bool) → reserved_in (flat_map property_events ps ++ es) ≡ or_else (place_of (find taken_name ps)) (reserved_in es)
        → cond b (Some p.from) (reserved_in (value_events p.value ++ (flat_map property_events ps ++ es)))
        ≡ or_else (cond b (Some p.from) None) (or_else (place_of (find taken_name ps)) (reserved_in es))
    by true h = refl
    by false h = value_reserved p.value (flat_map property_events ps ++ es) ∙ h

abbrev properties_of : List Resource → List Property
properties_of rs = flat_map (λ (r : Resource). r.properties) rs

place_in_two : (ps qs : List Property) → place_of (find taken_name (ps ++ qs)) ≡ or_else (place_of (find taken_name ps)) (place_of (find taken_name qs))
place_in_two [] qs = refl
place_in_two (p ∷ ps) qs =
    place_next p (find taken_name (ps ++ qs))
    ∙ ap (or_else (cond (taken_name p) (Some p.from) None)) (place_in_two ps qs)
    ∙ sym (or_else_assoc (cond (taken_name p) (Some p.from) None) (place_of (find taken_name ps)) (place_of (find taken_name qs)))
    ∙ ap (λ (o : Option (List ℕ)). or_else o (place_of (find taken_name qs))) (sym (place_next p (find taken_name ps)))

resources_reserved : (rs : List Resource) (es : List Event) → reserved_in (flat_map resource_events rs ++ es) ≡ or_else (place_of (find taken_name (properties_of rs))) (reserved_in es)
resources_reserved [] es = refl
resources_reserved (r ∷ rs) es =
    ap reserved_in (append_assoc (flat_map property_events r.properties ++ events.ResourceEnd ∷ []) (flat_map resource_events rs) es
    ∙ append_assoc (flat_map property_events r.properties) (events.ResourceEnd ∷ []) (flat_map resource_events rs ++ es))
    ∙ properties_reserved r.properties (events.ResourceEnd ∷ (flat_map resource_events rs ++ es))
    ∙ ap (or_else (place_of (find taken_name r.properties))) (resources_reserved rs es)
    ∙ sym (or_else_assoc (place_of (find taken_name r.properties)) (place_of (find taken_name (properties_of rs))) (reserved_in es))
    ∙ ap (λ (o : Option (List ℕ)). or_else o (reserved_in es)) (sym (place_in_two r.properties (properties_of rs)))

properties_join : (rs qs : List Resource) → properties_of (rs ++ qs) ≡ properties_of rs ++ properties_of qs
properties_join [] qs = refl
properties_join (r ∷ rs) qs = ap (λ (ps : List Property). r.properties ++ ps) (properties_join rs qs) ∙ sym (append_assoc r.properties (properties_of rs) (properties_of qs))

blocks_reserved : (bs : List Block) → reserved_in (flat_map block_events bs) ≡ first_reserved bs
blocks_reserved [] = refl
blocks_reserved (b ∷ bs) =
    ap reserved_in (append_assoc (map events.Node b.names) (flat_map resource_events b.resources ++ events.BlockEnd ∷ []) (flat_map block_events bs)
    ∙ ap (λ (xs : List Event). map events.Node b.names ++ xs) (append_assoc (flat_map resource_events b.resources) (events.BlockEnd ∷ []) (flat_map block_events bs)))
    ∙ names_reserved b.names (flat_map resource_events b.resources ++ events.BlockEnd ∷ flat_map block_events bs)
    ∙ resources_reserved b.resources (events.BlockEnd ∷ flat_map block_events bs)
    ∙ ap (or_else (place_of (find taken_name (properties_of b.resources)))) (blocks_reserved bs)
    ∙ sym (place_in_two (properties_of b.resources) (properties_of (resources_of bs)))
    ∙ ap (λ (ps : List Property). place_of (find taken_name ps)) (sym (properties_join b.resources (resources_of bs)))

pub script_reserved : (title : List ℕ) (bs : List Block) → reserved_in (script_events title bs) ≡ first_reserved bs
script_reserved title bs = blocks_reserved bs
