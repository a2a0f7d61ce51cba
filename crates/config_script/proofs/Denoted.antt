-- What is written of a script is the canonical text of what it gives a node.
use Rattle.std.proofs.Common.{◌≡◌, ℕ, Bool, true, false, ◌||◌, List, [], ◌∷◌, ◌++◌, refl, sym, ap, ap₂, subst, ◌∙◌, append_assoc, append-nil, Option, Some, None, codes, cond}
use Rattle.std.specs.Prelude.{map, filter, find, is_none, option_map}
use Rattle.std.specs.List.{flat_map, list_any}
use Rattle.mof_values.specs.Fold.{same_name}
use Rattle.mof_values.specs.declared.instance.Instance.{Instance}
use Rattle.mof_values.specs.declared.instance.Property as mof
use Rattle.mof_values.specs.declared.value.Scalar.{Scalar}
use Rattle.mof_values.specs.declared.value.Value.{Value}
use Rattle.mof_values.specs.declared.value.Value.TheVariants as values
use Rattle.mof_syntax.specs.Canonical.{literal_char, canonical_scalar, canonical_elements, canonical_value, canonical_property, canonical_instance, canonical_text}
use Rattle.mof_codec.specs.Written.{further_element}
use Rattle.config_script.specs.Scripts.{Property, Resource, Block}
use Rattle.config_script.specs.Places as events
use Rattle.config_script.specs.Places.{Event, elements_events, value_events, property_events, resource_events, block_events, script_events}
use Rattle.config_script.specs.Denoting.{Kind, file, environment, log, command, kind_named, given, last_properties, instance_of, instance_list, instances_of, header, names_node, resources_of, denoted}
use Rattle.config_script.specs.Refused.{first_unknown}
use Rattle.config_script.specs.Writing.{opening, closing, written}

-- ---- lists of instances

text_of_two : (is js : List Instance) → canonical_text (is ++ js) ≡ canonical_text is ++ canonical_text js
text_of_two [] js = refl
text_of_two (i ∷ is) js = ap (λ (xs : List ℕ). canonical_instance i ++ xs) (text_of_two is js) ∙ sym (append_assoc (canonical_instance i) (canonical_text is) (canonical_text js))

elements_split : (s : Scalar) (ss : List Scalar) → canonical_elements (s ∷ ss) ≡ canonical_scalar s ++ flat_map further_element ss
elements_split s [] = sym (append-nil (canonical_scalar s))
elements_split s (t ∷ ss) =
    append_assoc (canonical_scalar s) (codes ", ") (canonical_elements (t ∷ ss))
    ∙ ap (λ (xs : List ℕ). canonical_scalar s ++ (codes ", " ++ xs)) (elements_split t ss)
    ∙ ap (λ (xs : List ℕ). canonical_scalar s ++ xs) (sym (append_assoc (codes ", ") (canonical_scalar t) (flat_map further_element ss)))

-- ---- a block that does not name the node

abbrev W : List ℕ → List ℕ → Bool → List Event → List ℕ
W title node named es = written title node named es

elements_unnamed : (title node : List ℕ) (ss : List Scalar) (es : List Event) → W title node false (elements_events ss ++ es) ≡ W title node false es
elements_unnamed title node [] es = refl
elements_unnamed title node (s ∷ ss) es = elements_unnamed title node ss es

value_unnamed : (title node : List ℕ) (v : Value) (es : List Event) → W title node false (value_events v ++ es) ≡ W title node false es
value_unnamed title node (values.One s) es = refl
value_unnamed title node (values.Many []) es = refl
value_unnamed title node (values.Many (s ∷ ss)) es = elements_unnamed title node ss es

properties_unnamed : (title node : List ℕ) (ps : List Property) (es : List Event) → W title node false (flat_map property_events ps ++ es) ≡ W title node false es
properties_unnamed title node [] es = refl
properties_unnamed title node (p ∷ ps) es =
    ap (W title node false) (append_assoc (value_events p.value) (flat_map property_events ps) es)
    ∙ value_unnamed title node p.value (flat_map property_events ps ++ es) ∙ properties_unnamed title node ps es

resources_unnamed : (title node : List ℕ) (rs : List Resource) (es : List Event) → W title node false (flat_map resource_events rs ++ es) ≡ W title node false es
resources_unnamed title node [] es = refl
resources_unnamed title node (r ∷ rs) es =
    ap (W title node false) (append_assoc (flat_map property_events r.properties ++ events.ResourceEnd ∷ []) (flat_map resource_events rs) es
    ∙ append_assoc (flat_map property_events r.properties) (events.ResourceEnd ∷ []) (flat_map resource_events rs ++ es))
    ∙ properties_unnamed title node r.properties (events.ResourceEnd ∷ (flat_map resource_events rs ++ es)) ∙ resources_unnamed title node rs es

-- ---- a block that names the node

elements_named : (title node : List ℕ) (ss : List Scalar) (es : List Event)
    → W title node true (elements_events ss ++ es) ≡ flat_map further_element ss ++ (codes "};\n" ++ W title node true es)
elements_named title node [] es = refl
elements_named title node (s ∷ ss) es =
    ap (λ (xs : List ℕ). further_element s ++ xs) (elements_named title node ss es)
    ∙ sym (append_assoc (further_element s) (flat_map further_element ss) (codes "};\n" ++ W title node true es))

value_named : (title node : List ℕ) (v : Value) (es : List Event)
    → W title node true (value_events v ++ es) ≡ canonical_value v ++ (codes ";\n" ++ W title node true es)
value_named title node (values.One s) es = append_assoc (canonical_scalar s) (codes ";\n") (W title node true es)
value_named title node (values.Many []) es = refl
value_named title node (values.Many (s ∷ ss)) es =
    ap (λ (xs : List ℕ). codes "{" ++ xs)
    (ap (λ (xs : List ℕ). canonical_scalar s ++ xs) (elements_named title node ss es)
    ∙ sym (append_assoc (canonical_scalar s) (flat_map further_element ss) (codes "};\n" ++ W title node true es))
    ∙ ap (λ (xs : List ℕ). xs ++ (codes "};\n" ++ W title node true es)) (sym (elements_split s ss))
    ∙ sym (append_assoc (canonical_elements (s ∷ ss)) (codes "}") (codes ";\n" ++ W title node true es)))

property_named : (title node : List ℕ) (p : Property) (es : List Event)
    → W title node true (property_events p ++ es) ≡ canonical_property (given p) ++ W title node true es
property_named title node p es =
    ap (λ (xs : List ℕ). (codes " " ++ (p.name ++ codes " = ")) ++ xs) (value_named title node p.value es)
    ∙ simp append_assoc

properties_named : (title node : List ℕ) (ps : List Property) (es : List Event)
    → W title node true (flat_map property_events ps ++ es) ≡ flat_map canonical_property (map given ps) ++ W title node true es
properties_named title node [] es = refl
properties_named title node (p ∷ ps) es =
    ap (W title node true) (append_assoc (property_events p) (flat_map property_events ps) es)
    ∙ property_named title node p (flat_map property_events ps ++ es)
    ∙ ap (λ (xs : List ℕ). canonical_property (given p) ++ xs) (properties_named title node ps es)
    ∙ sym (append_assoc (canonical_property (given p)) (flat_map canonical_property (map given ps)) (W title node true es))

properties_join : (ps qs : List mof.Property) → flat_map canonical_property (ps ++ qs) ≡ flat_map canonical_property ps ++ flat_map canonical_property qs
properties_join [] qs = refl
properties_join (p ∷ ps) qs = ap (λ (xs : List ℕ). canonical_property p ++ xs) (properties_join ps qs)
    ∙ sym (append_assoc (canonical_property p) (flat_map canonical_property ps) (flat_map canonical_property qs))

-- the pieces of a resource of one of the kinds are its instance
abbrev Pieces : List ℕ → List ℕ → Resource → Kind → List ℕ → Type 0
Pieces title node r kind rest =
    opening (Some kind) ++ ((flat_map literal_char r.name ++ codes "\";\n") ++ (flat_map canonical_property (map given r.properties) ++ (closing title ++ rest)))
    ≡ canonical_instance (instance_of title r kind) ++ rest

-- the same pieces, from the left and from the right
assemble : (l f m t r : List ℕ)
    → (l ++ codes "\";\n") ++ (f ++ (m ++ ((t ++ codes "\";\n};\n") ++ r)))
    ≡ ((((l ++ 34 ∷ []) ++ codes ";\n") ++ (f ++ (m ++ (((t ++ 34 ∷ []) ++ codes ";\n") ++ [])))) ++ codes "};\n") ++ r
assemble l f m t r =
    sym (append_assoc (((l ++ 34 ∷ []) ++ codes ";\n") ++ (f ++ (m ++ (((t ++ 34 ∷ []) ++ codes ";\n") ++ [])))) (codes "};\n") r
    ∙ append_assoc ((l ++ 34 ∷ []) ++ codes ";\n") (f ++ (m ++ (((t ++ 34 ∷ []) ++ codes ";\n") ++ []))) (codes "};\n" ++ r)
    ∙ ap₂ (λ (x y : List ℕ). x ++ y) (append_assoc l (34 ∷ []) (codes ";\n"))
    (append_assoc f (m ++ (((t ++ 34 ∷ []) ++ codes ";\n") ++ [])) (codes "};\n" ++ r)
    ∙ ap (λ (x : List ℕ). f ++ x)
    (append_assoc m (((t ++ 34 ∷ []) ++ codes ";\n") ++ []) (codes "};\n" ++ r) ∙ ap (λ (x : List ℕ). m ++ x) (title_end t r))))
  where
    title_end : (t r : List ℕ) → (((t ++ 34 ∷ []) ++ codes ";\n") ++ []) ++ (codes "};\n" ++ r) ≡ (t ++ codes "\";\n};\n") ++ r
    title_end t r =
        ap (λ (x : List ℕ). x ++ (codes "};\n" ++ r)) (append-nil ((t ++ 34 ∷ []) ++ codes ";\n") ∙ append_assoc t (34 ∷ []) (codes ";\n"))
        ∙ append_assoc t (codes "\";\n") (codes "};\n" ++ r) ∙ sym (append_assoc t (codes "\";\n};\n") r)

abbrev modules : List ℕ
modules = codes " ModuleName = \"PSDesiredStateConfiguration\";\n ModuleVersion = \"1.0\";\n ConfigurationName = \""

-- after the front of a resource, which ends within the text of its ResourceID
pieces_after : (front title : List ℕ) (r : Resource) (rest : List ℕ)
    → front ++ ((flat_map literal_char r.name ++ codes "\";\n") ++ (flat_map canonical_property (map given r.properties) ++ (closing title ++ rest)))
    ≡ front ++ (((((flat_map literal_char r.name ++ 34 ∷ []) ++ codes ";\n")
    ++ flat_map canonical_property (map given r.properties ++ last_properties title)) ++ codes "};\n") ++ rest)
pieces_after front title r rest =
    ap (λ (x : List ℕ). front ++ x)
    (assemble (flat_map literal_char r.name) (flat_map canonical_property (map given r.properties)) modules (flat_map literal_char title) rest
    ∙ ap (λ (g : List ℕ). ((((flat_map literal_char r.name ++ 34 ∷ []) ++ codes ";\n") ++ g) ++ codes "};\n") ++ rest)
    (sym (properties_join (map given r.properties) (last_properties title))))

pieces_file : (title node : List ℕ) (r : Resource) (rest : List ℕ) → Pieces title node r file rest
pieces_file title node r rest = pieces_after (codes "instance of MSFT_FileDirectoryConfiguration\n{\n ResourceID = \"[File]") title r rest

pieces_environment : (title node : List ℕ) (r : Resource) (rest : List ℕ) → Pieces title node r environment rest
pieces_environment title node r rest = pieces_after (codes "instance of MSFT_EnvironmentResource\n{\n ResourceID = \"[Environment]") title r rest

pieces_log : (title node : List ℕ) (r : Resource) (rest : List ℕ) → Pieces title node r log rest
pieces_log title node r rest = pieces_after (codes "instance of MSFT_LogResource\n{\n ResourceID = \"[Log]") title r rest

pieces_command : (title node : List ℕ) (r : Resource) (rest : List ℕ) → Pieces title node r command rest
pieces_command title node r rest = pieces_after (codes "instance of DSC_CommandResource\n{\n ResourceID = \"[Command]") title r rest

-- a kind that is known is one of these
abbrev chosen : Bool → Bool → Bool → Bool → Option Kind
chosen a b c d =
    cond a (Some file)
    (cond b (Some environment)
    (cond c (Some log)
    (cond d (Some command) None)))

pieces : (title node : List ℕ) (r : Resource) (kind : Kind) (rest : List ℕ) → kind_named r.kind ≡ Some kind → Pieces title node r kind rest
pieces title node r kind rest e =
    by (same_name r.kind (codes "File")) (same_name r.kind (codes "Environment")) (same_name r.kind (codes "Log"))
    (same_name r.kind (codes "Command")) e
  where
    by : (a b c d : Bool) → chosen a b c d ≡ Some kind → Pieces title node r kind rest
    by true b c d e =
        let is : file ≡ kind = cc in
        subst (λ (k : Kind). Pieces title node r k rest) is (pieces_file title node r rest)
    by false true c d e =
        let is : environment ≡ kind = cc in
        subst (λ (k : Kind). Pieces title node r k rest) is (pieces_environment title node r rest)
    by false false true d e =
        let is : log ≡ kind = cc in
        subst (λ (k : Kind). Pieces title node r k rest) is (pieces_log title node r rest)
    by false false false true e =
        let is : command ≡ kind = cc in
        subst (λ (k : Kind). Pieces title node r k rest) is (pieces_command title node r rest)
    by false false false false e = cc

resource_named : (title node : List ℕ) (r : Resource) (kind : Kind) (es : List Event) → kind_named r.kind ≡ Some kind
    → W title node true (resource_events r ++ es) ≡ canonical_instance (instance_of title r kind) ++ W title node true es
resource_named title node r kind es e =
    ap (λ (k : Option Kind). opening k ++ ((flat_map literal_char r.name ++ codes "\";\n") ++ W title node true ((flat_map property_events r.properties ++ events.ResourceEnd ∷ []) ++ es))) e
    ∙ ap (λ (xs : List ℕ). opening (Some kind) ++ ((flat_map literal_char r.name ++ codes "\";\n") ++ xs))
    (ap (W title node true) (append_assoc (flat_map property_events r.properties) (events.ResourceEnd ∷ []) es)
    ∙ properties_named title node r.properties (events.ResourceEnd ∷ es))
    ∙ pieces title node r kind (W title node true es) e

-- each kind is known
abbrev Known : List Resource → Type 0
Known [] = Unit {0}
Known (r ∷ rs) = (kind : Kind) × (kind_named r.kind ≡ Some kind) × Known rs

known_of : (rs : List Resource) → option_map (λ (r : Resource). r.from) (find (λ (r : Resource). is_none (kind_named r.kind)) rs) ≡ None → Known rs
known_of [] e = tt
known_of (r ∷ rs) e = by (kind_named r.kind) refl (known_of rs) e
  where
    by : (o : Option Kind) → kind_named r.kind ≡ o
        → (option_map (λ (r : Resource). r.from) (find (λ (r : Resource). is_none (kind_named r.kind)) rs) ≡ None → Known rs)
        → option_map (λ (r : Resource). r.from) (cond (is_none o) (Some r) (find (λ (r : Resource). is_none (kind_named r.kind)) rs)) ≡ None → Known (r ∷ rs)
    by None f on e = cc
    by (Some kind) f on e = (kind, f, on e)

known_parts : (rs qs : List Resource) → Known (rs ++ qs) → Known rs × Known qs
known_parts [] qs k = (tt, k)
known_parts (r ∷ rs) qs k = let h = known_parts rs qs k.2 in ((k.0, k.1, h.0), h.1)

resources_named : (title node : List ℕ) (rs : List Resource) (es : List Event) → Known rs
    → W title node true (flat_map resource_events rs ++ es) ≡ canonical_text (flat_map (instances_of title) rs) ++ W title node true es
resources_named title node [] es k = refl
resources_named title node (r ∷ rs) es k =
    ap (W title node true) (append_assoc (resource_events r) (flat_map resource_events rs) es)
    ∙ resource_named title node r k.0 (flat_map resource_events rs ++ es) k.1
    ∙ ap (λ (xs : List ℕ). canonical_instance (instance_of title r k.0) ++ xs) (resources_named title node rs es k.2)
    ∙ sym (append_assoc (canonical_instance (instance_of title r k.0)) (canonical_text (flat_map (instances_of title) rs)) (W title node true es))
    ∙ ap (λ (is : List Instance). canonical_text (is ++ flat_map (instances_of title) rs) ++ W title node true es) (sym (ap (instance_list title r) k.1))

or_assoc : (a b c : Bool) → ((a || b) || c) ≡ (a || (b || c))
or_assoc true b c = refl
or_assoc false b c = refl

names_passed : (title node : List ℕ) (named : Bool) (ns : List (List ℕ)) (es : List Event)
    → W title node named (map events.Node ns ++ es) ≡ W title node (named || list_any (λ (n : List ℕ). same_name n node) ns) es
names_passed title node true [] es = refl
names_passed title node false [] es = refl
names_passed title node named (n ∷ ns) es =
    nothing named (W title node (named || same_name n node) (map events.Node ns ++ es))
    ∙ names_passed title node (named || same_name n node) ns es
    ∙ ap (λ (b : Bool). W title node b es) (or_assoc named (same_name n node) (list_any (λ (n : List ℕ). same_name n node) ns))
  where
    nothing : (b : Bool) (xs : List ℕ) → cond b [] [] ++ xs ≡ xs
    nothing true xs = refl
    nothing false xs = refl

instances_join : (title : List ℕ) (rs qs : List Resource) → flat_map (instances_of title) (rs ++ qs) ≡ flat_map (instances_of title) rs ++ flat_map (instances_of title) qs
instances_join title [] qs = refl
instances_join title (r ∷ rs) qs = ap (λ (is : List Instance). instances_of title r ++ is) (instances_join title rs qs)
    ∙ sym (append_assoc (instances_of title r) (flat_map (instances_of title) rs) (flat_map (instances_of title) qs))

blocks_written : (title node : List ℕ) (bs : List Block) → Known (resources_of bs)
    → W title node false (flat_map block_events bs) ≡ canonical_text (denoted title bs node)
blocks_written title node [] k = sym (append-nil (canonical_instance (header title)))
blocks_written title node (b ∷ bs) k =
    let ks = known_parts b.resources (resources_of bs) k in
    ap (W title node false) (append_assoc (map events.Node b.names) (flat_map resource_events b.resources ++ events.BlockEnd ∷ []) (flat_map block_events bs)
    ∙ ap (λ (xs : List Event). map events.Node b.names ++ xs) (append_assoc (flat_map resource_events b.resources) (events.BlockEnd ∷ []) (flat_map block_events bs)))
    ∙ names_passed title node false b.names (flat_map resource_events b.resources ++ events.BlockEnd ∷ flat_map block_events bs)
    ∙ by (names_node node b) ks.0 (blocks_written title node bs ks.1)
  where
    by : (n : Bool) → Known b.resources → W title node false (flat_map block_events bs) ≡ canonical_text (denoted title bs node)
        → W title node n (flat_map resource_events b.resources ++ events.BlockEnd ∷ flat_map block_events bs)
        ≡ canonical_text (flat_map (instances_of title) (resources_of (cond n (b ∷ filter (names_node node) bs) (filter (names_node node) bs))) ++ header title ∷ [])
    by false known rest = resources_unnamed title node b.resources (events.BlockEnd ∷ flat_map block_events bs) ∙ rest
    by true known rest =
        resources_named title node b.resources (events.BlockEnd ∷ flat_map block_events bs) known
        ∙ ap (λ (xs : List ℕ). canonical_text (flat_map (instances_of title) b.resources) ++ xs) rest
        ∙ sym (text_of_two (flat_map (instances_of title) b.resources) (denoted title bs node))
        ∙ ap canonical_text (sym (append_assoc (flat_map (instances_of title) b.resources) (flat_map (instances_of title) (resources_of (filter (names_node node) bs))) (header title ∷ [])))
        ∙ ap (λ (is : List Instance). canonical_text (is ++ header title ∷ [])) (sym (instances_join title b.resources (resources_of (filter (names_node node) bs))))

-- what is written of a script whose kinds are known
pub script_written : (title node : List ℕ) (bs : List Block) → first_unknown bs ≡ None
    → written [] node false (script_events title bs) ≡ canonical_text (denoted title bs node)
script_written title node bs known = blocks_written title node bs (known_of (resources_of bs) known)
