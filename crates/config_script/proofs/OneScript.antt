-- Characters are a script in one way: one list of tokens, the events of which are those of one script.
use Rattle.std.proofs.Common.{◌≡◌, ℕ, Bool, false, List, [], ◌∷◌, ◌++◌, refl, sym, ap, ap₂, subst, ◌∙◌, append_assoc, Some}
use Rattle.std.specs.Prelude.{map}
use Rattle.std.specs.List.{flat_map}
use Rattle.mof_values.specs.declared.value.Scalar.{Scalar}
use Rattle.mof_values.specs.declared.value.Value.{Value}
use Rattle.mof_values.specs.declared.value.Value.TheVariants as values
use Rattle.mof_syntax.specs.Characters.{Stops}
use Rattle.config_script.specs.declared.place.Place.{Place}
use Rattle.config_script.specs.declared.place.Place.TheVariants.{Start, End}
use Rattle.config_script.specs.Tokens.{Placed, placed, Lexes, end, blank, comment, token}
use Rattle.config_script.specs.Lexing.{separated}
use Rattle.config_script.specs.Scripts.{Property, Resource, Block, Script}
use Rattle.config_script.specs.Places as events
use Rattle.config_script.specs.Places.{Event, Step, step, with_event, Goes, elements_events, value_events, property_events, resource_events, block_events, script_events}
use Rattle.config_script.proofs.Lexed.{token_is}
use Rattle.config_script.proofs.Rules.{goes_configuration}
use Rattle.config_script.proofs.Walked.{separates, blank_or_sign, at_text_end, token_found, separated_stops, separated_on, goes_inverse}

-- ---- tokens

-- where no separator comes first
clear_once : (ts us : List Placed) (f : Bool) (cs : List ℕ) → Stops separates cs → Lexes f cs ts → Lexes f cs us → ts ≡ us
clear_once ts us f cs s (end g) m = sym (at_text_end g us m)
clear_once ts us f cs s (blank g c xs vs is l) m = let no = blank_or_sign c is in cc
clear_once ts us f cs s (comment g xs after vs d l) m = cc
clear_once (p ∷ vs) us f cs s (token g xs t rest ws is l) m =
    let found = token_found g xs us t rest s (token_is xs t rest is) m in
    let same : vs ≡ found.0 = clear_once vs found.0 (separated false false rest).0 (separated false false rest).1 (separated_stops false false rest)
    (separated_on false rest vs l) (separated_on false rest found.0 found.2) in
    ap (λ (ys : List Placed). placed g xs t ∷ ys) same ∙ sym found.1

lexes_once : (ts us : List Placed) (f : Bool) (cs : List ℕ) → Lexes f cs ts → Lexes f cs us → ts ≡ us
lexes_once ts us f cs l m =
    clear_once ts us (separated f false cs).0 (separated f false cs).1 (separated_stops false f cs) (separated_on f cs ts l) (separated_on f cs us m)

-- ---- what the tokens add

goes_once : (p : Place) (ts : List Placed) (es fs : List Event) → Goes p ts es → Goes p ts fs → es ≡ fs
goes_once p ts es fs events.end other = sym (none_left fs other)
  where
    none_left : (fs : List Event) → Goes End [] fs → fs ≡ []
    none_left fs events.end = refl
goes_once p ts es fs (events.on q f c t s us gs is more) other =
    let i = goes_inverse q f c t us fs other in
    let same : s ≡ i.0 = same_step s i.0 is i.2 in
    ap (with_event s.event) (goes_once s.place us gs i.1 more (subst (λ (x : Step). Goes x.place us i.1) (sym same) i.3))
    ∙ ap (λ (x : Step). with_event x.event i.1) same ∙ sym i.4
  where
    same_step : (x y : Step) → step q f c t ≡ Some x → step q f c t ≡ Some y → x ≡ y
    same_step x y a b = cc

-- ---- events are those of one script

same_events : (a b : Event) (es fs : List Event) → a ∷ es ≡ b ∷ fs → (a ≡ b) × (es ≡ fs)
same_events a b es fs e = (cc, cc)

elements_once : (ss qs : List Scalar) (es fs : List Event) → elements_events ss ++ es ≡ elements_events qs ++ fs → (ss ≡ qs) × (es ≡ fs)
elements_once [] [] es fs e = (refl, (same_events events.ArrayShut events.ArrayShut es fs e).1)
elements_once [] (q ∷ qs) es fs e = cc
elements_once (s ∷ ss) [] es fs e = cc
elements_once (s ∷ ss) (q ∷ qs) es fs e =
    let h = same_events (events.Further s) (events.Further q) (elements_events ss ++ es) (elements_events qs ++ fs) e in
    let first : s ≡ q = further_same s q h.0 in
    let others = elements_once ss qs es fs h.1 in
    (ap₂ (λ (x : Scalar) (xs : List Scalar). x ∷ xs) first others.0, others.1)
  where
    further_same : (a b : Scalar) → events.Further a ≡ events.Further b → a ≡ b
    further_same a b e = cc

value_once : (v w : Value) (es fs : List Event) → value_events v ++ es ≡ value_events w ++ fs → (v ≡ w) × (es ≡ fs)
value_once (values.One s) (values.One q) es fs e =
    let h = same_events (events.One s) (events.One q) es fs e in
    (ap values.One (one_same s q h.0), h.1)
  where
    one_same : (a b : Scalar) → events.One a ≡ events.One b → a ≡ b
    one_same a b e = cc
value_once (values.One s) (values.Many []) es fs e = cc
value_once (values.One s) (values.Many (q ∷ qs)) es fs e = cc
value_once (values.Many []) (values.One q) es fs e = cc
value_once (values.Many []) (values.Many []) es fs e =
    let h = same_events events.ArrayOpen events.ArrayOpen (events.ArrayShut ∷ es) (events.ArrayShut ∷ fs) e in
    (refl, (same_events events.ArrayShut events.ArrayShut es fs h.1).1)
value_once (values.Many []) (values.Many (q ∷ qs)) es fs e = cc
value_once (values.Many (s ∷ ss)) (values.One q) es fs e = cc
value_once (values.Many (s ∷ ss)) (values.Many []) es fs e = cc
value_once (values.Many (s ∷ ss)) (values.Many (q ∷ qs)) es fs e =
    let h = same_events events.ArrayOpen events.ArrayOpen (events.Element s ∷ (elements_events ss ++ es))
    (events.Element q ∷ (elements_events qs ++ fs)) e in
    let k = same_events (events.Element s) (events.Element q) (elements_events ss ++ es) (elements_events qs ++ fs) h.1 in
    let others = elements_once ss qs es fs k.1 in
    (ap₂ (λ (x : Scalar) (xs : List Scalar). values.Many (x ∷ xs)) (element_same s q k.0) others.0, others.1)
  where
    element_same : (a b : Scalar) → events.Element a ≡ events.Element b → a ≡ b
    element_same a b e = cc

-- the events of a property, and others
abbrev property_on : Property → List Event → List Event
property_on p es = events.Property p.from p.name ∷ (value_events p.value ++ es)

property_split : (p : Property) (ps : List Property) (es : List Event)
    → flat_map property_events (p ∷ ps) ++ es ≡ property_on p (flat_map property_events ps ++ es)
property_split p ps es = ap (λ (xs : List Event). events.Property p.from p.name ∷ xs)
    (append_assoc (value_events p.value) (flat_map property_events ps) es)

property_once : (p q : Property) (es fs : List Event) → property_on p es ≡ property_on q fs → (p ≡ q) × (es ≡ fs)
property_once p q es fs e =
    let h = same_events (events.Property p.from p.name) (events.Property q.from q.name) (value_events p.value ++ es) (value_events q.value ++ fs) e in
    let names = names_same p.from q.from p.name q.name h.0 in
    let value = value_once p.value q.value es fs h.1 in
    (fields p.from q.from p.name q.name p.value q.value names.0 names.1 value.0, value.1)
  where
    names_same : (a b c d : List ℕ) → events.Property a c ≡ events.Property b d → (a ≡ b) × (c ≡ d)
    names_same a b c d e = (cc, cc)

    made : List ℕ → List ℕ → Value → Property
    made a c v = record { from = a; name = c; value = v }

    fields : (a b c d : List ℕ) (v w : Value) → a ≡ b → c ≡ d → v ≡ w → made a c v ≡ made b d w
    fields a b c d v w e f g = ap₂ (λ (x y : List ℕ). made x y v) e f ∙ ap (made b d) g

properties_once : (ps qs : List Property) (es fs : List Event)
    → flat_map property_events ps ++ events.ResourceEnd ∷ es ≡ flat_map property_events qs ++ events.ResourceEnd ∷ fs → (ps ≡ qs) × (es ≡ fs)
properties_once [] [] es fs e = (refl, (same_events events.ResourceEnd events.ResourceEnd es fs e).1)
properties_once [] (q ∷ qs) es fs e = cc
properties_once (p ∷ ps) [] es fs e = cc
properties_once (p ∷ ps) (q ∷ qs) es fs e =
    let h = property_once p q (flat_map property_events ps ++ events.ResourceEnd ∷ es) (flat_map property_events qs ++ events.ResourceEnd ∷ fs)
    (sym (property_split p ps (events.ResourceEnd ∷ es)) ∙ e ∙ property_split q qs (events.ResourceEnd ∷ fs)) in
    let others = properties_once ps qs es fs h.1 in
    (ap₂ (λ (x : Property) (xs : List Property). x ∷ xs) h.0 others.0, others.1)

abbrev resource_on : Resource → List Event → List Event
resource_on r es = events.Kind r.from r.kind ∷ events.ResourceName r.name ∷ (flat_map property_events r.properties ++ events.ResourceEnd ∷ es)

resource_split : (r : Resource) (rs : List Resource) (es : List Event)
    → flat_map resource_events (r ∷ rs) ++ es ≡ resource_on r (flat_map resource_events rs ++ es)
resource_split r rs es = ap (λ (xs : List Event). events.Kind r.from r.kind ∷ events.ResourceName r.name ∷ xs)
    (append_assoc (flat_map property_events r.properties ++ events.ResourceEnd ∷ []) (flat_map resource_events rs) es
    ∙ append_assoc (flat_map property_events r.properties) (events.ResourceEnd ∷ []) (flat_map resource_events rs ++ es))

resource_once : (r q : Resource) (es fs : List Event) → resource_on r es ≡ resource_on q fs → (r ≡ q) × (es ≡ fs)
resource_once r q es fs e =
    let after = λ (x : Resource) (xs : List Event). flat_map property_events x.properties ++ events.ResourceEnd ∷ xs in
    let h = same_events (events.Kind r.from r.kind) (events.Kind q.from q.kind) (events.ResourceName r.name ∷ after r es)
    (events.ResourceName q.name ∷ after q fs) e in
    let k = same_events (events.ResourceName r.name) (events.ResourceName q.name) (after r es) (after q fs) h.1 in
    let kinds = kinds_same r.from q.from r.kind q.kind h.0 in
    let properties = properties_once r.properties q.properties es fs k.1 in
    let same = name_same r.name q.name k.0 in
    (fields r.from q.from r.kind q.kind r.name q.name r.properties q.properties kinds.0 kinds.1 same properties.0, properties.1)
  where
    kinds_same : (a b c d : List ℕ) → events.Kind a c ≡ events.Kind b d → (a ≡ b) × (c ≡ d)
    kinds_same a b c d e = (cc, cc)

    name_same : (a b : List ℕ) → events.ResourceName a ≡ events.ResourceName b → a ≡ b
    name_same a b e = cc

    made : List ℕ → List ℕ → List ℕ → List Property → Resource
    made a c n ps = record { from = a; kind = c; name = n; properties = ps }

    fields : (a b c d n m : List ℕ) (ps qs : List Property) → a ≡ b → c ≡ d → n ≡ m → ps ≡ qs → made a c n ps ≡ made b d m qs
    fields a b c d n m ps qs e f g h = ap₂ (λ (x y : List ℕ). made x y n ps) e f ∙ ap₂ (made b d) g h

resources_once : (rs qs : List Resource) (es fs : List Event)
    → flat_map resource_events rs ++ events.BlockEnd ∷ es ≡ flat_map resource_events qs ++ events.BlockEnd ∷ fs → (rs ≡ qs) × (es ≡ fs)
resources_once [] [] es fs e = (refl, (same_events events.BlockEnd events.BlockEnd es fs e).1)
resources_once [] (q ∷ qs) es fs e = cc
resources_once (r ∷ rs) [] es fs e = cc
resources_once (r ∷ rs) (q ∷ qs) es fs e =
    let h = resource_once r q (flat_map resource_events rs ++ events.BlockEnd ∷ es) (flat_map resource_events qs ++ events.BlockEnd ∷ fs)
    (sym (resource_split r rs (events.BlockEnd ∷ es)) ∙ e ∙ resource_split q qs (events.BlockEnd ∷ fs)) in
    let others = resources_once rs qs es fs h.1 in
    (ap₂ (λ (x : Resource) (xs : List Resource). x ∷ xs) h.0 others.0, others.1)

-- the resources of a block, and what is after it
abbrev in_block : List Resource → List Event → List Event
in_block rs es = flat_map resource_events rs ++ events.BlockEnd ∷ es

no_name : (n : List ℕ) (rs : List Resource) (es fs : List Event) → in_block rs es ≡ events.Node n ∷ fs → ⊥
no_name n [] es fs e = cc
no_name n (r ∷ rs) es fs e = cc

names_once : (ns ms : List (List ℕ)) (rs qs : List Resource) (es fs : List Event)
    → map events.Node ns ++ in_block rs es ≡ map events.Node ms ++ in_block qs fs → (ns ≡ ms) × (in_block rs es ≡ in_block qs fs)
names_once [] [] rs qs es fs e = (refl, e)
names_once [] (m ∷ ms) rs qs es fs e = absurd (no_name m rs es (map events.Node ms ++ in_block qs fs) e)
names_once (n ∷ ns) [] rs qs es fs e = absurd (no_name n qs fs (map events.Node ns ++ in_block rs es) (sym e))
names_once (n ∷ ns) (m ∷ ms) rs qs es fs e =
    let h = same_events (events.Node n) (events.Node m) (map events.Node ns ++ in_block rs es) (map events.Node ms ++ in_block qs fs) e in
    let others = names_once ns ms rs qs es fs h.1 in
    (ap₂ (λ (x : List ℕ) (xs : List (List ℕ)). x ∷ xs) (node_same n m h.0) others.0, others.1)
  where
    node_same : (a b : List ℕ) → events.Node a ≡ events.Node b → a ≡ b
    node_same a b e = cc

abbrev block_on : Block → List Event → List Event
block_on b es = map events.Node b.names ++ in_block b.resources es

block_split : (b : Block) (bs : List Block) → flat_map block_events (b ∷ bs) ≡ block_on b (flat_map block_events bs)
block_split b bs = append_assoc (map events.Node b.names) (flat_map resource_events b.resources ++ events.BlockEnd ∷ []) (flat_map block_events bs)
    ∙ ap (λ (xs : List Event). map events.Node b.names ++ xs)
    (append_assoc (flat_map resource_events b.resources) (events.BlockEnd ∷ []) (flat_map block_events bs))

block_once : (b c : Block) (es fs : List Event) → block_on b es ≡ block_on c fs → (b ≡ c) × (es ≡ fs)
block_once b c es fs e =
    let names = names_once b.names c.names b.resources c.resources es fs e in
    let resources = resources_once b.resources c.resources es fs names.1 in
    (ap₂ made names.0 resources.0, resources.1)
  where
    made : List (List ℕ) → List Resource → Block
    made ns rs = record { names = ns; resources = rs }

no_block : (ns : List (List ℕ)) (rs : List Resource) (es : List Event) → map events.Node ns ++ in_block rs es ≡ [] → ⊥
no_block [] [] es e = cc
no_block [] (r ∷ rs) es e = cc
no_block (n ∷ ns) rs es e = cc

blocks_once : (bs cs : List Block) → flat_map block_events bs ≡ flat_map block_events cs → bs ≡ cs
blocks_once [] [] e = refl
blocks_once [] (c ∷ cs) e = absurd (no_block c.names c.resources (flat_map block_events cs) (sym (block_split c cs) ∙ sym e))
blocks_once (b ∷ bs) [] e = absurd (no_block b.names b.resources (flat_map block_events bs) (sym (block_split b bs) ∙ e))
blocks_once (b ∷ bs) (c ∷ cs) e =
    let h = block_once b c (flat_map block_events bs) (flat_map block_events cs) (sym (block_split b bs) ∙ e ∙ block_split c cs) in
    ap₂ (λ (x : Block) (xs : List Block). x ∷ xs) h.0 (blocks_once bs cs h.1)

-- ---- a script

pub script_once : (chars title name : List ℕ) (bs cs : List Block) → Script chars title bs → Script chars name cs → (title ≡ name) × (bs ≡ cs)
script_once chars title name bs cs s q =
    let same : s.0 ≡ q.0 = lexes_once s.0 q.0 false chars s.1 q.1 in
    let here : Goes Start s.0 (script_events title bs) = goes_configuration s.0 title bs s.2 in
    let there : Goes Start s.0 (script_events name cs) =
    subst (λ (ts : List Placed). Goes Start ts (script_events name cs)) (sym same) (goes_configuration q.0 name cs q.2) in
    let h = same_events (events.Title title) (events.Title name) (flat_map block_events bs) (flat_map block_events cs)
    (goes_once Start s.0 (script_events title bs) (script_events name cs) here there) in
    (title_same title name h.0, blocks_once bs cs h.1)
  where
    title_same : (a b : List ℕ) → events.Title a ≡ events.Title b → a ≡ b
    title_same a b e = cc
