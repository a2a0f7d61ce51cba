-- Counts that were within the limits all the time are those of instances within the limits.
use Rattle.std.proofs.Common.{◌≡◌, ◌≤◌, ◌+◌, ℕ, false, List, [], ◌∷◌, length, refl, ◌∙◌, subst, arith}
use Rattle.std.specs.Prelude.{◌==◌}
use Rattle.std.specs.List.{AllByRecursion}
use Rattle.std.proofs.lemmas.Bool.Decides.{nat_tests}
use Rattle.mof_values.specs.declared.instance.Instance.{Instance}
use Rattle.mof_values.specs.declared.instance.Property.{Property}
use Rattle.mof_values.specs.declared.value.Scalar.{Scalar}
use Rattle.mof_values.specs.declared.value.Value.{Value}
use Rattle.mof_values.specs.declared.value.Value.TheVariants.{One, Many}
use Rattle.mof_syntax.specs.Limits.{instances_limit, properties_limit, elements_limit}
use Rattle.mof_syntax.specs.Counts.{elements_of, last_elements, last_properties}
use Rattle.mof_codec.specs.declared.machine.state.Event.{Event}
use Rattle.mof_codec.specs.declared.machine.state.Event.TheVariants as events
use Rattle.mof_codec.specs.declared.machine.counts.Counts.{Counts}
use Rattle.mof_codec.specs.Walked.{tally}
use Rattle.mof_codec.specs.Events.{items_events, value_events, properties_events, events_of}
use Rattle.mof_codec.specs.Counting.{declarations_in, properties_in, elements_in, Tells, counted, is_excess, AreWithin, WereWithin}
use Rattle.mof_codec.specs.Searching.{HasFewElements, HasFewParts}

-- the counts of what instances begin

items_declare : (ss : List Scalar) (acc : List Event) → declarations_in (items_events ss acc) ≡ declarations_in acc
items_declare [] acc = refl
items_declare (s ∷ ss) acc = items_declare ss (events.Element ∷ acc)

value_declares : (v : Value) (acc : List Event) → declarations_in (value_events v acc) ≡ declarations_in acc
value_declares (One s) acc = refl
value_declares (Many ss) acc = items_declare ss acc

properties_declare : (ps : List Property) (acc : List Event) → declarations_in (properties_events ps acc) ≡ declarations_in acc
properties_declare [] acc = refl
properties_declare (p ∷ ps) acc = properties_declare ps (value_events p.value (events.Property ∷ acc)) ∙ value_declares p.value (events.Property ∷ acc)

pub declarations_counted : (is : List Instance) (acc : List Event) → declarations_in (events_of is acc) ≡ length is + declarations_in acc
declarations_counted [] acc = omega arith
declarations_counted (i ∷ is) acc =
    let rest = declarations_counted is (properties_events i.properties (events.Declaration ∷ acc)) in
    let here = properties_declare i.properties (events.Declaration ∷ acc) in
    omega (arith, rest, here)

items_have : (ss : List Scalar) (acc : List Event) → properties_in (items_events ss acc) ≡ properties_in acc
items_have [] acc = refl
items_have (s ∷ ss) acc = items_have ss (events.Element ∷ acc)

value_has : (v : Value) (acc : List Event) → properties_in (value_events v acc) ≡ properties_in acc
value_has (One s) acc = refl
value_has (Many ss) acc = items_have ss acc

pub properties_have : (ps : List Property) (acc : List Event) → properties_in (properties_events ps acc) ≡ length ps + properties_in acc
properties_have [] acc = omega arith
properties_have (p ∷ ps) acc =
    let rest = properties_have ps (value_events p.value (events.Property ∷ acc)) in
    let here = value_has p.value (events.Property ∷ acc) in
    omega (arith, rest, here)

items_elements : (ss : List Scalar) (acc : List Event) → elements_in (items_events ss acc) ≡ length ss + elements_in acc
items_elements [] acc = omega arith
items_elements (s ∷ ss) acc = let rest = items_elements ss (events.Element ∷ acc) in omega (arith, rest)

pub value_elements : (v : Value) (acc : List Event) → elements_in (value_events v (events.Property ∷ acc)) ≡ elements_of v
value_elements (One s) acc = refl
value_elements (Many ss) acc = let rest = items_elements ss (events.Property ∷ acc) in omega (arith, rest)

property_elements : (p : Property) (ps : List Property) (acc : List Event) → elements_in (properties_events (p ∷ ps) acc) ≡ last_elements (p ∷ ps)
property_elements p [] acc = value_elements p.value acc
property_elements p (q ∷ ps) acc = property_elements q ps (value_events p.value (events.Property ∷ acc))

declared_elements : (ps : List Property) (acc : List Event) → elements_in (properties_events ps (events.Declaration ∷ acc)) ≡ last_elements ps
declared_elements [] acc = refl
declared_elements (p ∷ ps) acc = property_elements p ps (events.Declaration ∷ acc)

pub last_has : (i : Instance) (is : List Instance) (acc : List Event) → properties_in (events_of (i ∷ is) acc) ≡ length (last_properties (i ∷ is))
last_has i [] acc = let here = properties_have i.properties (events.Declaration ∷ acc) in omega (arith, here)
last_has i (j ∷ is) acc = last_has j is (properties_events i.properties (events.Declaration ∷ acc))

pub last_holds : (i : Instance) (is : List Instance) (acc : List Event) → elements_in (events_of (i ∷ is) acc) ≡ last_elements (last_properties (i ∷ is))
last_holds i [] acc = declared_elements i.properties acc
last_holds i (j ∷ is) acc = last_holds j is (properties_events i.properties (events.Declaration ∷ acc))

-- counts that were within the limits

pub are_within : (es : List Event) → WereWithin es → AreWithin es
are_within [] w = record { declarations = omega arith; properties = omega arith; elements = omega arith }
are_within (e ∷ es) w = w.0

items_were : (ss : List Scalar) (acc : List Event) → WereWithin (items_events ss acc) → WereWithin acc
items_were [] acc w = w
items_were (s ∷ ss) acc w = (items_were ss (events.Element ∷ acc) w).1

value_was : (v : Value) (acc : List Event) → WereWithin (value_events v acc) → WereWithin acc
value_was (One s) acc w = w
value_was (Many ss) acc w = items_were ss acc w

properties_were : (ps : List Property) (acc : List Event) → WereWithin (properties_events ps acc) → AllByRecursion HasFewElements ps × WereWithin acc
properties_were [] acc w = (tt, w)
properties_were (p ∷ ps) acc w =
    let rest = properties_were ps (value_events p.value (events.Property ∷ acc)) w in
    let few : elements_of p.value ≤ elements_limit = subst (λ (n : ℕ). n ≤ elements_limit) (value_elements p.value acc) (are_within _ rest.1).elements in
    ((few, rest.0), (value_was p.value (events.Property ∷ acc) rest.1).1)

pub have_few_parts : (is : List Instance) (acc : List Event) → WereWithin (events_of is acc) → AllByRecursion HasFewParts is × WereWithin acc
have_few_parts [] acc w = (tt, w)
have_few_parts (i ∷ is) acc w =
    let rest = have_few_parts is (properties_events i.properties (events.Declaration ∷ acc)) w in
    let here = properties_were i.properties (events.Declaration ∷ acc) rest.1 in
    let few : length i.properties ≤ properties_limit = omega (arith, properties_have i.properties (events.Declaration ∷ acc), (are_within _ rest.1).properties) in
    ((record { properties = few; elements = here.0 }, rest.0), here.1.1)

-- one more event

pub tells-counted : (e : Event) (n : Counts) (acc : List Event) → Tells n acc → Tells (counted e n) (tally e acc)
tells-counted events.Quiet n acc t = t
tells-counted events.Declaration n acc t = record { declarations = omega (arith, t.declarations); properties = refl; elements = refl }
tells-counted events.Property n acc t = record { declarations = t.declarations; properties = omega (arith, t.properties); elements = refl }
tells-counted events.Element n acc t = record { declarations = t.declarations; properties = t.properties; elements = omega (arith, t.elements) }

not_equal : (a b : ℕ) → (a == b) ≡ false → a ≤ b → a + 1 ≤ b
not_equal a b e le = grind (arith, nat_tests)

pub within-counted : (e : Event) (n : Counts) (acc : List Event) → Tells n acc → is_excess e n ≡ false → WereWithin acc → WereWithin (tally e acc)
within-counted events.Quiet n acc t x w = w
within-counted events.Declaration n acc t x w =
    let here = are_within acc w in
    let less = not_equal n.declarations instances_limit x (omega (arith, t.declarations, here.declarations)) in
    (record { declarations = omega (arith, less, t.declarations); properties = omega arith; elements = omega arith }, w)
within-counted events.Property n acc t x w =
    let here = are_within acc w in
    let less = not_equal n.properties properties_limit x (omega (arith, t.properties, here.properties)) in
    (record { declarations = here.declarations; properties = omega (arith, less, t.properties); elements = omega arith }, w)
within-counted events.Element n acc t x w =
    let here = are_within acc w in
    let less = not_equal n.elements elements_limit x (omega (arith, t.elements, here.elements)) in
    (record { declarations = here.declarations; properties = here.properties; elements = omega (arith, less, t.elements) }, w)
