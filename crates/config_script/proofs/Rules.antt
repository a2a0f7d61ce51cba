-- The order of tokens that code goes through is that of the grammar.
use Rattle.std.proofs.Common.{◌≡◌, ℕ, Bool, true, false, List, [], ◌∷◌, ◌++◌, refl, sym, ap, subst, ◌∙◌, append_assoc, Option, Some, None, codes, cond}
use Rattle.std.specs.Prelude.{map}
use Rattle.std.specs.List.{flat_map}
use Rattle.std.proofs.lemmas.Slice.Eq.{bytes_eq-Decides}
use Rattle.mof_values.specs.Fold.{SameName, same_name, fold_case}
use Rattle.mof_values.specs.declared.value.Scalar.{Scalar}
use Rattle.mof_values.specs.declared.value.Value.{Value}
use Rattle.mof_values.specs.declared.value.Value.TheVariants as values
use Rattle.config_script.specs.declared.place.Place.{Place}
use Rattle.config_script.specs.declared.place.Place.TheVariants.{Start, AfterConfiguration, AfterTitle, InConfiguration, AfterNode, AfterNodeName, InBlock, AfterKind, AfterResourceName, InResource, AfterEmpty, AfterProperty, AfterEquals, AfterValue, AfterSemicolon, InArray, AfterComma, AfterElement, End}
use Rattle.config_script.specs.Tokens.{Token, Word, Text, Integer, True, False, Null, LeftBrace, RightBrace, EqualsSign, Semicolon, Comma, ArrayBegin, ArrayEnd, Placed, placed}
use Rattle.config_script.specs.Scripts.{name_in, scalar_in, Resource, Block, Elements, Given, Semicolons, Divided, Further, Properties, Resources, Names, Blocks, Configuration, closing, element, single, empty_array, array, none, further, by_semicolon, by_feed, empty, some, done, resource, last, block, configuration, property}
use Rattle.config_script.specs.Scripts as scripts
use Rattle.config_script.specs.Places.{Event, Title, Node, BlockEnd, Kind, ResourceName, ResourceEnd, Property, One, ArrayOpen, Element, ArrayShut, Step, goes, gives, keyword, named, valued, property_if, step, with_event, Goes, end, on, elements_events, value_events, property_events, resource_events, block_events, script_events}
use Rattle.config_script.specs.Places as places

-- ---- what may remain at a place

abbrev pub Blocked : List Placed → List Event → Type 0
Blocked ts es = (bs : List Block) × Blocks ts bs × (es ≡ flat_map block_events bs)

abbrev pub Resourced : List Placed → List Event → Type 0
Resourced ts es = (rs : List Resource) × (us : List Placed) × (fs : List Event) × Resources ts rs us × Blocked us fs
    × (es ≡ flat_map resource_events rs ++ BlockEnd ∷ fs)

-- properties, of which R says how they stand, and what remains after their resource
abbrev pub Propertied : (List scripts.Property → List Placed → Type 0) → List Event → Type 0
Propertied R es = (ps : List scripts.Property) × (us : List Placed) × (fs : List Event) × R ps us × Resourced us fs
    × (es ≡ flat_map property_events ps ++ ResourceEnd ∷ fs)

-- what a property is given, of which R says how it stands, and what remains after it
abbrev pub Valued : (Value → List Placed → Type 0) → List Event → Type 0
Valued R es = (v : Value) × (us : List Placed) × (fs : List Event) × R v us × Propertied (Further us) fs
    × (es ≡ value_events v ++ fs)

abbrev pub Elemented : (List Scalar → List Placed → Type 0) → List Event → Type 0
Elemented R es = (ss : List Scalar) × (us : List Placed) × (fs : List Event) × R ss us × Propertied (Further us) fs
    × (es ≡ elements_events ss ++ fs)

abbrev pub Opened : (List Placed → Type 0) → List Placed → Type 0
Opened R ts = (h : Bool) × (e : List ℕ) × (us : List Placed) × (ts ≡ placed h e LeftBrace ∷ us) × R us

-- names of a block, of which R says how they stand before the brace, and what remains after it
abbrev pub Noded : (List (List ℕ) → List Placed → Type 0) → List Event → Type 0
Noded R es = (ns : List (List ℕ)) × (g : Bool) × (d : List ℕ) × (us : List Placed) × (fs : List Event)
    × R ns (placed g d LeftBrace ∷ us) × Resourced us fs × (es ≡ map Node ns ++ fs)

abbrev pub Remains : Place → List Placed → List Event → Type 0
Remains Start ts es = (name : List ℕ) × (bs : List Block) × Configuration ts name bs × (es ≡ script_events name bs)
Remains AfterConfiguration ts es = (g : Bool) × (d name : List ℕ) × (us : List Placed) × (fs : List Event)
    × (ts ≡ placed g d (Word name) ∷ us) × Opened (λ vs. Blocked vs fs) us × (es ≡ Title name ∷ fs)
Remains AfterTitle ts es = Opened (λ us. Blocked us es) ts
Remains InConfiguration ts es = Blocked ts es
Remains AfterNode ts es = Noded (Names ts) es
Remains AfterNodeName ts es = Noded (λ ns us. (f : Bool) (c : List ℕ) (t : Token) (name : List ℕ) → name_in t ≡ Some name → Names (placed f c t ∷ ts) (name ∷ ns) us) es
Remains InBlock ts es = Resourced ts es
Remains AfterKind ts es = (g : Bool) × (d : List ℕ) × (t : Token) × (name : List ℕ) × (us : List Placed) × (fs : List Event)
    × (ts ≡ placed g d t ∷ us) × (name_in t ≡ Some name) × Opened (λ vs. Propertied (Properties vs) fs) us × (es ≡ ResourceName name ∷ fs)
Remains AfterResourceName ts es = Opened (λ us. Propertied (Properties us) es) ts
Remains InResource ts es = Propertied (Properties ts) es
Remains AfterEmpty ts es = (f : Bool) × (c : List ℕ) × (us : List Placed) × (fs : List Event) × Semicolons ts (placed f c RightBrace ∷ us)
    × Resourced us fs × (es ≡ ResourceEnd ∷ fs)
Remains AfterProperty ts es = (g : Bool) × (d : List ℕ) × (us : List Placed) × (ts ≡ placed g d EqualsSign ∷ us) × Valued (Given us) es
Remains AfterEquals ts es = Valued (Given ts) es
Remains AfterValue ts es = Propertied (Further ts) es
Remains AfterSemicolon ts es = Propertied (λ ps us. (f : Bool) (c : List ℕ) → Further (placed f c Semicolon ∷ ts) ps us) es
Remains InArray ts es = Valued (λ v us. (f : Bool) (c : List ℕ) → Given (placed f c ArrayBegin ∷ ts) v us) (ArrayOpen ∷ es)
Remains AfterComma ts es = Elemented (λ ss us. (f : Bool) (c : List ℕ) → Elements (placed f c Comma ∷ ts) ss us) es
Remains AfterElement ts es = Elemented (Elements ts) es
Remains End ts es = (ts ≡ []) × (es ≡ [])

-- ---- back: what code takes is a script

abbrev Held : Option Step → List Placed → List Event → Type 0
Held None ts es = ⊥
Held (Some s) ts es = (fs : List Event) × Remains s.place ts fs × (es ≡ with_event s.event fs)

keyword_held : (w k : List ℕ) (q : Place) (ts : List Placed) (es : List Event) → Held (keyword w k q) ts es
    → SameName w k × Held (goes q) ts es
keyword_held w k q ts es h = by (same_name w k) refl h
  where
    by : (b : Bool) → same_name w k ≡ b → Held (cond b (goes q) None) ts es → SameName w k × Held (goes q) ts es
    by true e g = ((bytes_eq-Decides (fold_case w) (fold_case k)).0 e, g)
    by false e g = absurd g

named_held : (event : List ℕ → Event) (q : Place) (o : Option (List ℕ)) (ts : List Placed) (es : List Event) → Held (named event q o) ts es
    → (name : List ℕ) × (o ≡ Some name) × Held (gives q (event name)) ts es
named_held event q None ts es h = absurd h
named_held event q (Some name) ts es h = (name, refl, h)

valued_held : (event : Scalar → Event) (q : Place) (o : Option Scalar) (ts : List Placed) (es : List Event) → Held (valued event q o) ts es
    → (s : Scalar) × (o ≡ Some s) × Held (gives q (event s)) ts es
valued_held event q None ts es h = absurd h
valued_held event q (Some s) ts es h = (s, refl, h)

-- an equation between lists of events, carried on
then : (a b : List Event) (e f : List Event) → e ≡ a ++ f → f ≡ b → e ≡ a ++ b
then a b e f p q = p ∙ ap (λ (xs : List Event). a ++ xs) q

-- one more property before those that remain
property_events_on : (c name : List ℕ) (v : Value) (ps : List scripts.Property) (fs gs es hs : List Event)
    → es ≡ Property c name ∷ hs → hs ≡ value_events v ++ gs → gs ≡ flat_map property_events ps ++ ResourceEnd ∷ fs
    → es ≡ flat_map property_events (record { from = c; name = name; value = v } ∷ ps) ++ ResourceEnd ∷ fs
property_events_on c name v ps fs gs es hs p q r =
    p ∙ ap (λ (xs : List Event). Property c name ∷ xs) (then (value_events v) (flat_map property_events ps ++ ResourceEnd ∷ fs) hs gs q r
    ∙ sym (append_assoc (value_events v) (flat_map property_events ps) (ResourceEnd ∷ fs)))

-- a property that begins in the place, of which the name was read
property_back : (c name : List ℕ) (ts : List Placed) (es hs : List Event) (R : List scripts.Property → List Placed → Type 0)
    → ((g : Bool) (d : List ℕ) (us vs rest : List Placed) (v : Value) (ps : List scripts.Property) → ts ≡ placed g d EqualsSign ∷ us
    → Given us v vs → Further vs ps rest → R (record { from = c; name = name; value = v } ∷ ps) rest)
    → Remains AfterProperty ts hs → es ≡ Property c name ∷ hs → Propertied R es
property_back c name ts es hs R make r e =
    let after = r.4 in
    let more = after.4 in (
      record { from = c; name = name; value = after.0 } ∷ more.0,
      more.1,
      more.2,
      make r.0 r.1 r.2 after.1 more.1 after.0 more.0 r.3 after.3 more.3,
      more.4,
      property_events_on c name after.0 more.0 more.2 after.2 es hs e after.5 more.5,
    )

divided_twice : (f g h : Bool) (c d e name : List ℕ) (ts rs : List Placed) → Divided (placed f c Semicolon ∷ ts) (placed h e (Word name) ∷ rs)
    → Divided (placed g d Semicolon ∷ placed f c Semicolon ∷ ts) (placed h e (Word name) ∷ rs)
divided_twice f g h c d e name ts rs (by_semicolon a b us rest s) =
    by_semicolon g d (placed f c Semicolon ∷ ts) (placed h e (Word name) ∷ rs) (further f c ts (placed h e (Word name) ∷ rs) s)

-- two semicolons divide as one does
twice : (ps : List scripts.Property) (us : List Placed) (f g : Bool) (c d : List ℕ) (ts : List Placed) → Further (placed f c Semicolon ∷ ts) ps us
    → Further (placed g d Semicolon ∷ placed f c Semicolon ∷ ts) ps us
twice ps us f g c d ts (closing h e xs rest s) = closing h e (placed g d Semicolon ∷ placed f c Semicolon ∷ ts) rest
    (further g d (placed f c Semicolon ∷ ts) (placed h e RightBrace ∷ rest) s)
twice ps us f g c d ts (property h k e i name xs ys vs rest v qs divided given more) =
    property h k e i name (placed g d Semicolon ∷ placed f c Semicolon ∷ ts) ys vs rest v qs (divided_twice f g h c d e name ts (placed k i EqualsSign ∷ ys) divided) given more

back_step : (p : Place) (f : Bool) (c : List ℕ) (t : Token) (ts : List Placed) (es : List Event) → Held (step p f c t) ts es
    → Remains p (placed f c t ∷ ts) es
back_step Start f c (Word w) ts es h =
    let k = keyword_held w (codes "configuration") AfterConfiguration ts es h in
    let r = k.1.1 in
    let o = r.6 in
    let is : ts ≡ placed r.0 r.1 (Word r.2) ∷ placed o.0 o.1 LeftBrace ∷ o.2 = r.5 ∙ ap (λ (xs : List Placed). placed r.0 r.1 (Word r.2) ∷ xs) o.3 in (
      r.2,
      o.4.0,
      subst (λ (xs : List Placed). Configuration (placed f c (Word w) ∷ xs) r.2 o.4.0) (sym is) (configuration f r.0 o.0 c r.1 o.1 w r.2 o.2 o.4.0 k.0 o.4.1),
      k.1.2 ∙ r.7 ∙ ap (λ (xs : List Event). Title r.2 ∷ xs) o.4.2,
    )
back_step AfterConfiguration f c (Word w) ts es h = (f, c, w, ts, h.0, refl, h.1, h.2)
back_step AfterTitle f c LeftBrace ts es h = (f, c, ts, refl, subst (λ (xs : List Event). Blocked ts xs) (sym h.2) h.1)
back_step InConfiguration f c (Word w) ts es h =
    let k = keyword_held w (codes "node") AfterNode ts es h in
    let r = k.1.1 in
    let b = r.6 in
    let after = b.4 in (
      record { names = r.0; resources = b.0 } ∷ after.0,
      block f r.1 c r.2 w ts r.3 b.1 r.0 b.0 after.0 k.0 r.5 b.3 after.1,
      k.1.2 ∙ r.7 ∙ ap (λ (xs : List Event). map Node r.0 ++ xs) (b.5 ∙ ap (λ (xs : List Event). flat_map resource_events b.0 ++ BlockEnd ∷ xs) after.2
          ∙ sym (append_assoc (flat_map resource_events b.0) (BlockEnd ∷ []) (flat_map block_events after.0)))
          ∙ sym (append_assoc (map Node r.0) (flat_map resource_events b.0 ++ BlockEnd ∷ []) (flat_map block_events after.0)),
    )
back_step InConfiguration f c RightBrace ts es h =
    ([], subst (λ (xs : List Placed). Blocks (placed f c RightBrace ∷ xs) []) (sym h.1.0) (done f c), h.2 ∙ h.1.1)
back_step AfterNode f c t ts es h =
    let n = named_held Node AfterNodeName (name_in t) ts es h in
    let r = n.2.1 in
    (n.0 ∷ r.0, r.1, r.2, r.3, r.4, r.5 f c t n.0 n.1, r.6, n.2.2 ∙ ap (λ (xs : List Event). Node n.0 ∷ xs) r.7)
back_step AfterNodeName f c Comma ts es h =
    let r = h.1 in
    (r.0, r.1, r.2, r.3, r.4, (λ g d t name is. scripts.more g f d c t name ts (placed r.1 r.2 LeftBrace ∷ r.3) r.0 is r.5), r.6, h.2 ∙ r.7)
back_step AfterNodeName f c LeftBrace ts es h =
    ([], f, c, ts, h.0, (λ g d t name is. last g d t name (placed f c LeftBrace ∷ ts) is), h.1, h.2)
back_step InBlock f c (Word w) ts es h =
    let r = h.1 in
    let o = r.8 in
    let p = o.4 in
    let b = p.4 in
    let is : ts ≡ placed r.0 r.1 r.2 ∷ placed o.0 o.1 LeftBrace ∷ o.2 = r.6 ∙ ap (λ (xs : List Placed). placed r.0 r.1 r.2 ∷ xs) o.3 in (
      record { from = c; kind = w; name = r.3; properties = p.0 } ∷ b.0,
      b.1,
      b.2,
      subst (λ (xs : List Placed). Resources (placed f c (Word w) ∷ xs) (record { from = c; kind = w; name = r.3; properties = p.0 } ∷ b.0) b.1) (sym is)
          (resource f r.0 o.0 c r.1 o.1 w r.3 r.2 o.2 p.1 b.1 p.0 b.0 r.7 p.3 b.3),
      b.4,
      h.2 ∙ ap (λ (xs : List Event). Kind c w ∷ xs) (r.9 ∙ ap (λ (xs : List Event). ResourceName r.3 ∷ xs)
          (p.5 ∙ ap (λ (xs : List Event). flat_map property_events p.0 ++ ResourceEnd ∷ xs) b.5
          ∙ sym (append_assoc (flat_map property_events p.0) (ResourceEnd ∷ []) (flat_map resource_events b.0 ++ BlockEnd ∷ b.2))
          ∙ sym (append_assoc (flat_map property_events p.0 ++ ResourceEnd ∷ []) (flat_map resource_events b.0) (BlockEnd ∷ b.2)))),
    )
back_step InBlock f c RightBrace ts es h = ([], ts, h.0, done f c ts, h.1, h.2)
back_step AfterKind f c t ts es h =
    let n = named_held ResourceName AfterResourceName (name_in t) ts es h in
    (f, c, t, n.0, ts, n.2.0, refl, n.1, n.2.1, n.2.2)
back_step AfterResourceName f c LeftBrace ts es h = (f, c, ts, refl, subst (λ (xs : List Event). Propertied (Properties ts) xs) (sym h.2) h.1)
back_step InResource f c (Word w) ts es h =
    property_back c w ts es h.0 (Properties (placed f c (Word w) ∷ ts))
    (λ g d us vs rest v ps is given more. subst (λ (xs : List Placed). Properties (placed f c (Word w) ∷ xs) (record { from = c; name = w; value = v } ∷ ps) rest) (sym is) (some f g c d w us vs rest v ps given more))
    h.1 h.2
back_step InResource f c Semicolon ts es h =
    let r = h.1 in
    ([], r.2, r.3, empty r.0 r.1 (placed f c Semicolon ∷ ts) r.2 (further f c ts (placed r.0 r.1 RightBrace ∷ r.2) r.4), r.5, h.2 ∙ r.6)
back_step InResource f c RightBrace ts es h = ([], ts, h.0, empty f c (placed f c RightBrace ∷ ts) ts (none (placed f c RightBrace ∷ ts)), h.1, h.2)
back_step AfterEmpty f c Semicolon ts es h =
    let r = h.1 in
    (r.0, r.1, r.2, r.3, further f c ts (placed r.0 r.1 RightBrace ∷ r.2) r.4, r.5, h.2 ∙ r.6)
back_step AfterEmpty f c RightBrace ts es h = (f, c, ts, h.0, none (placed f c RightBrace ∷ ts), h.1, h.2)
back_step AfterProperty f c EqualsSign ts es h = (f, c, ts, refl, subst (λ (xs : List Event). Valued (Given ts) xs) (sym h.2) h.1)
back_step AfterEquals f c ArrayBegin ts es h =
    let r = h.1 in
    (r.0, r.1, r.2, r.3 f c, r.4, h.2 ∙ r.5)
back_step AfterEquals f c t ts es h =
    let n = valued_held One AfterValue (scalar_in t) ts es h in
    (values.One n.0, ts, n.2.0, single f c t ts n.0 n.1, n.2.1, n.2.2)
back_step AfterValue true c (Word w) ts es h =
    property_back c w ts es h.0 (Further (placed true c (Word w) ∷ ts))
    (λ g d us vs rest v ps is given more.
    property true g c d w (placed true c (Word w) ∷ ts) us vs rest v ps
    (subst (λ (xs : List Placed). Divided (placed true c (Word w) ∷ ts) (placed true c (Word w) ∷ xs)) is (by_feed c (Word w) ts)) given more)
    h.1 h.2
back_step AfterValue f c Semicolon ts es h =
    let r = h.1 in
    (r.0, r.1, r.2, r.3 f c, r.4, h.2 ∙ r.5)
back_step AfterValue f c RightBrace ts es h = ([], ts, h.0, closing f c (placed f c RightBrace ∷ ts) ts (none (placed f c RightBrace ∷ ts)), h.1, h.2)
back_step AfterSemicolon f c (Word w) ts es h =
    property_back c w ts es h.0 (λ ps us. (g : Bool) (d : List ℕ) → Further (placed g d Semicolon ∷ placed f c (Word w) ∷ ts) ps us)
    (λ g d us vs rest v ps is given more h e.
    property f g c d w (placed h e Semicolon ∷ placed f c (Word w) ∷ ts) us vs rest v ps
    (subst (λ (xs : List Placed). Divided (placed h e Semicolon ∷ placed f c (Word w) ∷ ts) (placed f c (Word w) ∷ xs)) is
    (by_semicolon h e (placed f c (Word w) ∷ ts) (placed f c (Word w) ∷ ts) (none (placed f c (Word w) ∷ ts)))) given more)
    h.1 h.2
back_step AfterSemicolon f c Semicolon ts es h =
    let r = h.1 in
    (r.0, r.1, r.2, (λ g d. twice r.0 r.1 f g c d ts (r.3 f c)), r.4, h.2 ∙ r.5)
back_step AfterSemicolon f c RightBrace ts es h = (
  [],
  ts,
  h.0,
  (λ g d. closing f c (placed g d Semicolon ∷ placed f c RightBrace ∷ ts) ts
      (further g d (placed f c RightBrace ∷ ts) (placed f c RightBrace ∷ ts) (none (placed f c RightBrace ∷ ts)))),
  h.1,
  h.2,
)
back_step InArray f c ArrayEnd ts es h =
    (values.Many [], ts, h.0, (λ g d. empty_array g f d c ts), h.1, ap (λ (xs : List Event). ArrayOpen ∷ xs) h.2)
back_step InArray f c t ts es h =
    let n = valued_held Element AfterElement (scalar_in t) ts es h in
    let r = n.2.1 in (
      values.Many (n.0 ∷ r.0),
      r.1,
      r.2,
      (λ g d. array g f d c t ts r.1 n.0 r.0 n.1 r.3),
      r.4,
      ap (λ (xs : List Event). ArrayOpen ∷ xs) (n.2.2 ∙ ap (λ (xs : List Event). Element n.0 ∷ xs) r.5),
    )
back_step AfterComma f c t ts es h =
    let n = valued_held places.Further AfterElement (scalar_in t) ts es h in
    let r = n.2.1 in (
      n.0 ∷ r.0,
      r.1,
      r.2,
      (λ g d. element g f d c t ts r.1 n.0 r.0 n.1 r.3),
      r.4,
      n.2.2 ∙ ap (λ (xs : List Event). places.Further n.0 ∷ xs) r.5,
    )
back_step AfterElement f c Comma ts es h =
    let r = h.1 in
    (r.0, r.1, r.2, r.3 f c, r.4, h.2 ∙ r.5)
back_step AfterElement f c ArrayEnd ts es h = ([], ts, h.0, closing f c ts, h.1, h.2)
back_step p f c t ts es h = absurd h

pub goes_back : (p : Place) (ts : List Placed) (es : List Event) → Goes p ts es → Remains p ts es
goes_back p ts es end = (refl, refl)
goes_back p ts es (on q f c t s us fs is g) =
    back_step q f c t us (with_event s.event fs) (subst (λ (x : Option Step). Held x us (with_event s.event fs)) (sym is) (fs, goes_back s.place us fs g, refl))

-- ---- on: code takes every script

pub keyword_taken : (w k : List ℕ) (q : Place) → SameName w k → keyword w k q ≡ goes q
keyword_taken w k q same = ap (λ (b : Bool). cond b (goes q) None) ((bytes_eq-Decides (fold_case w) (fold_case k)).1 same)

pub goes_names : (ts : List Placed) (ns : List (List ℕ)) (us : List Placed) (es : List Event) → Names ts ns us → Goes AfterNodeName us es
    → Goes AfterNode ts (map Node ns ++ es)
goes_names ts ns us es (last f c t name rest is) g = on AfterNode f c t (record { place = AfterNodeName; event = Some (Node name) }) rest es (ap (named Node AfterNodeName) is) g
goes_names ts ns us es (scripts.more f h c d t name xs rest names is n) g =
    on AfterNode f c t (record { place = AfterNodeName; event = Some (Node name) }) (placed h d Comma ∷ xs) (map Node names ++ es) (ap (named Node AfterNodeName) is)
    (on AfterNodeName h d Comma (record { place = AfterNode; event = None }) xs (map Node names ++ es) refl (goes_names xs names us es n g))

goes_elements : (ts : List Placed) (ss : List Scalar) (us : List Placed) (es : List Event) → Elements ts ss us → Goes AfterValue us es
    → Goes AfterElement ts (elements_events ss ++ es)
goes_elements ts ss us es (closing f c rest) g = on AfterElement f c ArrayEnd (record { place = AfterValue; event = Some ArrayShut }) rest es refl g
goes_elements ts ss us es (element f h c d t xs rest s more is e) g =
    on AfterElement f c Comma (record { place = AfterComma; event = None }) (placed h d t ∷ xs) (places.Further s ∷ (elements_events more ++ es)) refl
    (on AfterComma h d t (record { place = AfterElement; event = Some (places.Further s) }) xs (elements_events more ++ es) (ap (valued places.Further AfterElement) is)
    (goes_elements xs more us es e g))

pub at_equals : (f : Bool) (c : List ℕ) (t : Token) (s : Scalar) → scalar_in t ≡ Some s → step AfterEquals f c t ≡ gives AfterValue (One s)
at_equals f c (Text x) s e = ap (valued One AfterValue) e
at_equals f c (Integer z) s e = ap (valued One AfterValue) e
at_equals f c True s e = ap (valued One AfterValue) e
at_equals f c False s e = ap (valued One AfterValue) e
at_equals f c Null s e = ap (valued One AfterValue) e
at_equals f c t s e = cc

pub in_array : (f : Bool) (c : List ℕ) (t : Token) (s : Scalar) → scalar_in t ≡ Some s → step InArray f c t ≡ gives AfterElement (Element s)
in_array f c (Text x) s e = ap (valued Element AfterElement) e
in_array f c (Integer z) s e = ap (valued Element AfterElement) e
in_array f c True s e = ap (valued Element AfterElement) e
in_array f c False s e = ap (valued Element AfterElement) e
in_array f c Null s e = ap (valued Element AfterElement) e
in_array f c t s e = cc

goes_given : (ts : List Placed) (v : Value) (us : List Placed) (es : List Event) → Given ts v us → Goes AfterValue us es
    → Goes AfterEquals ts (value_events v ++ es)
goes_given ts v us es (single f c t rest s is) g = on AfterEquals f c t (record { place = AfterValue; event = Some (One s) }) rest es (at_equals f c t s is) g
goes_given ts v us es (empty_array f h c d rest) g =
    on AfterEquals f c ArrayBegin (record { place = InArray; event = Some ArrayOpen }) (placed h d ArrayEnd ∷ rest) (ArrayShut ∷ es) refl
    (on InArray h d ArrayEnd (record { place = AfterValue; event = Some ArrayShut }) rest es refl g)
goes_given ts v us es (array f h c d t xs rest s ss is e) g =
    on AfterEquals f c ArrayBegin (record { place = InArray; event = Some ArrayOpen }) (placed h d t ∷ xs) (Element s ∷ (elements_events ss ++ es)) refl
    (on InArray h d t (record { place = AfterElement; event = Some (Element s) }) xs (elements_events ss ++ es) (in_array h d t s is) (goes_elements xs ss us es e g))

goes_semicolons : (ts us : List Placed) (es : List Event) → Semicolons ts us → Goes AfterSemicolon us es → Goes AfterSemicolon ts es
goes_semicolons ts us es (none rest) g = g
goes_semicolons ts us es (further f c xs rest s) g = on AfterSemicolon f c Semicolon (record { place = AfterSemicolon; event = None }) xs es refl (goes_semicolons xs us es s g)

goes_empty : (ts us : List Placed) (es : List Event) → Semicolons ts us → Goes AfterEmpty us es → Goes AfterEmpty ts es
goes_empty ts us es (none rest) g = g
goes_empty ts us es (further f c xs rest s) g = on AfterEmpty f c Semicolon (record { place = AfterEmpty; event = None }) xs es refl (goes_empty xs us es s g)

goes_divided : (ts : List Placed) (f : Bool) (c name : List ℕ) (us : List Placed) (es : List Event) → Divided ts (placed f c (Word name) ∷ us)
    → Goes AfterProperty us es → Goes AfterValue ts (Property c name ∷ es)
goes_divided ts f c name us es (by_semicolon h d xs rest s) g =
    on AfterValue h d Semicolon (record { place = AfterSemicolon; event = None }) xs (Property c name ∷ es) refl
    (goes_semicolons xs (placed f c (Word name) ∷ us) (Property c name ∷ es) s
    (on AfterSemicolon f c (Word name) (record { place = AfterProperty; event = Some (Property c name) }) us es refl g))
goes_divided ts f c name us es (by_feed d t xs) g = on AfterValue true c (Word name) (record { place = AfterProperty; event = Some (Property c name) }) us es refl g

goes_further : (ts : List Placed) (ps : List scripts.Property) (us : List Placed) (es : List Event) → Further ts ps us → Goes InBlock us es
    → Goes AfterValue ts (flat_map property_events ps ++ ResourceEnd ∷ es)
goes_further ts ps us es (closing f c xs rest s) g = shut xs s
  where
    shut : (ts : List Placed) → Semicolons ts (placed f c RightBrace ∷ rest) → Goes AfterValue ts (ResourceEnd ∷ es)
    shut ts (none xs) = on AfterValue f c RightBrace (record { place = InBlock; event = Some ResourceEnd }) rest es refl g
    shut ts (further h d xs ys more) = on AfterValue h d Semicolon (record { place = AfterSemicolon; event = None }) xs (ResourceEnd ∷ es) refl
        (goes_semicolons xs (placed f c RightBrace ∷ rest) (ResourceEnd ∷ es) more
        (on AfterSemicolon f c RightBrace (record { place = InBlock; event = Some ResourceEnd }) rest es refl g))
goes_further ts ps us es (property f h c d name xs ys vs rest v qs divided given more) g =
    subst (λ (fs : List Event). Goes AfterValue ts (Property c name ∷ fs)) (sym (append_assoc (value_events v) (flat_map property_events qs) (ResourceEnd ∷ es)))
    (goes_divided ts f c name (placed h d EqualsSign ∷ ys) (value_events v ++ (flat_map property_events qs ++ ResourceEnd ∷ es)) divided
    (goes_value h d ys v vs qs rest given (goes_further vs qs rest es more g)))
  where
    goes_value : (h : Bool) (d : List ℕ) (ys : List Placed) (v : Value) (vs : List Placed) (qs : List scripts.Property) (rest : List Placed) → Given ys v vs
        → Goes AfterValue vs (flat_map property_events qs ++ ResourceEnd ∷ es)
        → Goes AfterProperty (placed h d EqualsSign ∷ ys) (value_events v ++ (flat_map property_events qs ++ ResourceEnd ∷ es))
    goes_value h d ys v vs qs rest given g = on AfterProperty h d EqualsSign (record { place = AfterEquals; event = None }) ys
        (value_events v ++ (flat_map property_events qs ++ ResourceEnd ∷ es)) refl
        (goes_given ys v vs (flat_map property_events qs ++ ResourceEnd ∷ es) given g)

goes_properties : (ts : List Placed) (ps : List scripts.Property) (us : List Placed) (es : List Event) → Properties ts ps us → Goes InBlock us es
    → Goes InResource ts (flat_map property_events ps ++ ResourceEnd ∷ es)
goes_properties ts ps us es (empty f c xs rest s) g = shut xs s
  where
    shut : (ts : List Placed) → Semicolons ts (placed f c RightBrace ∷ rest) → Goes InResource ts (ResourceEnd ∷ es)
    shut ts (none xs) = on InResource f c RightBrace (record { place = InBlock; event = Some ResourceEnd }) rest es refl g
    shut ts (further h d xs ys more) = on InResource h d Semicolon (record { place = AfterEmpty; event = None }) xs (ResourceEnd ∷ es) refl
        (goes_empty xs (placed f c RightBrace ∷ rest) (ResourceEnd ∷ es) more
        (on AfterEmpty f c RightBrace (record { place = InBlock; event = Some ResourceEnd }) rest es refl g))
goes_properties ts ps us es (some f h c d name ys vs rest v qs given more) g =
    subst (λ (fs : List Event). Goes InResource ts (Property c name ∷ fs)) (sym (append_assoc (value_events v) (flat_map property_events qs) (ResourceEnd ∷ es)))
    (on InResource f c (Word name) (record { place = AfterProperty; event = Some (Property c name) }) (placed h d EqualsSign ∷ ys)
    (value_events v ++ (flat_map property_events qs ++ ResourceEnd ∷ es)) refl
    (on AfterProperty h d EqualsSign (record { place = AfterEquals; event = None }) ys (value_events v ++ (flat_map property_events qs ++ ResourceEnd ∷ es)) refl
    (goes_given ys v vs (flat_map property_events qs ++ ResourceEnd ∷ es) given (goes_further vs qs rest es more g))))

abbrev after_properties : List scripts.Property → List Resource → List Event → List Event
after_properties ps qs es = flat_map property_events ps ++ ResourceEnd ∷ (flat_map resource_events qs ++ BlockEnd ∷ es)

goes_resources : (ts : List Placed) (rs : List Resource) (us : List Placed) (es : List Event) → Resources ts rs us → Goes InConfiguration us es
    → Goes InBlock ts (flat_map resource_events rs ++ BlockEnd ∷ es)
goes_resources ts rs us es (done f c rest) g = on InBlock f c RightBrace (record { place = InConfiguration; event = Some BlockEnd }) rest es refl g
goes_resources ts rs us es (resource f h k c d e kind name t xs ys rest ps qs is properties more) g =
    subst (λ (fs : List Event). Goes InBlock ts (Kind c kind ∷ ResourceName name ∷ fs)) spread
    (on InBlock f c (Word kind) (record { place = AfterKind; event = Some (Kind c kind) }) (placed h d t ∷ placed k e LeftBrace ∷ xs) (ResourceName name ∷ after_properties ps qs es) refl
    (on AfterKind h d t (record { place = AfterResourceName; event = Some (ResourceName name) }) (placed k e LeftBrace ∷ xs) (after_properties ps qs es) (ap (named ResourceName AfterResourceName) is)
    (on AfterResourceName k e LeftBrace (record { place = InResource; event = None }) xs (after_properties ps qs es) refl
    (goes_properties xs ps ys (flat_map resource_events qs ++ BlockEnd ∷ es) properties (goes_resources ys qs rest es more g)))))
  where
    spread : after_properties ps qs es ≡ ((flat_map property_events ps ++ ResourceEnd ∷ []) ++ flat_map resource_events qs) ++ BlockEnd ∷ es
    spread = sym (append_assoc (flat_map property_events ps) (ResourceEnd ∷ []) (flat_map resource_events qs ++ BlockEnd ∷ es))
        ∙ sym (append_assoc (flat_map property_events ps ++ ResourceEnd ∷ []) (flat_map resource_events qs) (BlockEnd ∷ es))

goes_blocks : (ts : List Placed) (bs : List Block) → Blocks ts bs → Goes InConfiguration ts (flat_map block_events bs)
goes_blocks ts bs (done f c) = on InConfiguration f c RightBrace (record { place = End; event = None }) [] [] refl end
goes_blocks ts bs (block f h c d w xs us vs names rs more same ns resources blocks) =
    on InConfiguration f c (Word w) (record { place = AfterNode; event = None }) xs ((map Node names ++ (flat_map resource_events rs ++ BlockEnd ∷ [])) ++ flat_map block_events more)
    (keyword_taken w (codes "node") AfterNode same)
    (subst (λ (fs : List Event). Goes AfterNode xs fs) spread
    (goes_names xs names (placed h d LeftBrace ∷ us) (flat_map resource_events rs ++ BlockEnd ∷ flat_map block_events more) ns
    (on AfterNodeName h d LeftBrace (record { place = InBlock; event = None }) us (flat_map resource_events rs ++ BlockEnd ∷ flat_map block_events more) refl
    (goes_resources us rs vs (flat_map block_events more) resources (goes_blocks vs more blocks)))))
  where
    spread : map Node names ++ (flat_map resource_events rs ++ BlockEnd ∷ flat_map block_events more)
        ≡ (map Node names ++ (flat_map resource_events rs ++ BlockEnd ∷ [])) ++ flat_map block_events more
    spread = ap (λ (xs : List Event). map Node names ++ xs) (sym (append_assoc (flat_map resource_events rs) (BlockEnd ∷ []) (flat_map block_events more)))
        ∙ sym (append_assoc (map Node names) (flat_map resource_events rs ++ BlockEnd ∷ []) (flat_map block_events more))

pub goes_configuration : (ts : List Placed) (name : List ℕ) (bs : List Block) → Configuration ts name bs → Goes Start ts (script_events name bs)
goes_configuration ts name bs (configuration f g h c d e w title xs blocks same b) =
    on Start f c (Word w) (record { place = AfterConfiguration; event = None }) (placed g d (Word name) ∷ placed h e LeftBrace ∷ xs) (script_events name bs)
    (keyword_taken w (codes "configuration") AfterConfiguration same)
    (on AfterConfiguration g d (Word name) (record { place = AfterTitle; event = Some (Title name) }) (placed h e LeftBrace ∷ xs) (flat_map block_events bs) refl
    (on AfterTitle h e LeftBrace (record { place = InConfiguration; event = None }) xs (flat_map block_events bs) refl (goes_blocks xs bs b)))
