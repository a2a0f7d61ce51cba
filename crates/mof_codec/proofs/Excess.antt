-- What is begun past its limit, by the state and the counts.
use Rattle.std.proofs.Common.{◌≡◌, ◌⊎◌, inl, inr, ℕ, ◌+◌, ◌<◌, true, false, List, [], ◌∷◌, ◌++◌, Option, Some, length, drop, take, refl, sym, ◌∙◌, ap, subst, arith, append-nil}
use Rattle.std.specs.Prelude.{◌==◌, slice_index, codes}
use Rattle.std.proofs.lemmas.Bool.{eq-eqb, eqb-true, false≢true}
use Rattle.mof_values.specs.declared.instance.Instance.{Instance}
use Rattle.mof_syntax.specs.Tokens.{Identifier}
use Rattle.mof_syntax.specs.Grammar.{WideSpells, Wide}
use Rattle.mof_syntax.specs.Limits.{instances_limit, properties_limit, elements_limit, identifier_limit}
use Rattle.mof_syntax.specs.Fronts.{IsFront}
use Rattle.mof_syntax.specs.Counts.{last_properties, last_elements, BeginsExcessDeclaration, BeginsExcessProperty, BeginsExcessElement, TooMany, declaration, property, element, identifier as long_identifier}
use Rattle.mof_codec.specs.declared.machine.state.Place.{Place}
use Rattle.mof_codec.specs.declared.machine.state.Place.TheVariants.{Start, AfterOf, Body, AfterEquals, InArray, AfterComma}
use Rattle.mof_codec.specs.declared.machine.state.Half.{Half}
use Rattle.mof_codec.specs.declared.machine.state.Half.TheVariants as halves
use Rattle.mof_codec.specs.declared.machine.state.State.{State}
use Rattle.mof_codec.specs.declared.machine.state.Event.{Event}
use Rattle.mof_codec.specs.declared.machine.state.Event.TheVariants as events
use Rattle.mof_codec.specs.declared.machine.counts.Counts.{Counts}
use Rattle.mof_codec.specs.Machine.{begin, step}
use Rattle.mof_codec.specs.Walked.{AfterWalk, walk_from, start, walked}
use Rattle.mof_codec.specs.Events.{events_of}
use Rattle.mof_codec.specs.Beginnings.{name_place, scalar_place, begins_declaration, begins_scalar, begins_identifier}
use Rattle.mof_codec.specs.Counting.{declarations_in, properties_in, elements_in, Tells, is_excess}
use Rattle.mof_codec.proofs.Walking.{walk-append}
use Rattle.mof_codec.proofs.Fronts.{events_here, whole_here}
use Rattle.mof_codec.proofs.Sane.{walked_sane}
use Rattle.mof_codec.proofs.CountsFit.{declarations_counted, last_has, last_holds}
use Rattle.mof_codec.proofs.Standing.{Takes, may_takes, declaration_parts, declaration_begins, begins_there, scalar_begins, scalar_there, identifier_begins, identifier_there}
use Rattle.mof_codec.proofs.Begun.{element_place, body_place, TellsOf, begun_tells, declaration_begun, property_begun, element_begun}

last_count : (is : List Instance) → properties_in (events_of is []) ≡ length (last_properties is)
last_count [] = refl
last_count (i ∷ is) = last_has i is []

last_size : (is : List Instance) → elements_in (events_of is []) ≡ last_elements (last_properties is)
last_size [] = refl
last_size (i ∷ is) = last_holds i is []

body_is : (p : Place) → body_place p ≡ true → p ≡ Body
body_is Body e = refl
body_is p e = absurd cc

-- the text before, closed there

closed_body : (acc : List Event) → walk_from (Some (record { half = halves.Gap; place = Body; begun = acc })) (codes "};") ≡ Some (record { half = halves.Gap; place = Start; begun = acc })
unfolding begin
closed_body acc = refl

closed_array : (p : Place) (acc : List Event) → element_place p ≡ true
    → walk_from (Some (record { half = halves.Gap; place = p; begun = acc })) (codes "$A};};") ≡ Some (record { half = halves.Gap; place = Start; begun = events.Element ∷ acc })
unfolding begin
closed_array InArray acc e = refl
closed_array AfterComma acc e = refl
closed_array p acc e = absurd cc

same_after : (b : AfterWalk) (h : Half) (p : Place) → b.half ≡ h → b.place ≡ p → b ≡ record { half = h; place = p; begun = b.begun }
same_after b h p eh ep = subst (λ (x : Half). b ≡ record { half = x; place = p; begun = b.begun }) eh (subst (λ (x : Place). b ≡ record { half = b.half; place = x; begun = b.begun }) ep refl)

module _ (text : List ℕ) (at : ℕ) (b : AfterWalk) (is : walked (take at text) ≡ Some b) where
  walked_on : (cs : List ℕ) (h : Half) (p : Place) (to : AfterWalk) → b.half ≡ h → b.place ≡ p → walk_from (Some (record { half = h; place = p; begun = b.begun })) cs ≡ Some to → walked (take at text ++ cs) ≡ Some to
  walked_on cs h p to eh ep on =
      walk-append (Some start) (take at text) cs ∙ ap (λ (x : Option AfterWalk). walk_from x cs) (is ∙ ap Some (same_after b h p eh ep)) ∙ on

  body_closed : b.half ≡ halves.Gap → b.place ≡ Body → walked (take at text ++ codes "};") ≡ Some (record { half = halves.Gap; place = Start; begun = b.begun })
  body_closed eh ep = walked_on (codes "};") halves.Gap Body _ eh ep (closed_body b.begun)

  array_closed : b.half ≡ halves.Gap → element_place b.place ≡ true → walked (take at text ++ codes "$A};};") ≡ Some (record { half = halves.Gap; place = Start; begun = events.Element ∷ b.begun })
  array_closed eh ep = walked_on (codes "$A};};") halves.Gap b.place _ eh refl (closed_array b.place b.begun ep)

  module _ (end : ℕ) (before : at < end) (n : Counts) (tells : Tells n b.begun) (t : State) (next : step b.half b.place (slice_index text at) ≡ Some t) where
    told : TellsOf b.half b.place (slice_index text at) t.begun
    told = begun_tells b.half b.place (slice_index text at) t (walked_sane (take at text) b is) next

    excess_declaration : TellsOf b.half b.place (slice_index text at) events.Declaration → (n.declarations == instances_limit) ≡ true → TooMany text end at
    excess_declaration here full =
        let starts : begins_declaration b.half b.place ≡ true = ap (λ (x : Half). begins_declaration x b.place) here.0 ∙ here.1.0 in
        let begins = declaration_begins text at b is starts in
        let spelled = begins.whole in
        let same = events_here (take at text) b is spelled.0 spelled.1 in
        let sum : length spelled.0 ≡ instances_limit = omega (arith, declarations_counted spelled.0 [], ap declarations_in same, tells.declarations, eqb-true n.declarations instances_limit full) in
        declaration before (record { before = spelled.0; spelled = spelled.1; full = sum; begins = begins; letter = here.1.1 })

    excess_property : TellsOf b.half b.place (slice_index text at) events.Property → (n.properties == properties_limit) ≡ true → TooMany text end at
    excess_property here full =
        let body = body_is b.place here.1.0 in
        let closed = body_closed here.0 body in
        let spelled = whole_here (take at text ++ codes "};") _ closed (refl, refl) in
        let same = events_here (take at text ++ codes "};") _ closed spelled.0 spelled.1 in
        let sum : length (last_properties spelled.0) ≡ properties_limit = omega (arith, last_count spelled.0, ap properties_in same, tells.properties, eqb-true n.properties properties_limit full) in
        let begins = identifier_begins text at b is (ap (λ (x : Half). begins_identifier x b.place) here.0 ∙ ap name_place body) in
        property before (record { before = spelled.0; spelled = spelled.1; full = sum; begins = begins; letter = here.1.1 })

    element_scalar : (p : Place) → element_place p ≡ true → scalar_place p ≡ true
    element_scalar InArray e = refl
    element_scalar AfterComma e = refl
    element_scalar p e = absurd cc

    excess_element : TellsOf b.half b.place (slice_index text at) events.Element → (n.elements == elements_limit) ≡ true → TooMany text end at
    excess_element here full =
        let closed = array_closed here.0 here.1.0 in
        let spelled = whole_here (take at text ++ codes "$A};};") _ closed (refl, refl) in
        let same = events_here (take at text ++ codes "$A};};") _ closed spelled.0 spelled.1 in
        let sum : last_elements (last_properties spelled.0) ≡ elements_limit + 1 = omega (arith, last_size spelled.0, ap elements_in same, tells.elements, eqb-true n.elements elements_limit full) in
        let begins = scalar_begins text at b is (ap (λ (x : Half). begins_scalar x b.place) here.0 ∙ element_scalar b.place here.1.0) in
        element before (record { before = spelled.0; spelled = spelled.1; full = sum; begins = begins; element = here.1.1 })

    excess_case : (e : Event) → TellsOf b.half b.place (slice_index text at) e → is_excess e n ≡ true → TooMany text end at
    excess_case events.Quiet here x = absurd cc
    excess_case events.Declaration here x = excess_declaration here x
    excess_case events.Property here x = excess_property here x
    excess_case events.Element here x = excess_element here x

    -- what the counts say is too many
    pub counts_excess : is_excess t.begun n ≡ true → TooMany text end at
    counts_excess x = excess_case t.begun told x

  pub long_excess : (end : ℕ) → at < end → begins_identifier b.half b.place ≡ true → (name rest : List ℕ) → Identifier (drop at text) name rest → identifier_limit < length name → TooMany text end at
  long_excess end before e name rest stands long =
      long_identifier before (record { begins = identifier_begins text at b is e; name = name; rest = rest; stands = stands; long = long })

-- and what is too many the counts show

body_only : (h : Half) (p : Place) → begins_identifier h p ≡ true → Takes (codes "};") h p → (h ≡ halves.Gap) × (p ≡ Body)
unfolding begin
body_only halves.Gap AfterOf e t = absurd t
body_only halves.Gap Body e t = (refl, refl)
body_only halves.Gap p e t = absurd cc
body_only halves.Alias p e t = absurd t
body_only h p e t = absurd (false≢true e)

array_only : (h : Half) (p : Place) → begins_scalar h p ≡ true → Takes (codes "$A};};") h p → (h ≡ halves.Gap) × (element_place p ≡ true)
unfolding begin
array_only halves.Gap AfterEquals e t = absurd t
array_only halves.Gap InArray e t = (refl, refl)
array_only halves.Gap AfterComma e t = (refl, refl)
array_only halves.Gap p e t = absurd cc
array_only h p e t = absurd (false≢true e)

front_of : (front : List ℕ) (is : List Instance) → WideSpells front is → IsFront front
front_of front is w = ([], subst (λ (x : List ℕ). Wide x) (sym (append-nil front)) (is, w))

-- either the counts show it, or a long identifier begins
pub record LongName (text : List ℕ) (at : ℕ) (b : AfterWalk) : Type 0 where
  pub begins : begins_identifier b.half b.place ≡ true
  pub name : List ℕ
  pub rest : List ℕ
  pub stands : Identifier (drop at text) name rest
  pub long : identifier_limit < length name

module _ (text : List ℕ) (at : ℕ) (b : AfterWalk) (is : walked (take at text) ≡ Some b) (n : Counts) (tells : Tells n b.begun) (t : State) (next : step b.half b.place (slice_index text at) ≡ Some t) where
  step_there : (h : Half) (p : Place) → b.half ≡ h → b.place ≡ p → step h p (slice_index text at) ≡ Some t
  step_there h p eh ep = subst (λ (x : Half). step x p (slice_index text at) ≡ Some t) eh (subst (λ (x : Place). step b.half x (slice_index text at) ≡ Some t) ep next)

  told_declaration : BeginsExcessDeclaration text at → is_excess t.begun n ≡ true
  told_declaration d =
      let parts = declaration_parts b.half b.place (begins_there text at b is d.begins) in
      let begun = declaration_begun (slice_index text at) t d.letter (step_there halves.Gap Start parts.0 parts.1) in
      let same = events_here (take at text) b is d.before d.spelled in
      let sum : n.declarations ≡ instances_limit = omega (arith, declarations_counted d.before [], ap declarations_in same, tells.declarations, d.full) in
      ap (λ (e : Event). is_excess e n) begun ∙ eq-eqb n.declarations instances_limit sum

  told_property : BeginsExcessProperty text at → is_excess t.begun n ≡ true
  told_property d =
      let takes = may_takes text at b is (codes "};") (front_of (take at text ++ codes "};") d.before d.spelled) in
      let parts = body_only b.half b.place (identifier_there text at b is d.begins) takes in
      let begun = property_begun (slice_index text at) t d.letter (step_there halves.Gap Body parts.0 parts.1) in
      let same = events_here (take at text ++ codes "};") _ (body_closed text at b is parts.0 parts.1) d.before d.spelled in
      let sum : n.properties ≡ properties_limit = omega (arith, last_count d.before, ap properties_in same, tells.properties, d.full) in
      ap (λ (e : Event). is_excess e n) begun ∙ eq-eqb n.properties properties_limit sum

  told_element : BeginsExcessElement text at → is_excess t.begun n ≡ true
  told_element d =
      let takes = may_takes text at b is (codes "$A};};") (front_of (take at text ++ codes "$A};};") d.before d.spelled) in
      let parts = array_only b.half b.place (scalar_there text at b is d.begins) takes in
      let begun = element_begun b.place (slice_index text at) t parts.1 d.element (step_there halves.Gap b.place parts.0 refl) in
      let same = events_here (take at text ++ codes "$A};};") _ (array_closed text at b is parts.0 parts.1) d.before d.spelled in
      let sum : n.elements ≡ elements_limit = omega (arith, last_size d.before, ap elements_in same, tells.elements, d.full) in
      ap (λ (e : Event). is_excess e n) begun ∙ eq-eqb n.elements elements_limit sum

  pub too_many_told : (end : ℕ) → TooMany text end at → (is_excess t.begun n ≡ true) ⊎ LongName text at b
  too_many_told end (declaration lt d) = inl (told_declaration d)
  too_many_told end (property lt d) = inl (told_property d)
  too_many_told end (element lt d) = inl (told_element d)
  too_many_told end (long_identifier lt d) = inr (record { begins = identifier_there text at b is d.begins; name = d.name; rest = d.rest; stands = d.stands; long = d.long })
