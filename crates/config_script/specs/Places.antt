-- The order of tokens as code goes through it: the places of a script, the tokens that may stand at each, and what they add.
-- That it is the grammar's is proved of it in proofs/.
use Rattle.std.specs.Prelude.{◌≡◌, ℕ, Bool, true, false, List, [], ◌∷◌, ◌++◌, Option, Some, None, codes, map, option_map, if◌then◌else◌}
use Rattle.std.specs.List.{flat_map}
use Rattle.std.specs.Str.{chars}
use Rattle.mof_values.specs.Fold.{same_name}
use Rattle.mof_values.specs.declared.value.Scalar.{Scalar}
use Rattle.mof_values.specs.declared.value.Value.{Value}
use Rattle.mof_values.specs.declared.value.Value.TheVariants as values
use Rattle.mof_values.specs.declared.value.Scalar.TheVariants as scalars
use Rattle.config_script.specs.declared.part.Part as code
use Rattle.config_script.specs.declared.part.Part.TheVariants as code_parts
use Rattle.config_script.specs.declared.part.Scalar as parts
use Rattle.config_script.specs.declared.part.Scalar.TheVariants as code_scalars
use Rattle.config_script.specs.declared.place.Step as steps
use Rattle.config_script.specs.declared.place.Place.{Place}
use Rattle.config_script.specs.declared.place.Place.TheVariants.{Start, AfterConfiguration, AfterTitle, InConfiguration, AfterNode, AfterNodeName, InBlock, AfterKind, AfterResourceName, InResource, AfterEmpty, AfterProperty, AfterEquals, AfterValue, AfterSemicolon, InArray, AfterComma, AfterElement, End}
use Rattle.config_script.specs.Named.{name_chars, number_value}
use Rattle.config_script.specs.Tokens.{Token, Word, LeftBrace, RightBrace, EqualsSign, Semicolon, Comma, ArrayBegin, ArrayEnd, Placed, placed}
use Rattle.config_script.specs.Scripts as scripts
use Rattle.config_script.specs.Scripts.{name_in, scalar_in, Resource, Block, Script}

-- what a token adds to a script
pub data Event : Type 0 where
  Title : List ℕ → Event
  Node : List ℕ → Event
  BlockEnd : Event
  Kind : List ℕ → List ℕ → Event
  ResourceName : List ℕ → Event
  ResourceEnd : Event
  Property : List ℕ → List ℕ → Event
  One : Scalar → Event
  ArrayOpen : Event
  Element : Scalar → Event
  Further : Scalar → Event
  ArrayShut : Event

-- ---- what the values of code stand for

abbrev pub scalar_of : parts.Scalar → Scalar
scalar_of (code_scalars.Text name) = scalars.Text (name_chars name)
scalar_of (code_scalars.Integer number) = scalars.Integer (number_value number)
scalar_of (code_scalars.Bool b) = scalars.Bool b
scalar_of code_scalars.Null = scalars.Null

abbrev pub event_of : code.Part → Event
event_of (code_parts.Title name) = Title (chars name.now)
event_of (code_parts.Node name) = Node (name_chars name)
event_of code_parts.BlockEnd = BlockEnd
event_of (code_parts.Kind word) = Kind (chars word.from.now) (chars word.text.now)
event_of (code_parts.ResourceName name) = ResourceName (name_chars name)
event_of code_parts.ResourceEnd = ResourceEnd
event_of (code_parts.Property word) = Property (chars word.from.now) (chars word.text.now)
event_of (code_parts.One s) = One (scalar_of s)
event_of code_parts.ArrayBegin = ArrayOpen
event_of (code_parts.Element s) = Element (scalar_of s)
event_of (code_parts.Further s) = Further (scalar_of s)
event_of code_parts.ArrayEnd = ArrayShut

-- ---- the steps

-- the place after a token, and what the token adds
pub record Step : Type 0 where
  pub place : Place
  pub event : Option Event

abbrev pub step_of : Option steps.Step → Option Step
step_of step = option_map (λ s. record { place = s.place; event = option_map event_of s.part }) step

abbrev pub goes : Place → Option Step
goes place = Some (record { place = place; event = None })

abbrev pub gives : Place → Event → Option Step
gives place event = Some (record { place = place; event = Some event })

abbrev pub keyword : List ℕ → List ℕ → Place → Option Step
keyword w k place = if same_name w k then goes place else None

abbrev pub named : (List ℕ → Event) → Place → Option (List ℕ) → Option Step
named event place None = None
named event place (Some name) = gives place (event name)

abbrev pub valued : (Scalar → Event) → Place → Option Scalar → Option Step
valued event place None = None
valued event place (Some s) = gives place (event s)

abbrev pub left_brace : Place → Token → Option Step
left_brace place LeftBrace = goes place
left_brace place t = None

abbrev pub keyword_if : Place → List ℕ → Token → Option Step
keyword_if place k (Word w) = keyword w k place
keyword_if place k t = None

abbrev pub property_if : Bool → List ℕ → List ℕ → Option Step
property_if true from w = gives AfterProperty (Property from w)
property_if false from w = None

-- the place after a token that stands where `from` begins, and what the token adds
abbrev pub step : Place → Bool → List ℕ → Token → Option Step
step Start fed from (Word w) = keyword w (codes "configuration") AfterConfiguration
step AfterConfiguration fed from (Word w) = gives AfterTitle (Title w)
step AfterTitle fed from LeftBrace = goes InConfiguration
step InConfiguration fed from (Word w) = keyword w (codes "node") AfterNode
step InConfiguration fed from RightBrace = goes End
step AfterNode fed from t = named Node AfterNodeName (name_in t)
step AfterNodeName fed from Comma = goes AfterNode
step AfterNodeName fed from LeftBrace = goes InBlock
step InBlock fed from (Word w) = gives AfterKind (Kind from w)
step InBlock fed from RightBrace = gives InConfiguration BlockEnd
step AfterKind fed from t = named ResourceName AfterResourceName (name_in t)
step AfterResourceName fed from LeftBrace = goes InResource
step InResource fed from (Word w) = gives AfterProperty (Property from w)
step InResource fed from Semicolon = goes AfterEmpty
step InResource fed from RightBrace = gives InBlock ResourceEnd
step AfterEmpty fed from Semicolon = goes AfterEmpty
step AfterEmpty fed from RightBrace = gives InBlock ResourceEnd
step AfterProperty fed from EqualsSign = goes AfterEquals
step AfterEquals fed from ArrayBegin = gives InArray ArrayOpen
step AfterEquals fed from t = valued One AfterValue (scalar_in t)
step AfterValue fed from (Word w) = property_if fed from w
step AfterValue fed from Semicolon = goes AfterSemicolon
step AfterValue fed from RightBrace = gives InBlock ResourceEnd
step AfterSemicolon fed from (Word w) = gives AfterProperty (Property from w)
step AfterSemicolon fed from Semicolon = goes AfterSemicolon
step AfterSemicolon fed from RightBrace = gives InBlock ResourceEnd
step InArray fed from ArrayEnd = gives AfterValue ArrayShut
step InArray fed from t = valued Element AfterElement (scalar_in t)
step AfterComma fed from t = valued Further AfterElement (scalar_in t)
step AfterElement fed from Comma = goes AfterComma
step AfterElement fed from ArrayEnd = gives AfterValue ArrayShut
step _ fed from t = None

abbrev pub with_event : Option Event → List Event → List Event
with_event None es = es
with_event (Some e) es = e ∷ es

-- from the place on the tokens may stand, up to the end of a script, and they add these
pub data Goes : Place → List Placed → List Event → Type 0 where
  end : Goes End [] []
  on : (p : Place) (f : Bool) (c : List ℕ) (t : Token) (s : Step) (ts : List Placed) (es : List Event)
      → step p f c t ≡ Some s → Goes s.place ts es → Goes p (placed f c t ∷ ts) (with_event s.event es)

-- ---- what the parts of a script add

abbrev pub elements_events : List Scalar → List Event
elements_events [] = ArrayShut ∷ []
elements_events (s ∷ ss) = Further s ∷ elements_events ss

abbrev pub value_events : Value → List Event
value_events (values.One s) = One s ∷ []
value_events (values.Many []) = ArrayOpen ∷ ArrayShut ∷ []
value_events (values.Many (s ∷ ss)) = ArrayOpen ∷ Element s ∷ elements_events ss

abbrev pub property_events : scripts.Property → List Event
property_events p = Property p.from p.name ∷ value_events p.value

abbrev pub resource_events : Resource → List Event
resource_events r = Kind r.from r.kind ∷ ResourceName r.name ∷ (flat_map property_events r.properties ++ ResourceEnd ∷ [])

abbrev pub block_events : Block → List Event
block_events b = map Node b.names ++ (flat_map resource_events b.resources ++ BlockEnd ∷ [])

abbrev pub script_events : List ℕ → List Block → List Event
script_events name blocks = Title name ∷ flat_map block_events blocks

-- the text is a script, and the events are what it adds
abbrev pub IsRead : List ℕ → List Event → Type 0
IsRead text es = (title : List ℕ) × (blocks : List Block) × Script text title blocks × (es ≡ script_events title blocks)
