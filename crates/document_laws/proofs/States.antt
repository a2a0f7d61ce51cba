-- Names for the states of the machine over characters. Their types are private to its crate, so that each is named as the one
-- that a step from a named one leads to.
use Rattle.std.specs.Prelude.{ℕ, Option, Some, None}
use Rattle.mof_codec.specs.Machine.{gapped, keyed, kind_of, letters, number_begun, opened, step}
use Rattle.mof_codec.specs.Walked.{start}
use Rattle.mof_codec.proofs.Searches.{first_state, no_counts}

abbrev type_of : {A : Type 0} → A → Type 0
type_of {A} a = A

abbrev domain : {A B : Type 0} → (A → B) → Type 0
domain {A} f = A

abbrev pub Half : Type 0
Half = type_of start.half

abbrev pub Place : Type 0
Place = type_of start.place

abbrev pub State : Type 0
State = type_of first_state

abbrev pub Event : Type 0
Event = type_of first_state.begun

abbrev pub Counts : Type 0
Counts = type_of no_counts

abbrev pub Keyword : Type 0
Keyword = domain letters

abbrev half_in : Option State → Half
half_in None = start.half
half_in (Some state) = state.half

abbrev place_in : Option State → Place
place_in None = start.place
place_in (Some state) = state.place

abbrev event_in : Option State → Event
event_in None = first_state.begun
event_in (Some state) = state.begun

-- ---- places

pattern abbrev pub Start : Place
Start = start.place

pattern abbrev pub AfterInstance : Place
AfterInstance = place_in (opened Start (kind_of 105) 105)

pattern abbrev pub AfterOf : Place
AfterOf = place_in (opened AfterInstance (kind_of 111) 111)

pattern abbrev pub AfterClass : Place
AfterClass = place_in (opened AfterOf (kind_of 97) 97)

pattern abbrev pub AfterAs : Place
AfterAs = place_in (opened AfterClass (kind_of 97) 97)

pattern abbrev pub AfterAlias : Place
AfterAlias = place_in (opened AfterAs (kind_of 36) 36)

pattern abbrev pub Body : Place
Body = place_in (opened AfterClass (kind_of 123) 123)

pattern abbrev pub AfterBody : Place
AfterBody = place_in (opened Body (kind_of 125) 125)

pattern abbrev pub AfterName : Place
AfterName = place_in (opened Body (kind_of 97) 97)

pattern abbrev pub AfterEquals : Place
AfterEquals = place_in (opened AfterName (kind_of 61) 61)

pattern abbrev pub AfterStrings : Place
AfterStrings = place_in (opened AfterEquals (kind_of 34) 34)

pattern abbrev pub AfterValue : Place
AfterValue = place_in (opened AfterEquals (kind_of 36) 36)

pattern abbrev pub InArray : Place
InArray = place_in (opened AfterEquals (kind_of 123) 123)

pattern abbrev pub AfterElementStrings : Place
AfterElementStrings = place_in (opened InArray (kind_of 34) 34)

pattern abbrev pub AfterElement : Place
AfterElement = place_in (opened InArray (kind_of 36) 36)

pattern abbrev pub AfterComma : Place
AfterComma = place_in (opened AfterElement (kind_of 44) 44)

-- ---- halves of tokens and separators

pattern abbrev pub Gap : Half
Gap = start.half

pattern abbrev pub Slash : Half
Slash = half_in (gapped Start (kind_of 47) 47)

pattern abbrev pub Line : Half
Line = half_in (step Slash Start 47)

pattern abbrev pub Block : Half
Block = half_in (step Slash Start 42)

pattern abbrev pub Star : Half
Star = half_in (step Block Start 42)

pattern abbrev pub Name : Half
Name = half_in (opened AfterOf (kind_of 97) 97)

pattern abbrev pub Alias : Half
Alias = half_in (opened AfterAs (kind_of 36) 36)

pattern abbrev pub Literal : Half
Literal = half_in (opened AfterEquals (kind_of 34) 34)

pattern abbrev pub Escape : Half
Escape = half_in (step Literal Start 92)

pattern abbrev pub EscapeX : Half
EscapeX = half_in (step Escape Start 120)

pattern abbrev pub Sign : Half
Sign = half_in (opened AfterEquals (kind_of 43) 43)

pattern abbrev pub Zero : Half
Zero = half_in (number_begun first_state.begun Start 48)

pattern abbrev pub Bits : Half
Bits = half_in (number_begun first_state.begun Start 49)

pattern abbrev pub Decimal : Half
Decimal = half_in (number_begun first_state.begun Start 50)

pattern abbrev pub ZeroBits : Half
ZeroBits = half_in (step Zero Start 48)

pattern abbrev pub Octal : Half
Octal = half_in (step Zero Start 55)

pattern abbrev pub Prefix : Half
Prefix = half_in (step Zero Start 120)

pattern abbrev pub Hexadecimal : Half
Hexadecimal = half_in (step Prefix Start 48)

pattern abbrev pub Binary : Half
Binary = half_in (step Zero Start 98)

-- a keyword of which one letter and that many further ones are read
abbrev pub key_half : Keyword → ℕ → Half
key_half k n = half_in (keyed (Some 97) first_state.begun k n Start 97)

-- ---- events

pattern abbrev pub Quiet : Event
Quiet = first_state.begun

pattern abbrev pub Declaration : Event
Declaration = event_in (opened Start (kind_of 105) 105)

pattern abbrev pub Property : Event
Property = event_in (opened Body (kind_of 97) 97)

pattern abbrev pub Element : Event
Element = event_in (opened InArray (kind_of 34) 34)
