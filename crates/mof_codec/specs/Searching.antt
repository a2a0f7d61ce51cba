-- What is looked for in a text that is refused.
use Rattle.std.specs.Prelude.{◌≡◌, ◌≤◌, ◌<◌, ℕ, ℤ, Bool, List, [], ◌∷◌, ◌++◌, Some, length, take, drop, codes, true, false, ◌==◌, if◌then◌else◌}
use Rattle.std.specs.List.{list_all}
use Rattle.std.specs.List.{AllByRecursion}
use Rattle.mof_values.specs.Fold.{SameName}
use Rattle.mof_values.specs.declared.instance.Instance.{Instance}
use Rattle.mof_values.specs.declared.instance.Property.{Property}
use Rattle.mof_values.specs.Ident.{is_next}
use Rattle.mof_syntax.specs.declared.mof_error.Form.{Form}
use Rattle.mof_syntax.specs.declared.mof_error.Form.TheVariants as forms
use Rattle.mof_syntax.specs.Characters.{Stops, digit_of, is_sign}
use Rattle.mof_syntax.specs.Tokens.{IsToken, Number, Identifier}
use Rattle.mof_syntax.specs.Limits.{IsOutOfRange, identifier_limit, properties_limit, elements_limit}
use Rattle.mof_syntax.specs.Fronts.{GoesUpTo, BeginsScalar}
use Rattle.mof_syntax.specs.Profile.{BeginsReal, OutOfProfile}
use Rattle.mof_syntax.specs.Counts.{TooMany, elements_of}
use Rattle.mof_codec.specs.declared.machine.state.State.{State}
use Rattle.mof_codec.specs.declared.machine.state.Event.{Event}
use Rattle.mof_codec.specs.declared.refusing.scalar.Wanted.{Wanted}
use Rattle.mof_codec.specs.declared.refusing.scalar.Wanted.TheVariants.{ExcessInteger, Real}
use Rattle.mof_codec.specs.Beginnings.{begins_scalar, begins_declaration}
use Rattle.mof_codec.specs.Walked.{walked}

-- the least place of which it holds
pub record FirstOf (P : ℕ → Type 0) (at : ℕ) : Type 0 where
  pub found : P at
  pub first : (other : ℕ) → P other → at ≤ other

-- the machine is in the state after the characters
pub record StandsAfter (chars : List ℕ) (state : State) : Type 0 where
  pub begun : List Event
  pub after : walked chars ≡ Some (record { half = state.half; place = state.place; begun = begun })

-- an integer out of range comes first, as long as it goes on
pub record BeginsExcessInteger (cs : List ℕ) : Type 0 where
  pub literal : List ℕ
  pub rest : List ℕ
  pub split : cs ≡ literal ++ rest
  pub value : ℤ
  pub token : IsToken literal (Number value) []
  pub longest : Stops is_next rest
  pub out_of_range : IsOutOfRange value

-- an identifier with more characters than it may have comes first
pub record BeginsLongName (cs : List ℕ) : Type 0 where
  pub name : List ℕ
  pub rest : List ℕ
  pub stands : Identifier cs name rest
  pub long : identifier_limit < length name

abbrev pub IsWanted : Wanted → List ℕ → Type 0
IsWanted ExcessInteger cs = BeginsExcessInteger cs
IsWanted Real cs = BeginsReal cs

-- where a single value may begin, what is wanted stands
pub record ScalarStands (wanted : Wanted) (front : List ℕ) (at : ℕ) : Type 0 where
  pub within : at ≤ length front
  pub begins : BeginsScalar front at
  pub stands : IsWanted wanted (drop at front)

-- wherever the text goes wrong, or if it does not
abbrev pub IsFirstExcess : List ℕ → ℕ → Type 0
IsFirstExcess text at = (end : ℕ) → GoesUpTo text end → FirstOf (TooMany text end) at

abbrev pub HasNoExcess : List ℕ → Type 0
HasNoExcess text = (end : ℕ) → GoesUpTo text end → (at : ℕ) → TooMany text end at → ⊥

-- the form stands there, and none stands before
pub record IsFirstForm (text : List ℕ) (fault at : ℕ) (form : Form) : Type 0 where
  pub found : OutOfProfile text fault at form
  pub first : (other : ℕ) (what : Form) → OutOfProfile text fault other what → at ≤ other

abbrev pub HasNoForm : List ℕ → ℕ → Type 0
HasNoForm text fault = (at : ℕ) (what : Form) → OutOfProfile text fault at what → ⊥

-- the arrays of an instance, and it, have no more parts than they may have
abbrev pub HasFewElements : Property → Type 0
HasFewElements p = elements_of p.value ≤ elements_limit

pub record HasFewParts (i : Instance) : Type 0 where
  pub properties : length i.properties ≤ properties_limit
  pub elements : AllByRecursion HasFewElements i.properties

-- the word comes first, by fold, and then no identifier character
pub record BeginsWord (cs word : List ℕ) : Type 0 where
  pub same : SameName (take (length word) cs) word
  pub stops : Stops is_next (drop (length word) cs)

-- the character comes first
abbrev pub begins_with : List ℕ → ℕ → Bool
begins_with [] c = false
begins_with (x ∷ xs) c = x == c

-- a form comes first that may stand in place of a declaration
pub data BeginsForm (cs : List ℕ) : Form → Type 0 where
  pragma : begins_with cs 35 ≡ true → BeginsForm cs forms.Pragma
  qualifiers : begins_with cs 91 ≡ true → BeginsForm cs forms.Qualifiers
  class : BeginsWord cs (codes "class") → BeginsForm cs forms.Class
  qualifier : BeginsWord cs (codes "qualifier") → BeginsForm cs forms.Qualifier

-- a form stands where the machine is in the state and these characters come
pub data StandsForm (state : State) (cs : List ℕ) : Form → Type 0 where
  character : begins_scalar state.half state.place ≡ true → begins_with cs 39 ≡ true → StandsForm state cs forms.Character
  declared : (form : Form) → begins_declaration state.half state.place ≡ true → BeginsForm cs form → StandsForm state cs form

-- an optional sign and decimal digits, and nothing else
abbrev pub is_real : List ℕ → Bool
is_real [] = true
is_real (c ∷ cs) = if is_sign c then list_all (digit_of 10) cs else list_all (digit_of 10) (c ∷ cs)
