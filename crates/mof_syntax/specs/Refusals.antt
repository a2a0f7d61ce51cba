-- Why bytes are refused, and which reason wins.
use Rattle.std.specs.Prelude.{◌≡◌, ◌≤◌, ◌<◌, ◌⊎◌, ℕ, ℤ, List, [], length, drop, slice_range, ⊤}
use Rattle.mof_values.specs.Ident.{is_next}
use Rattle.mof_values.specs.declared.instance.Instance.{Instance}
use Rattle.mof_syntax.specs.declared.mof_error.MofError.{MofError}
use Rattle.mof_syntax.specs.declared.mof_error.MofError.TheVariants.{TooLong, Text, Syntax, OutOfProfile, NumberRange, TooMany, Memory}
use Rattle.mof_syntax.specs.Characters.{Stops}
use Rattle.mof_syntax.specs.Encodings.{Chars, IsTextFault}
use Rattle.mof_syntax.specs.Tokens.{IsToken, Number}
use Rattle.mof_syntax.specs.Limits.{document_limit, IsOutOfRange, Spells}
use Rattle.mof_syntax.specs.Fronts.{IsSyntaxFault, GoesUpTo, BeginsScalar}
use Rattle.mof_syntax.specs.Profile as profile
use Rattle.mof_syntax.specs.Counts as counts

-- the bytes are within the limit, and are characters that spell these instances
pub record Reads (bytes : List ℕ) (instances : List Instance) : Type 0 where
  pub within : length bytes ≤ document_limit
  pub text : List ℕ
  pub decoded : Chars bytes text
  pub spelled : Spells text instances

-- nothing is read of the bytes
abbrev pub ReadsNothing : List ℕ → Type 0
ReadsNothing bytes = (instances : List Instance) → Reads bytes instances → ⊥

-- an integer literal begins at `at`, is as long as the text up to `end` allows, and is out of range. It is the literal that
-- stands in the text as it is, also where the text ends after it or it might still go on
pub record BeginsExcessNumber (text : List ℕ) (end at : ℕ) : Type 0 where
  pub begins : BeginsScalar text at
  pub to : ℕ
  pub before : to ≤ end
  pub value : ℤ
  pub literal : IsToken (slice_range text at to) (Number value) []
  pub longest : (to ≡ end) ⊎ Stops is_next (drop to text)
  pub out_of_range : IsOutOfRange value

-- the refusal, one of those with a character's place, applies to the text
abbrev pub Applies : List ℕ → MofError → Type 0
Applies text (OutOfProfile at what) = (fault : ℕ) × IsSyntaxFault text fault × profile.OutOfProfile text fault at what
Applies text (NumberRange at) = (end : ℕ) × GoesUpTo text end × BeginsExcessNumber text end at
Applies text (TooMany at) = (end : ℕ) × GoesUpTo text end × counts.TooMany text end at
Applies text (Syntax at) = IsSyntaxFault text at
Applies text TooLong = ⊥
Applies text (Text at) = ⊥
Applies text Memory = ⊥

-- its place
abbrev pub refusal_place : MofError → ℕ
refusal_place (OutOfProfile at what) = at
refusal_place (NumberRange at) = at
refusal_place (TooMany at) = at
refusal_place (Syntax at) = at
refusal_place TooLong = 0
refusal_place (Text at) = at
refusal_place Memory = 0

-- the order in which refusals win that have one place
abbrev pub rank_of : MofError → ℕ
rank_of TooLong = 0
rank_of (Text at) = 0
rank_of (OutOfProfile at what) = 1
rank_of (NumberRange at) = 2
rank_of (TooMany at) = 3
rank_of (Syntax at) = 4
rank_of Memory = 5

-- the least place wins, and at equal places the order
abbrev pub WinsOver : MofError → MofError → Type 0
WinsOver one other = (refusal_place one < refusal_place other) ⊎ ((refusal_place one ≡ refusal_place other) × (rank_of one ≤ rank_of other))

-- the refusal applies to the text, and wins over each other that does
pub record Wins (text : List ℕ) (refusal : MofError) : Type 0 where
  pub applies : Applies text refusal
  pub first : (other : MofError) → Applies text other → WinsOver refusal other

-- the bytes are within the limit and are these characters, to which the refusal applies and wins
pub record RefusesText (bytes : List ℕ) (refusal : MofError) : Type 0 where
  pub within : length bytes ≤ document_limit
  pub text : List ℕ
  pub decoded : Chars bytes text
  pub wins : Wins text refusal

-- the bytes are refused so. Out of memory has no cause here
abbrev pub Refuses : List ℕ → MofError → Type 0
Refuses bytes TooLong = document_limit < length bytes
Refuses bytes (Text at) = (length bytes ≤ document_limit) × IsTextFault bytes at
Refuses bytes (OutOfProfile at what) = RefusesText bytes (OutOfProfile at what)
Refuses bytes (NumberRange at) = RefusesText bytes (NumberRange at)
Refuses bytes (TooMany at) = RefusesText bytes (TooMany at)
Refuses bytes (Syntax at) = RefusesText bytes (Syntax at)
Refuses bytes Memory = ⊤
