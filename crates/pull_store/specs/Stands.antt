-- The rows that an image stands for.
use Rattle.std.specs.Prelude.{◌≡◌, ℕ, List, [], ◌∷◌, None}
use Rattle.gate_log.specs.declared.shape.Shape.{Shape}
use Rattle.gate_log.specs.Kept.{EndsBy, FailsBy, IsEither, KeepsValues, StandsBy}
use Rattle.pull_store.specs.declared.limits.TheConstants.{BANK, MAX_BODY}
use Rattle.pull_store.specs.declared.row.Row.{Row}
use Rattle.pull_store.specs.declared.change.Change.{Change}
use Rattle.pull_store.specs.declared.change.Change.TheVariants.{Register, Report}
use Rattle.pull_messages.specs.declared.registration.Registration.{Registration}
use Rattle.pull_store.specs.Rows.{after, refusal, rows_without}
use Rattle.pull_store.specs.Bodies.{body_of}
use Rattle.pull_store.specs.Sound.{IsInSize}

-- two banks, and the longest body
abbrev pub pull_shape : Shape
pull_shape = record { bank = BANK; largest = MAX_BODY }

-- the bytes are the body of this change, which is in size
pub record IsBody (bytes : List ℕ) (change : Change) : Type 0 where
  pub is : bytes ≡ body_of change
  pub size : IsInSize change

-- one change that is accepted
pub record Changes (old : List Row) (change : Change) (new : List Row) : Type 0 where
  pub size : IsInSize change
  pub accepted : refusal change old ≡ None
  pub is : new ≡ after change old

-- a registration, or a report, that is accepted
abbrev pub Registers : List Row → ℕ → Registration → List Row → Type 0
Registers old agent registration new = Changes old (Register agent registration) new

abbrev pub Reports : List Row → ℕ → ℕ → List ℕ → List Row → Type 0
Reports old agent job body new = Changes old (Report agent job body) new

-- one body more: it spells a registration or a report that is accepted
pub record Takes (old : List Row) (body : List ℕ) (new : List Row) : Type 0 where
  pub change : Change
  pub spells : body ≡ body_of change
  pub changes : Changes old change new

-- these bodies, one after the other
abbrev pub Replays : List Row → List (List ℕ) → List Row → Type 0
Replays old [] new = new ≡ old
Replays old (body ∷ bodies) new = (mid : List Row) × Takes old body mid × Replays mid bodies new

-- these bodies lead to the rows
abbrev pub Leads : List (List ℕ) → List Row → Type 0
Leads bodies rows = Replays [] bodies rows

-- An image of at most nine bytes gives no bodies, and stands for no rows; a longer one stands for the rows after each body of
-- its live bank in order.
abbrev pub Stands : List ℕ → List Row → Type 0
Stands = StandsBy pull_shape Leads

-- the rows before a change or after it
abbrev pub BeforeOrAfter : List Row → Change → List Row → Type 0
BeforeOrAfter old change = IsEither old (after change old)

-- the rows before, or those of all other agents
abbrev pub BeforeOrWithout : List Row → List ℕ → List Row → Type 0
BeforeOrWithout old agents = IsEither old (rows_without agents old)

-- what an image stood for another one still stands for
abbrev pub KeepsRows : List ℕ → List ℕ → Type 0
KeepsRows = KeepsValues Stands

-- these bodies lead to rows, and with this one after them to none
abbrev pub EndsAt : List (List ℕ) → List ℕ → Type 0
EndsAt = EndsBy Leads

-- An image of more than nine bytes stands for no rows. The place is the byte at which the text of a store fails, or the first
-- byte of the first body with which the bodies lead to no rows, whichever comes first.
abbrev pub FailsAt : List ℕ → ℕ → Type 0
FailsAt = FailsBy pull_shape Leads
