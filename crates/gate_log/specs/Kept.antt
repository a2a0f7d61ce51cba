-- A state that is kept as bodies, over any relation of lists of bodies and the values to which they lead: a store's own definition
-- says which.
use Rattle.std.specs.Prelude.{◌≡◌, ◌⊎◌, ℕ, true, false, List, [], ◌∷◌, ◌++◌, IfSome, Result, Ok, Err, OnOk}
use Rattle.dsc_outside.specs.declared.disk.Disk.{Ghosts}
use Rattle.dsc_outside.specs.declared.failed.Failed.{Failed}
use Rattle.dsc_outside.specs.Disk.{Still}
use Rattle.dsc_terms.specs.Counts.{Rose}
use Rattle.gate_log.specs.declared.shape.Shape.{Shape}
use Rattle.gate_log.specs.declared.error.LogError.{LogError}
use Rattle.gate_log.specs.declared.error.LogError.TheVariants.{Disk, NotAStore, Memory}
use Rattle.gate_log.specs.Text.{Gives}
use Rattle.gate_log.specs.Log.{LogTerm, IsLogOf}
use Rattle.gate_log.specs.Standing.{ReadsAs, StandsAtAnyMoment}
use Rattle.gate_log.specs.Several.{RewrittenTo, grown_by}
use Rattle.gate_log.specs.Replay.{IsRefused}

-- ---- what an image stands for

-- the image gives bodies that lead to the value
pub record StandsBy {X : Type 0} (shape : Shape) (Leads : List (List ℕ) → X → Type 0) (image : List ℕ) (value : X) : Type 0 where
  pub bodies : List (List ℕ)
  pub gives : Gives shape image bodies
  pub leads : Leads bodies value

-- what an image stood for another one still stands for
abbrev pub KeepsValues : {X : Type 0} → (List ℕ → X → Type 0) → List ℕ → List ℕ → Type 0
KeepsValues {X} Stands old new = (value : X) → Stands old value → Stands new value

-- these bodies lead to some value
abbrev pub LeadSomewhere : {X : Type 0} → (List (List ℕ) → X → Type 0) → List (List ℕ) → Type 0
LeadSomewhere {X} Leads bodies = (value : X) × Leads bodies value

-- these bodies lead to a value, and with this one after them to none
pub record EndsBy {X : Type 0} (Leads : List (List ℕ) → X → Type 0) (bodies : List (List ℕ)) (body : List ℕ) : Type 0 where
  pub lead : LeadSomewhere Leads bodies
  pub ends : (value : X) → Leads (bodies ++ body ∷ []) value → ⊥

-- An image of more than nine bytes stands for no value. The place is the byte at which the text of a store fails, or the first
-- byte of the first body with which the bodies lead to no value, whichever comes first.
abbrev pub FailsBy : {X : Type 0} → Shape → (List (List ℕ) → X → Type 0) → List ℕ → ℕ → Type 0
FailsBy shape Leads image at = IsRefused shape (LeadSomewhere Leads) (EndsBy Leads) image at

-- the one value or the other
abbrev pub IsEither : {X : Type 0} → X → X → X → Type 0
IsEither old new value = (value ≡ old) ⊎ (value ≡ new)

-- ---- what a store is of

-- the log is of the disk and not spent, and its bodies lead to the value
pub record IsKeptBy {D X : Type 0} (d : Ghosts D) (disk : D) (sizes : Shape) (Leads : List (List ℕ) → X → Type 0) (log : LogTerm) (value : X) : Type 0 where
  pub bodies : List (List ℕ)
  pub of : IsLogOf d disk log bodies
  pub leads : Leads bodies value
  pub shape : log.shape ≡ sizes
  pub unspent : log.spent ≡ false

-- it is so, or a call answered Disk
abbrev pub IsReadyBy : {D X : Type 0} → Ghosts D → D → Shape → (List (List ℕ) → X → Type 0) → LogTerm → X → Type 0
IsReadyBy d disk shape Leads log value = (log.spent ≡ true) ⊎ IsKeptBy d disk shape Leads log value

-- ---- an opening

-- what was taken leads to this value
abbrev pub ReadsTo : {X : Type 0} → (List (List ℕ) → X → Type 0) → (List (List ℕ) → Type 0) → X → Type 0
ReadsTo Leads Took value = (bodies : List (List ℕ)) → Took bodies → Leads bodies value

-- what is refused leads to no value
abbrev pub RefusesOnly : {X : Type 0} → (List (List ℕ) → X → Type 0) → (List (List ℕ) → List ℕ → Type 0) → Type 0
RefusesOnly Leads Refused = (bodies : List (List ℕ)) (body : List ℕ) → Refused bodies body → EndsBy Leads bodies body

-- the store is of the disk, with the value that the disk read as
pub record IsOpenedBy {D X : Type 0} (d : Ghosts D) (old new : D) (shape : Shape) (Leads : List (List ℕ) → X → Type 0) (log : LogTerm) (value : X) : Type 0 where
  pub kept : IsKeptBy d new shape Leads log value
  pub found : ReadsAs d old (StandsBy shape Leads) value

-- the disk read as an image that stands for no value, failing first at this place, and was left as it was
pub record NotOpenedBy {D X : Type 0} (d : Ghosts D) (old new : D) (shape : Shape) (Leads : List (List ℕ) → X → Type 0) (at : ℕ) : Type 0 where
  pub fails : IfSome (d.shown old) (λ held. FailsBy shape Leads held at)
  pub still : Still d.shown d.images d.moment d.left_since old new

-- the cause of an opening's error
abbrev pub UnopenedBy : {D X : Type 0} → Ghosts D → D → D → Shape → (List (List ℕ) → X → Type 0) → LogError → Type 0
UnopenedBy d old new shape Leads Disk = Rose (d.faults old) (d.faults new)
UnopenedBy d old new shape Leads (NotAStore at) = NotOpenedBy d old new shape Leads at
UnopenedBy d old new shape Leads Memory = Unit {0}

-- ---- a change

-- whatever bodies lead to the one value, with these after them they lead to the other
abbrev pub Counts : {X : Type 0} → (List (List ℕ) → X → Type 0) → List (List ℕ) → X → X → Type 0
Counts Leads more old new = (bodies : List (List ℕ)) → Leads bodies old → Leads (bodies ++ more) new

-- until the last of these is there, they lead to what they led to
abbrev pub Waits : {X : Type 0} → (List (List ℕ) → X → Type 0) → List (List ℕ) → X → Type 0
Waits Leads more old =
    (bodies front rest : List (List ℕ)) (last : List ℕ) → more ≡ front ++ last ∷ rest → Leads bodies old → Leads (bodies ++ front) old

-- they count, and nothing does before the last of them
abbrev pub WaitsAndCounts : {X : Type 0} → (List (List ℕ) → X → Type 0) → List (List ℕ) → X → X → Type 0
WaitsAndCounts Leads more old new = Waits Leads more old × Counts Leads more old new

-- these bodies alone lead to the other
abbrev pub LeadsAnew : {X : Type 0} → (List (List ℕ) → X → Type 0) → List (List ℕ) → X → X → Type 0
LeadsAnew Leads whole old new = Leads whole new

-- after Ok the store is of a value that the one before comes to
abbrev pub IsKeptAfter : {T D X : Type 0} → Ghosts D → D → D → Shape → (List (List ℕ) → X → Type 0) → (X → X → Type 0) → LogTerm → LogTerm → Result T Failed → Type 0
IsKeptAfter {T} {D} {X} d before now shape Leads To log new result =
    (old value : X) → IsKeptBy d before shape Leads log old → To old value → OnOk result (IsKeptBy d now shape Leads new value)

-- a crash at any moment leaves the value before or the one that it comes to
abbrev pub LeavesEither : {D X : Type 0} → Ghosts D → D → D → Shape → (List (List ℕ) → X → Type 0) → (X → X → Type 0) → LogTerm → Type 0
LeavesEither {D} {X} d before now shape Leads To log =
    (old value : X) → IsKeptBy d before shape Leads log old → To old value → StandsAtAnyMoment d before now (StandsBy shape Leads) (IsEither old value)

-- the store is of this value, or the disk failed
abbrev pub WroteBy : {T D X : Type 0} → Ghosts D → D → D → Shape → (List (List ℕ) → X → Type 0) → X → LogTerm → Result T Failed → Type 0
WroteBy d before now shape Leads value log (Ok v) = IsKeptBy d now shape Leads log value
WroteBy d before now shape Leads value log (Err e) = Rose (d.faults before) (d.faults now) × (log.spent ≡ true)

-- what an answer says where bodies were added
abbrev pub Added : {T : Type 0} → LogTerm → List (List ℕ) → ℕ → ℕ → Result T Failed → LogTerm → Type 0
Added old more before after (Ok v) new = new ≡ grown_by old more
Added old more before after (Err e) new = Rose before after × (new.spent ≡ true)

-- what an answer says where bodies were to take the place of all others
abbrev pub Replaced : {T : Type 0} → LogTerm → List (List ℕ) → ℕ → ℕ → Result T Failed → LogTerm → Type 0
Replaced old whole before after (Ok v) new = RewrittenTo old whole new
Replaced old whole before after (Err e) new = Rose before after × (new.spent ≡ true)

-- ---- laws

-- bodies lead to at most one value
abbrev pub LeadToOne : {X : Type 0} → (List (List ℕ) → X → Type 0) → Type 0
LeadToOne {X} Leads = (bodies : List (List ℕ)) (one other : X) → Leads bodies one → Leads bodies other → one ≡ other

-- the first of bodies that lead to a value lead to one too
abbrev pub LeadFromFront : {X : Type 0} → (List (List ℕ) → X → Type 0) → Type 0
LeadFromFront {X} Leads = (front rest : List (List ℕ)) (value : X) → Leads (front ++ rest) value → LeadSomewhere Leads front

-- an image stands for one value at most
abbrev pub StandForOne : {X : Type 0} → Shape → (List (List ℕ) → X → Type 0) → Type 0
StandForOne {X} shape Leads = (image : List ℕ) (one other : X) → StandsBy shape Leads image one → StandsBy shape Leads image other → one ≡ other

-- an image that fails stands for no value
abbrev pub FailingStandForNone : {X : Type 0} → Shape → (List (List ℕ) → X → Type 0) → Type 0
FailingStandForNone {X} shape Leads = (image : List ℕ) (at : ℕ) (value : X) → FailsBy shape Leads image at → StandsBy shape Leads image value → ⊥

-- the value to which the empty list leads is sound, and one body more keeps that
pub record KeepSound {X : Type 0} (Leads : List (List ℕ) → X → Type 0) (Sound : X → Type 0) : Type 0 where
  pub begins : (value : X) → Leads [] value → Sound value
  pub goes_on : (bodies : List (List ℕ)) (body : List ℕ) (old new : X) → Leads bodies old → Leads (bodies ++ body ∷ []) new → Sound old → Sound new

-- what an image stands for is sound
abbrev pub StandForSound : {X : Type 0} → Shape → (List (List ℕ) → X → Type 0) → (X → Type 0) → Type 0
StandForSound {X} shape Leads Sound = (image : List ℕ) (value : X) → StandsBy shape Leads image value → Sound value
