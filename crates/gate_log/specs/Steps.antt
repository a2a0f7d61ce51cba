-- What the steps of the code leave on a disk.
use Rattle.std.specs.Prelude.{◌≡◌, ◌≢◌, ◌⊎◌, ℕ, ◌+◌, ◌≤◌, max, Bool, not, List, [], ◌∷◌, ◌++◌, length, Option, Some, None, IfSome, Result, OnOk}
use Rattle.dsc_outside.specs.declared.disk.Disk.{Ghosts}
use Rattle.dsc_outside.specs.declared.failed.Failed.{Failed}
use Rattle.dsc_outside.specs.Disk.{Each, AnyMoment}
use Rattle.gate_log.specs.declared.shape.Shape.{Shape}
use Rattle.gate_log.specs.declared.error.LogError.{LogError}
use Rattle.gate_log.specs.declared.error.LogError.TheVariants.{Disk, NotAStore, Memory}
use Rattle.gate_log.specs.Text.{IsText, HasCells, Holds, AllFit, after_gate, begin, end_of, cells, need_of}
use Rattle.gate_log.specs.Log.{OldOrNew}

-- every image is the text of these bodies, with the closed gate at this place
abbrev pub AreTexts : {D : Type 0} → Ghosts D → D → Shape → Bool → ℕ → List (List ℕ) → Type 0
AreTexts d disk shape second closed bodies = Each (d.images disk) (λ c. IsText shape second closed c bodies)

-- every image at a moment since then is
abbrev pub StayTexts : {D : Type 0} → Ghosts D → D → D → Shape → Bool → ℕ → List (List ℕ) → Type 0
StayTexts d before now shape second closed bodies =
    AnyMoment d.moment d.left_since before now (λ c. IsText shape second closed c bodies)

-- after Ok the disk reaches to this place at least
abbrev pub Reaches : {T D : Type 0} → Ghosts D → D → D → ℕ → Result T Failed → Type 0
Reaches d before now end result =
    (n : ℕ) → IfSome (d.shown before) (λ held. n ≡ length held)
    → OnOk result (IfSome (d.shown now) (λ held. max n end ≡ length held))

-- ---- an append

-- a text with a whole cell, but for its gate, and a closed gate after its own closed gate
pub record IsStaged (shape : Shape) (second : Bool) (closed : ℕ) (image : List ℕ) (bodies : List (List ℕ)) (body : List ℕ) : Type 0 where
  pub text : IsText shape second closed image bodies
  pub cell : Holds (closed + 1) (after_gate body ++ 0 ∷ []) image

-- with one body more or without it, in the same bank
abbrev pub TextBeforeOrAfter : Shape → Bool → ℕ → List (List ℕ) → List ℕ → List ℕ → Type 0
TextBeforeOrAfter shape second closed bodies body image =
    IsText shape second closed image bodies ⊎ IsText shape second (closed + need_of body) image (bodies ++ body ∷ [])

-- after Ok the cell of this body stands after the closed gate
abbrev pub AppendsCell : {T D : Type 0} → Ghosts D → D → D → ℕ → List ℕ → Result T Failed → Type 0
AppendsCell d before now closed body result =
    (shape : Shape) (second : Bool) (bodies : List (List ℕ)) → length body ≤ shape.largest
    → closed + 1 + need_of body ≤ begin shape second + shape.bank → AreTexts d before shape second closed bodies
    → OnOk result (AreTexts d now shape second (closed + need_of body) (bodies ++ body ∷ []))

-- a crash at any moment leaves the text with this body or without it
abbrev pub LeavesCell : {D : Type 0} → Ghosts D → D → D → ℕ → List ℕ → Type 0
LeavesCell d before now closed body =
    (shape : Shape) (second : Bool) (bodies : List (List ℕ)) → length body ≤ shape.largest
    → closed + 1 + need_of body ≤ begin shape second + shape.bank → AreTexts d before shape second closed bodies
    → AnyMoment d.moment d.left_since before now (TextBeforeOrAfter shape second closed bodies body)

-- the same of a cell that is spelled already
abbrev pub WritesCell : {T D : Type 0} → Ghosts D → D → D → ℕ → List ℕ → Result T Failed → Type 0
WritesCell d before now closed cell result =
    (shape : Shape) (second : Bool) (bodies : List (List ℕ)) (body : List ℕ)
    → AreTexts d before shape second closed bodies → length body ≤ shape.largest
    → closed + 1 + need_of body ≤ begin shape second + shape.bank → cell ≡ after_gate body ++ 0 ∷ []
    → OnOk result (AreTexts d now shape second (closed + length cell) (bodies ++ body ∷ []))

abbrev pub LeavesSpelled : {D : Type 0} → Ghosts D → D → D → ℕ → List ℕ → Type 0
LeavesSpelled d before now closed cell =
    (shape : Shape) (second : Bool) (bodies : List (List ℕ)) (body : List ℕ)
    → AreTexts d before shape second closed bodies → length body ≤ shape.largest
    → closed + 1 + need_of body ≤ begin shape second + shape.bank → cell ≡ after_gate body ++ 0 ∷ []
    → AnyMoment d.moment d.left_since before now (TextBeforeOrAfter shape second closed bodies body)

-- ---- a rewrite

-- these bytes lie in the bank that is not live
pub record IsInOther (shape : Shape) (second : Bool) (at n : ℕ) : Type 0 where
  pub after : begin shape (not second) ≤ at
  pub within : at + n ≤ begin shape (not second) + shape.bank

-- cells of these bodies end at this place of that bank, and a gate fits there
pub record IsWhole (shape : Shape) (second : Bool) (at : ℕ) (put : List (List ℕ)) : Type 0 where
  pub place : at ≡ end_of shape (not second) put
  pub within : length (cells put) + 1 ≤ shape.bank
  pub fit : AllFit shape.largest put

-- after Ok what the disk read as still stands there
abbrev pub KeepsBytes : {T D : Type 0} → Ghosts D → D → D → Result T Failed → Type 0
KeepsBytes d before now result =
    (at : ℕ) (bytes : List ℕ) → IfSome (d.shown before) (Holds at bytes)
    → OnOk result (IfSome (d.shown now) (Holds at bytes))

-- writing at the end of a disk of this length keeps each text
abbrev pub KeepsTexts : {T D : Type 0} → Ghosts D → D → D → ℕ → Result T Failed → Type 0
KeepsTexts d before now long result =
    (shape : Shape) (second : Bool) (closed : ℕ) (bodies : List (List ℕ)) → closed + 1 ≤ long
    → AreTexts d before shape second closed bodies → OnOk result (AreTexts d now shape second closed bodies)

abbrev pub LeavesTexts : {D : Type 0} → Ghosts D → D → D → ℕ → Type 0
LeavesTexts d before now long =
    (shape : Shape) (second : Bool) (closed : ℕ) (bodies : List (List ℕ)) → closed + 1 ≤ long
    → AreTexts d before shape second closed bodies → StayTexts d before now shape second closed bodies

-- after Ok the cell of this body stands after those of the bodies that were put
abbrev pub PutsCell : {T D : Type 0} → Ghosts D → D → D → ℕ → List ℕ → Result T Failed → Type 0
PutsCell d before now at body result =
    (from : ℕ) (put : List (List ℕ)) → at ≡ from + length (cells put)
    → IfSome (d.shown before) (Holds from (cells put))
    → OnOk result (IfSome (d.shown now) (Holds from (cells (put ++ body ∷ []))))

-- writing that many bytes at a place of the other bank keeps each text
abbrev pub KeepsLive : {T D : Type 0} → Ghosts D → D → D → ℕ → ℕ → ℕ → Result T Failed → Type 0
KeepsLive d before now long at n result =
    (shape : Shape) (second : Bool) (closed : ℕ) (bodies : List (List ℕ)) → closed + 1 ≤ long
    → IsInOther shape second at n → AreTexts d before shape second closed bodies
    → OnOk result (AreTexts d now shape second closed bodies)

abbrev pub LeavesLive : {D : Type 0} → Ghosts D → D → D → ℕ → ℕ → ℕ → Type 0
LeavesLive d before now long at n =
    (shape : Shape) (second : Bool) (closed : ℕ) (bodies : List (List ℕ)) → closed + 1 ≤ long
    → IsInOther shape second at n → AreTexts d before shape second closed bodies
    → StayTexts d before now shape second closed bodies

-- after Ok the other bank is live, with the bodies that were put into it
abbrev pub SwitchesBanks : {T D : Type 0} → Ghosts D → D → D → ℕ → ℕ → Bool → Result T Failed → Type 0
SwitchesBanks d before now long at second result =
    (shape : Shape) (closed : ℕ) (bodies put : List (List ℕ)) → closed + 1 ≤ long → IsWhole shape second at put
    → IfSome (d.shown before) (Holds (begin shape (not second)) (cells put))
    → AreTexts d before shape second closed bodies → OnOk result (AreTexts d now shape (not second) at put)

-- a crash at any moment leaves the one bank live or the other
abbrev pub LeavesEitherBank : {D : Type 0} → Ghosts D → D → D → ℕ → ℕ → Bool → Type 0
LeavesEitherBank d before now long at second =
    (shape : Shape) (closed : ℕ) (bodies put : List (List ℕ)) → closed + 1 ≤ long → IsWhole shape second at put
    → IfSome (d.shown before) (Holds (begin shape (not second)) (cells put))
    → AreTexts d before shape second closed bodies
    → AnyMoment d.moment d.left_since before now (OldOrNew shape bodies put)

-- ---- an opening

-- a cell with this body, or a closed gate
abbrev pub StandsAt : ℕ → ℕ → List ℕ → Option (List ℕ) → Type 0
StandsAt largest at held (Some body) = (length body ≤ largest) × Holds at (165 ∷ after_gate body) held
StandsAt largest at held None = (gate : ℕ) × (gate ≢ 165) × Holds at (gate ∷ []) held

-- these bodies were read from a bank up to a place
pub record ReadUpTo (shape : Shape) (second : Bool) (at : ℕ) (held : List ℕ) (bodies : List (List ℕ)) : Type 0 where
  pub place : at ≡ end_of shape second bodies
  pub read : HasCells shape second held bodies

-- the cause of an error in reading, with what NotAStore says of its place
abbrev pub Unread : Type 0 → Option (List ℕ) → (List ℕ → ℕ → Type 0) → LogError → Type 0
Unread rose shown P Disk = rose
Unread rose shown P (NotAStore at) = IfSome shown (λ held. P held at)
Unread rose shown P Memory = Unit {0}
