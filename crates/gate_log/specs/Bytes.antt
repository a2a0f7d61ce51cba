-- The bytes that the calls of a log leave on its disk.
use Rattle.std.specs.Prelude.{◌≡◌, ℕ, ◌+◌, ◌-◌, ◌<◌, ◌≤◌, Bool, true, false, not, List, [], ◌∷◌, ◌++◌, length, take, replicate, Some, option_map, Result, OnOk}
use Rattle.dsc_outside.specs.declared.disk.Disk.{Ghosts}
use Rattle.dsc_outside.specs.Disk.{Only, written}
use Rattle.gate_log.specs.declared.error.LogError.{LogError}
use Rattle.gate_log.specs.Text.{after_gate, magic}
use Rattle.gate_log.specs.Log.{LogTerm}

-- ---- files

-- the cell of a body from this place on, and a closed gate after it
abbrev pub with_cell : ℕ → List ℕ → List ℕ → List ℕ
with_cell place body held = written place (165 ∷ (after_gate body ++ 0 ∷ [])) held

-- zeros from the end up to this place
abbrev pub with_zeros : ℕ → List ℕ → List ℕ
with_zeros to held = held ++ replicate (to - length held) 0

-- the selector of a bank: the digit 1 or 2
abbrev pub selector_of : Bool → ℕ
selector_of false = 49
selector_of true = 50

-- a closed gate at this place, and the selector of this bank
abbrev pub with_bank : ℕ → Bool → List ℕ → List ℕ
with_bank closed second held = written 7 (selector_of second ∷ []) (written closed (0 ∷ []) held)

-- a cell in the other bank, which is filled to this place
abbrev pub with_put : ℕ → List ℕ → List ℕ → List ℕ
with_put at body held = with_cell at body (with_zeros at held)

-- the end of that bank, which is now live
abbrev pub with_switch : ℕ → Bool → List ℕ → List ℕ
with_switch at second held = with_bank at second (with_zeros at held)

abbrev pub new_store : List ℕ
new_store = magic ++ selector_of false ∷ 0 ∷ []

-- an opening makes a new store of a file of at most nine bytes, and cuts any other after its closed gate
pub data Opens (closed : ℕ) (old new : List ℕ) : Type 0 where
  made : length old ≤ 9 → new ≡ new_store → Opens closed old new
  cut : 9 < length old → new ≡ take (closed + 1) old → Opens closed old new

-- ---- calls

-- the disk reads as before but for this change
abbrev pub ReadsAfter : {D : Type 0} → Ghosts D → D → D → (List ℕ → List ℕ) → Type 0
ReadsAfter d before now change = d.shown now ≡ option_map change (d.shown before)

-- so it does, and a crash leaves that
pub record Leaves {D : Type 0} (d : Ghosts D) (before now : D) (change : List ℕ → List ℕ) : Type 0 where
  pub reads : ReadsAfter d before now change
  pub only : Only (d.shown now) (d.images now)

-- an append puts the cell in the place of the closed gate
abbrev pub AppendsBytes : {T D : Type 0} → Ghosts D → D → D → LogTerm → List ℕ → Result T LogError → Type 0
AppendsBytes d before now old body result = OnOk result (Leaves d before now (with_cell old.closed body))

-- a put fills up to the place that the other bank is filled to, and writes the cell there
abbrev pub PutsBytes : {T D : Type 0} → Ghosts D → D → D → LogTerm → List ℕ → Result T LogError → Type 0
PutsBytes d before now old body result =
    (at : ℕ) → old.filled ≡ Some at → OnOk result (ReadsAfter d before now (with_put at body))

-- the end of a rewrite writes the closed gate there, and the selector
abbrev pub SwitchesBytes : {T D : Type 0} → Ghosts D → D → D → LogTerm → Result T LogError → Type 0
SwitchesBytes d before now old result =
    (at : ℕ) → old.filled ≡ Some at
    → OnOk result (Leaves d before now (with_switch at (not old.second)))
