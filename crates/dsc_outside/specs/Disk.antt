-- What the calls of a disk do to what it holds, and what a crash may leave.
use Rattle.std.specs.Prelude.{◌≡◌, ◌⊎◌, ℕ, ◌+◌, ◌≤◌, min, max, List, ◌++◌, length, take, drop, Option, Some, option_map, Result, IfOk, IfSome, OnOk}

-- these bytes over what is there from this place on
abbrev pub written : ℕ → List ℕ → List ℕ → List ℕ
written at bytes held = take at held ++ bytes ++ drop (at + length bytes) held

-- a write of n bytes that a crash cuts short: any bytes in the range and past the old end, the same elsewhere
pub record Torn (at n : ℕ) (old new : List ℕ) : Type 0 where
  pub before : take at new ≡ take at old
  pub after : drop (at + n) new ≡ drop (at + n) old
  pub no_shorter : length old ≤ length new
  pub no_longer : length new ≤ max (length old) (at + n)

-- a cut that a crash may undo in part: any bytes after it, up to the old end
pub record Cut (n : ℕ) (old new : List ℕ) : Type 0 where
  pub no_shorter : min n (length old) ≤ length new
  pub no_longer : length new ≤ length old
  pub front : take n new ≡ take n old

-- all these images have this
abbrev pub Each : (List ℕ → Type 0) → (List ℕ → Type 0) → Type 0
Each images P = (c : List ℕ) → images c → P c

-- one of these images, after a step
abbrev pub From : (List ℕ → List ℕ → Type 0) → (List ℕ → Type 0) → List ℕ → Type 0
From step images c = (d : List ℕ) × images d × step d c

-- each new image is an old one after a step
abbrev pub Follows : (List ℕ → List ℕ → Type 0) → (List ℕ → Type 0) → (List ℕ → Type 0) → Type 0
Follows step old new = (c : List ℕ) → new c → From step old c

-- no new image comes
abbrev pub Within : (List ℕ → Type 0) → (List ℕ → Type 0) → Type 0
Within old new = (c : List ℕ) → new c → old c

-- what a read gives is the only image
abbrev pub Only : Option (List ℕ) → (List ℕ → Type 0) → Type 0
Only shown images = (c : List ℕ) → images c → shown ≡ Some c

-- time goes on: a crash since t might have left what it might have left before, or what it may leave now
pub record Elapses (before now : ℕ) (past since : ℕ → List ℕ → Type 0) (images : List ℕ → Type 0) : Type 0 where
  pub later : before ≤ now
  pub nothing_else : (t : ℕ) (c : List ℕ) → t ≤ before → since t c → past t c ⊎ images c
  pub keeps : (t : ℕ) (c : List ℕ) → t ≤ before → past t c → since t c

-- so it is between two values of a disk, by what the disk says of its moments and of its images
abbrev pub TimePasses : {D : Type 0} → (D → ℕ) → (D → ℕ → List ℕ → Type 0) → (D → List ℕ → Type 0) → D → D → Type 0
TimePasses moment left_since images old new = Elapses (moment old) (moment new) (left_since old) (left_since new) (images new)

-- where what the disk holds is shown, the bytes that were read stand there from this place on
abbrev pub ReadsFrom : {E : Type 0} → ℕ → Option (List ℕ) → Result ℕ E → List ℕ → Type 0
ReadsFrom at shown result into = IfOk result (λ n. IfSome shown (λ held. take n into ≡ take (length into) (drop at held)))

-- a call that succeeded changed what is held so, where that is shown
abbrev pub Makes : {A E : Type 0} → (List ℕ → List ℕ) → Option (List ℕ) → Option (List ℕ) → Result A E → Type 0
Makes change before after result = OnOk result (after ≡ option_map change before)

-- every image at a moment since old has P
pub record AnyMoment {D : Type 0} (moment : D → ℕ) (left_since : D → ℕ → List ℕ → Type 0) (old new : D) (P : List ℕ → Type 0) : Type 0 where
  pub later : moment old ≤ moment new
  pub each : (c : List ℕ) → left_since new (moment old) c → P c
  -- for a run that began earlier
  pub before : (t : ℕ) (c : List ℕ) → t ≤ moment old → left_since new t c → left_since old t c ⊎ P c

-- nothing was changed: what a read gives is the same, and no image came that was not there
pub record Still {D : Type 0} (shown : D → Option (List ℕ)) (images : D → List ℕ → Type 0) (moment : D → ℕ) (left_since : D → ℕ → List ℕ → Type 0) (old new : D) : Type 0 where
  pub same : shown new ≡ shown old
  pub within : Within (images old) (images new)
  pub any_moment : AnyMoment moment left_since old new (images old)
