-- What a crash may leave of a disk, as a set of images.
use Rattle.std.specs.Prelude.{◌≡◌, ◌⊎◌, ℕ, ◌+◌, ◌<◌, ◌≤◌, min, max, List, [], ◌∷◌, length, take, get_or, ⊤}
use Rattle.dsc_outside.specs.Disk.{written}

-- a disk, and what has happened to it since the last sync that succeeded
pub record DiskState : Type 0 where
  -- what a read gives
  pub held : List ℕ
  -- what that sync left
  pub synced : List ℕ
  -- the least and the greatest length since then
  pub least : ℕ
  pub greatest : ℕ
  -- the place and the length of each write since then, the latest first
  pub ranges : List (ℕ × ℕ)

-- the place is in none of the ranges
abbrev pub IsOutside : List (ℕ × ℕ) → ℕ → Type 0
IsOutside [] k = ⊤
IsOutside (range ∷ ranges) k = ((k < range.0) ⊎ (range.0 + range.1 ≤ k)) × IsOutside ranges k

-- Its length lies between the least and the greatest since the last sync that succeeded; at each place below the
-- least that was not written since, it holds what was synced.
pub record IsImage (state : DiskState) (image : List ℕ) : Type 0 where
  pub no_shorter : state.least ≤ length image
  pub no_longer : length image ≤ state.greatest
  pub same : (k : ℕ) → k < state.least → IsOutside state.ranges k → get_or image k 0 ≡ get_or state.synced k 0

-- right after a sync: these bytes are the one image
abbrev pub settled : List ℕ → DiskState
settled bytes = record { held = bytes; synced = bytes; least = length bytes; greatest = length bytes; ranges = [] }

-- it holds these bytes now
abbrev pub now_holding : List ℕ → DiskState → DiskState
now_holding bytes state = record state { held = bytes; least = min state.least (length bytes); greatest = max state.greatest (length bytes) }

-- after a write of these bytes from that place on
abbrev pub after_write : ℕ → List ℕ → DiskState → DiskState
after_write at bytes state = now_holding (written at bytes state.held) (record state { ranges = (at, length bytes) ∷ state.ranges })

-- after a cut to that length
abbrev pub after_cut : ℕ → DiskState → DiskState
after_cut to state = now_holding (take to state.held) state

-- after a sync that succeeded
abbrev pub after_sync : DiskState → DiskState
after_sync state = settled state.held

-- what is held and what was synced are two of the images
pub record IsHonest (state : DiskState) : Type 0 where
  pub held : IsImage state state.held
  pub synced : IsImage state state.synced
