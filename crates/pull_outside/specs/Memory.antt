-- A shelf and a door in memory.
use Rattle.std.specs.Prelude.{◌≡◌, ◌⊎◌, ℕ, Bool, true, false, not, nat_lt, List, [], ◌∷◌, length, map, Option, Some, None, is_some, Result, Ok, Err, if◌then◌else◌}
use Rattle.pull_outside.specs.declared.shelf.ShelfError.{ShelfError}
use Rattle.pull_outside.specs.declared.shelf.ShelfError.TheVariants as errors
use Rattle.pull_outside.specs.declared.shelf.TheConstants.{LONGEST_ITEM}
use Rattle.pull_outside.specs.declared.memory.conn.ClosedConn.{ClosedConn}
use Rattle.pull_outside.specs.declared.memory.contents.ShelfContents.{ShelfContents}
use Rattle.pull_outside.specs.Calls.{CallCount, counted, is_to_fail, uncalled, with_fault}
use Rattle.pull_outside.specs.Conn.{ConnInMemory}
use Rattle.pull_outside.specs.Door.{HandedBack, Known}
use Rattle.pull_outside.specs.Shelf.{Contents}

-- ---- shelves

abbrev pub contents_of : ShelfContents → Contents
contents_of contents = record { configurations = contents.configurations; packages = contents.packages; keys = contents.keys }

pub record ShelfInMemory : Type 0 where
  pub contents : Contents
  pub calls : CallCount

-- a shelf before its first call
abbrev pub new_shelf : ShelfContents → List ℕ → ShelfInMemory
new_shelf contents failing = record { contents = contents_of contents; calls = uncalled failing }

-- an item that is too long is a failure
abbrev pub is_too_long : Option (List ℕ) → Bool
is_too_long None = false
is_too_long (Some item) = nat_lt LONGEST_ITEM (length item)

-- a look for an item fails exactly where it is to fail, or the item is too long
abbrev pub Looks : CallCount → Option (List ℕ) → Result Bool ShelfError → CallCount → Type 0
Looks old item (Ok there) new = (is_to_fail old ≡ false) × (is_too_long item ≡ false) × (there ≡ is_some item) × (new ≡ counted old)
Looks old item (Err errors.Failed) new =
    ((is_to_fail old ≡ true) × (new ≡ counted old)) ⊎ ((is_to_fail old ≡ false) × (is_too_long item ≡ true) × (new ≡ with_fault (counted old)))
Looks old item (Err errors.Memory) new = (is_to_fail old ≡ false) × (new ≡ counted old)

-- ---- doors

pub record DoorInMemory : Type 0 where
  -- the connections that are still to come, in order
  pub coming : List ConnInMemory
  -- those that were handed back, in order
  pub back : List ClosedConn
  -- how many were given and not handed back
  pub out : ℕ
  pub calls : CallCount

-- a door before its first call
abbrev pub new_door : List ConnInMemory → List ℕ → DoorInMemory
new_door coming failing = record { coming = coming; back = []; out = 0; calls = uncalled failing }

abbrev pub known : ConnInMemory → Known
known conn = record { left = Some conn.left; held = Some conn.held; faults = conn.calls.faults }

abbrev pub handed_back : ClosedConn → HandedBack
handed_back closed = record { known = known closed.conn; parting = closed.parting }

-- what a door in memory shows of the connections that are to come
abbrev pub coming_of : DoorInMemory → Option (List Known)
coming_of door = Some (map known door.coming)

-- what it shows of those that were handed back
abbrev pub back_of : DoorInMemory → Option (List HandedBack)
back_of door = Some (map handed_back door.back)

abbrev pub is_empty : List ConnInMemory → Bool
is_empty [] = true
is_empty (conn ∷ conns) = false

-- after the next call, which failed where it was to fail, or where no connection was left
abbrev pub counted_with : Bool → CallCount → CallCount
counted_with has calls = if is_to_fail calls then counted calls else if has then counted calls else with_fault (counted calls)

-- the same of a door
abbrev pub counted_next : DoorInMemory → CallCount
counted_next door = counted_with (not (is_empty door.coming)) door.calls
