-- Connections that are still to come, and those that were handed back.
use Rattle.std.specs.Prelude.{◌≡◌, ℕ, List, [], ◌∷◌, ◌++◌, Option, Some, None}
use Rattle.dsc_outside.specs.declared.ends.Ends.{Ghosts}
use Rattle.pull_outside.specs.declared.door.Parting.{Parting}

-- what is known of a connection: what it has left and what it took, where it shows them, and its count of faults
pub record Known : Type 0 where
  pub left : Option (List ℕ)
  pub held : Option (List ℕ)
  pub faults : ℕ

-- what is known of a connection, of a value of its type
abbrev pub known_of : {C : Type 0} → Ghosts C → C → Known
known_of ghosts conn = record { left = ghosts.left conn; held = ghosts.held conn; faults = ghosts.faults conn }

-- a connection that was handed back: what is known of it, and how it is to end
pub record HandedBack : Type 0 where
  pub known : Known
  pub parting : Parting

-- the first of those that are to come is taken. A door that does not show them shows nothing afterwards either
abbrev pub TakesFirst : Option (List Known) → Option (List Known) → Known → Type 0
TakesFirst None after taken = after ≡ None
TakesFirst (Some []) after taken = ⊥
TakesFirst (Some (known ∷ rest)) after taken = (taken ≡ known) × (after ≡ Some rest)

-- it is the last of those that were handed back
abbrev pub GetsBack : Option (List HandedBack) → Option (List HandedBack) → HandedBack → Type 0
GetsBack None after given = after ≡ None
GetsBack (Some before) after given = after ≡ Some (before ++ given ∷ [])
