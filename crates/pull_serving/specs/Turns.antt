-- Connections, one after the other.
use Rattle.std.specs.Prelude.{◌≡◌, ◌⊎◌, ℕ, ◌≤◌, false, List, [], ◌∷◌, ◌++◌, map, Option, Some, None, ⊤}
use Rattle.dsc_outside.specs.declared.disk.Disk.{Ghosts}
use Rattle.gate_log.specs.Log.{AtAnyMoment}
use Rattle.gate_log.specs.Standing.{StandsAtAnyMoment, StandsFor}
use Rattle.pull_outside.specs.Door.{GetsBack, HandedBack, Known, TakesFirst}
use Rattle.pull_outside.specs.Shelf.{Contents}
use Rattle.pull_outside.specs.declared.door.Door as doors
use Rattle.pull_store.specs.Stands.{Stands}
use Rattle.pull_store.specs.Store.{IsReady, Untouched, is_spent}
use Rattle.pull_serving.specs.declared.connection.ConnectionEnd.{ConnectionEnd}
use Rattle.pull_serving.specs.Parting.{parting_of}
use Rattle.pull_serving.specs.Turn.{Acknowledges, Answering, IsTurn, MayLeave, Rests, State, Turn, state}

-- each was served in its turn over what the one before it left, while the store was not spent
abbrev pub Runs : Answering → Option Contents → State → List Turn → State → Type 0
Runs how shelf first [] last = last ≡ first
Runs how shelf first (t ∷ ts) last = (t.before ≡ first) × (is_spent first.store ≡ false) × IsTurn how shelf t × Runs how shelf t.after ts last

abbrev pub came : Turn → Known
came t = t.came

-- the connection as it was left, with the parting of the turn's end
abbrev pub handed_back : Turn → HandedBack
handed_back t = record { known = t.went; parting = parting_of t.end }

-- they were the first that were to come
abbrev pub Took : Option (List Known) → Option (List Known) → List Turn → Type 0
Took None new turns = new ≡ None
Took (Some known) new turns = (rest : List Known) × (known ≡ map came turns ++ rest) × (new ≡ Some rest)

-- they were handed back in order, each with the parting of its turn's end
abbrev pub Gave : Option (List HandedBack) → Option (List HandedBack) → List Turn → Type 0
Gave None new turns = new ≡ None
Gave (Some before) new turns = new ≡ Some (before ++ map handed_back turns)

-- the image stands for the rows that were there first, or for rows that one of the turns may leave
abbrev pub Visits : Option Contents → State → List Turn → List ℕ → Type 0
Visits shelf first [] image = StandsFor Stands (λ rows. rows ≡ first.store.rows) image
Visits shelf first (t ∷ ts) image = StandsFor Stands (MayLeave shelf t.received t.before.store) image ⊎ Visits shelf t.after ts image

-- from the end of each turn on, unless the disk failed in it, every image stands for the rows that it left, or for rows that a later one may leave
abbrev pub Lasts : Option Contents → ℕ → (ℕ → List ℕ → Type 0) → List Turn → Type 0
Lasts shelf now since [] = ⊤
Lasts shelf now since (t ∷ ts) =
    (t.after.moment ≤ now) × (is_spent t.after.store ≡ false → (image : List ℕ) → since t.after.moment image → Visits shelf t.after ts image) × Lasts shelf now since ts

-- The disk went with a turn: the store is of it or spent, a crash at any moment left rows that the turn may leave, what was acknowledged is on
-- it, and what is no request left it as it was.
pub record GoesWith {D : Type 0} (d : Ghosts D) (shelf : Option Contents) (old new : D) (t : Turn) : Type 0 where
  pub is_state : t.after ≡ state d new t.after.store t.after.shelf_faults
  pub ready : IsReady d new t.after.store
  pub any_moment : StandsAtAnyMoment d old new Stands (MayLeave shelf t.received t.before.store)
  pub acknowledged : Acknowledges d t.received t.before.store new t.after.store t.end
  pub rests : Rests t.received t.before.store (Untouched t.before.store t.after.store old new)

-- the disk went with the turns from one to the next
abbrev pub Passes : {D : Type 0} → Ghosts D → Option Contents → D → List Turn → D → Type 0
Passes {D = D} d shelf old [] new = new ≡ old
Passes {D = D} d shelf old (t ∷ ts) new = (mid : D) × GoesWith d shelf old mid t × Passes d shelf mid ts new

-- what is known of the door: the connections that are still to come, those that were handed back, each with its parting, and how many were given and not handed back
pub record Doorway : Type 0 where
  pub coming : Option (List Known)
  pub back : Option (List HandedBack)
  pub out : ℕ

abbrev pub doorway_of : {G C : Type 0} → doors.Ghosts G C → G → Doorway
doorway_of ghosts door = record { coming = ghosts.coming door; back = ghosts.back door; out = ghosts.out door }

-- one turn: the next connection was taken, served, and handed back with the parting of the turn's end
pub record IsStep {D : Type 0} (how : Answering) (d : Ghosts D) (old new : D) (shelf : Option Contents) (first last : State) (door door_after : Doorway) (end : ConnectionEnd) : Type 0 where
  pub turn : Turn
  pub starts : turn.before ≡ first
  pub leaves : turn.after ≡ last
  pub ends : turn.end ≡ end
  pub fresh : is_spent first.store ≡ false
  pub is_turn : IsTurn how shelf turn
  pub took : TakesFirst door.coming door_after.coming turn.came
  pub gave : GetsBack door.back door_after.back (handed_back turn)
  pub none_out : door_after.out ≡ door.out
  pub goes : GoesWith d shelf old new turn
  pub ends_now : turn.after.moment ≡ d.moment new
  pub stands : is_spent turn.after.store ≡ false → (image : List ℕ) → d.left_since new turn.after.moment image → StandsFor Stands (λ rows. rows ≡ turn.after.store.rows) image

-- all turns of a run, and what a crash at any moment of it leaves; what was printed is said of them
pub record IsRun {D : Type 0} (how : Answering) (d : Ghosts D) (old new : D) (shelf : Option Contents) (first last : State) (door door_after : Doorway) (Printed : List Turn → Type 0) : Type 0 where
  pub turns : List Turn
  pub runs : Runs how shelf first turns last
  pub took : Took door.coming door_after.coming turns
  pub gave : Gave door.back door_after.back turns
  pub none_out : door_after.out ≡ door.out
  pub printed : Printed turns
  pub passes : Passes d shelf old turns new
  pub any_moment : AtAnyMoment d old new (Visits shelf first turns)
  pub lasts : Lasts shelf (d.moment new) (d.left_since new) turns
