-- A play as a chain of starts: what each leaves on its disk the next one opens, and its lines tell of a chain of sound nodes.
use Rattle.std.specs.Prelude.{◌≡◌, List, [], ◌∷◌, ◌++◌, ℕ, Option, Some, map}
use Rattle.std.specs.List.{flat_map}
use Rattle.dsc_outside.specs.declared.disk.Disk as disks
use Rattle.node_state.specs.Sound.{Sound}
use Rattle.node_state.specs.Table.{new_node}
use Rattle.node_state.specs.declared.node.Node.{Node}
use Rattle.node_store.specs.Stands.{Stands}
use Rattle.rehearsal.specs.Objects.{disk_ghosts, stopped_ghosts}
use Rattle.rehearsal.specs.Playing.{Ends, EndsOrStops, IsPlayed, Starts, input_of}
use Rattle.rehearsal.specs.Rows.{row_line, slots_of}
use Rattle.rehearsal.specs.World.{IsFirst, World}
use Rattle.rehearsal.specs.declared.row.StartRow.{StartRow}
use Rattle.rehearsal.specs.declared.starter.Starter as starters
use Rattle.rehearsal.specs.declared.step.Step.{Step}
use Rattle.rehearsal.specs.declared.step.Step.TheVariants.{Shelf, Key, Wants, Start}
use Rattle.rehearsal.specs.declared.step.StopAt.{StopAt}

-- ---- the disk of one start

-- At the beginning the world's image is what the disk reads as and all that a crash may leave; at the end a crash may leave the next one's.
pub record Crosses {D : Type 0} (d : disks.Ghosts D) (before after : D) (world next : World) : Type 0 where
  pub reads : d.shown before ≡ Some world.image
  pub begins : (image : List ℕ) → d.images before image → image ≡ world.image
  pub leaves : d.images after next.image

-- so it is with each start, without a stop and with one, wherever it was stopped
abbrev pub EndsCross : {S : Type 0} → starters.Ghosts S → Type 0
EndsCross program =
    (words : List (List ℕ)) (input : List ℕ) (world : World) (row : StartRow) (next : World) (start : Ends program words input world row next)
    → Crosses disk_ghosts start.before.disk start.after.disk world next

abbrev pub StopsCross : {S : Type 0} → starters.Ghosts S → Type 0
StopsCross program =
    (stop : StopAt) (words : List (List ℕ)) (input : List ℕ) (world : World) (row : StartRow) (next : World) (start : EndsOrStops program stop.part words input world row next)
    → Crosses stopped_ghosts start.before.disk start.after.disk world next

-- ---- the starts of a play

-- one start, with the world that it begins in and the one that it leaves
pub record PlayedStart {S : Type 0} (program : starters.Ghosts S) : Type 0 where
  pub words : List (List ℕ)
  pub input : Option (List ℕ)
  pub stop : Option StopAt
  pub world : World
  pub row : StartRow
  pub next : World
  pub starts : Starts program stop words (input_of input) world row next

-- the line that it is of
abbrev pub step_of : {S : Type 0} {program : starters.Ghosts S} → PlayedStart program → Step
step_of one = Start one.words one.input one.stop

-- those of the steps that are starts
abbrev pub starts_of : List Step → List Step
starts_of [] = []
starts_of (Shelf configuration content ∷ steps) = starts_of steps
starts_of (Key key ∷ steps) = starts_of steps
starts_of (Wants id ∷ steps) = starts_of steps
starts_of (Start words input stop ∷ steps) = Start words input stop ∷ starts_of steps

-- between two starts the shelf may change, and more resources may want a reboot; all else is as it was
pub record LiesBetween (world next : World) : Type 0 where
  pub image : next.image ≡ world.image
  pub wanting : List (List ℕ)
  pub host : next.host ≡ record world.host { wanting = world.host.wanting ++ wanting }
  pub server : next.server ≡ record world.server { shelf = next.server.shelf }
  pub starts : next.starts ≡ world.starts

-- Each start begins with what the one before it left, over the node that its disk then stands for, which is sound, and tells of the node after it.
abbrev pub Chain : {S : Type 0} {program : starters.Ghosts S} → World → Node → List (PlayedStart program) → World → Type 0
Chain world node [] last = LiesBetween world last
Chain world node (one ∷ more) last =
    LiesBetween world one.world × Stands one.world.image node × Sound node
    × ((after : Node) × Stands one.next.image after × Sound after × (one.row.slots ≡ slots_of after) × Chain one.next after more last)

-- the text is the lines of a chain of starts, one for each line of the script that is a start, from a new node, an empty machine and a new server on
pub record AreOfStarts {S : Type 0} (program : starters.Ghosts S) (steps : List Step) (text : List ℕ) : Type 0 where
  pub first : World
  pub begins : IsFirst first
  pub starts : List (PlayedStart program)
  pub asked : map step_of starts ≡ starts_of steps
  pub last : World
  pub chain : Chain first new_node starts last
  pub is : text ≡ flat_map (λ (one : PlayedStart program). row_line one.row) starts

abbrev pub PlaysAreStarts : {S : Type 0} → starters.Ghosts S → Type 0
PlaysAreStarts program = (steps : List Step) (text : List ℕ) → IsPlayed program steps text → AreOfStarts program steps text
